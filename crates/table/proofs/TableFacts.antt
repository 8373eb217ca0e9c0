-- What sound templates are, as facts, and what the code may rest on where the words of a table say them. Assumes nothing.
use Rattle.std.proofs.Common.{Result, Ok, Err}
use Rattle.std.specs.Result.{is_ok}
use Prim.Native.Nat.{ℕ, zero, suc, ◌+◌, ◌≤◌, ◌<◌}
use mathlib.Core.Path.{◌≡◌, refl}
use mathlib.Core.Bool.{Bool, true, not, ◌&&◌}
use mathlib.Core.List.{List, [], ◌∷◌, map}
use mathlib.Core.Logic.{⊎_elim}
use native.Mathlib.Omega.{arith}
use borrow.Author.Tests.{ltb-false, not-false, ne_eqb, lt-ltb}
use lib.Dec.{ltb}
use lib.ListN.{length, get_or}
use Rattle.answer.specs.declared.Refusal.{Refusal}
use Rattle.answer.specs.declared.Refusal.TheVariants.{PlanRule, PlanContext}
use Rattle.answer.specs.Verdict.{stop_if, ◌then◌}
use Rattle.answer.proofs.Tables.{go_test, go-rest, then_first, then_second}
use Rattle.answer.proofs.Tests.{and_both, order}
use Rattle.octets.specs.Scan.{from}
use Rattle.table.specs.declared.Segment.{Segment}
use Rattle.table.specs.Limits.{max_templates, max_segments, static_limit}
use Rattle.table.specs.Templates.{Piece, segment_of, Sum, no_sum, sum_at, Template, segments_of}
use Rattle.table.specs.Words.{segment_at, field_under, checksum_under, head_of, sum_of, template_of, count_in, words_at, templates_of}
use Rattle.table.specs.Rules.{id_rule, segment_rule, clear_of, sum_rule, segments_fault, all_clear, sum_fault, template_fault, templates_fault, plan_fault, goes, sound_templates}
use Rattle.table.specs.Sound.{Ascends, ClearOf, SumFacts, SoundSum, SoundTemplate, SoundTemplates, UsableTemplate, Usable}
use Rattle.table.proofs.RuleCases.{id_facts, segment_facts, clear_facts, sum_facts}
use Rattle.table.proofs.Views.{field-good}
use Rattle.table.proofs.Judging.{segments-of, length_pieces, length_templates, templates-by}

-- where a test that is to hold is not refused, it holds
pub held : (b : Bool) (r : Refusal) (v : Result Unit Refusal) → stop_if (not b) r v ≡ Ok tt → b ≡ true
held b r v e = not-false b (go_test (not b) r v e)

-- ---- segments

ascends : (ps : List Piece) (ended : ℕ) → ended ≤ static_limit → segments_fault ended (map segment_of ps) ≡ Ok tt → Ascends ended ps
unfolding Ascends
ascends [] ended h e = h
ascends (p ∷ ps) ended h e =
    let n = length p.bytes in
    let rest = segments_fault (p.offset + n) (map segment_of ps) in
    let f = segment_facts ended p.offset n (held (segment_rule ended p.offset n) PlanRule rest e) in
    (f.behind, ascends ps (p.offset + n) f.within (go-rest (not (segment_rule ended p.offset n)) PlanRule rest e))

-- each of n segments from i on ends within the limit
within : (f : ℕ → Segment) (i n ended : ℕ) → segments_fault ended (from f i n) ≡ Ok tt → (j : ℕ) → i ≤ j → j < i + n
    → (f j).offset + (f j).length ≤ static_limit
within f i zero ended e j a b = absurd (omega arith)
within f i (suc n) ended e j a b =
    let s = f i in
    let rest = segments_fault (s.offset + s.length) (from f (suc i) n) in
    let g = segment_facts ended s.offset s.length (held (segment_rule ended s.offset s.length) PlanRule rest e) in
    let r = go-rest (not (segment_rule ended s.offset s.length)) PlanRule rest e in
    ⊎_elim (λ h. within f (suc i) n (s.offset + s.length) r j h (omega arith))
    (λ h. let k : j ≡ i = omega arith in rw k g.within)
    (order i j)

-- ---- the checksum

clear : (field : ℕ) (ps : List Piece) → all_clear field (map segment_of ps) ≡ true → ClearOf field ps
unfolding ClearOf
clear field [] e = tt
clear field (p ∷ ps) e =
    let a = and_both (clear_of field p.offset (length p.bytes)) (all_clear field (map segment_of ps)) e in
    (clear_facts field p.offset (length p.bytes) a.0, clear field ps a.1)

summed : (k : Sum) (ps : List Piece) → sum_fault k (map segment_of ps) ≡ Ok tt → SoundSum k ps
summed no_sum ps e = tt
summed (sum_at field start) ps e =
    let a = and_both (sum_rule field start) (all_clear field (map segment_of ps)) (held (sum_rule field start && all_clear field (map segment_of ps)) PlanRule (Ok tt) e) in
    let f = sum_facts field start a.0 in
    record { low = f.least; order = f.behind; high = f.within; even = f.even; clear = clear field ps a.1 }

-- ---- a template

pub record TemplateFacts (previous : ℕ) (t : Template) : Type 0 where
  pub ruled : id_rule previous t.id ≡ true
  pub above : previous < t.id
  pub few : length t.pieces ≤ max_segments
  pub segments : segments_fault 0 (segments_of t) ≡ Ok tt
  pub summing : sum_fault t.sum (segments_of t) ≡ Ok tt
  pub sound : SoundTemplate t

pub template_facts : (previous : ℕ) (t : Template) → template_fault previous t ≡ Ok tt → TemplateFacts previous t
unfolding template_fault
template_facts previous t e =
    let n = length t.pieces in
    let rest = segments_fault 0 (segments_of t) then sum_fault t.sum (segments_of t) in
    let q = held (id_rule previous t.id) PlanContext (stop_if (ltb max_segments n) PlanRule rest) e in
    let i = id_facts previous t.id q in
    let r = go-rest (not (id_rule previous t.id)) PlanContext (stop_if (ltb max_segments n) PlanRule rest) e in
    let s = go-rest (ltb max_segments n) PlanRule rest r in
    let a = then_first (segments_fault 0 (segments_of t)) (sum_fault t.sum (segments_of t)) s in
    let b = then_second (segments_fault 0 (segments_of t)) (sum_fault t.sum (segments_of t)) s in
    record {
      ruled = q;
      above = i.above;
      few = ltb-false max_segments n (go_test (ltb max_segments n) PlanRule rest r);
      segments = a;
      summing = b;
      sound =
          record {
            above = omega (arith, i.above);
            below = i.below;
            ascends = ascends t.pieces 0 (omega arith) a;
            summed = summed t.sum t.pieces b;
          };
    }

-- ---- templates

sound-each : (ts : List Template) (previous : ℕ) → templates_fault previous ts ≡ Ok tt → SoundTemplates previous ts
unfolding SoundTemplates
sound-each [] previous e = tt
sound-each (t ∷ ts) previous e =
    let f = template_facts previous t (then_first (template_fault previous t) (templates_fault t.id ts) e) in
    (f.above, (f.sound, sound-each ts t.id (then_second (template_fault previous t) (templates_fault t.id ts) e)))

pub went : (v : Result Unit Refusal) → goes v ≡ true → v ≡ Ok tt
went (Ok _) e = refl
went (Err r) e = let z : ◌≡◌ {A = ℕ} 0 1 = cc in absurd (omega arith)

module _ (ts : List Template) (sound : sound_templates ts ≡ true) where
  no-fault : plan_fault ts ≡ Ok tt
  unfolding sound_templates
  no-fault = went (plan_fault ts) sound

  pub sound-few : length ts ≤ max_templates
  unfolding plan_fault
  sound-few = ltb-false max_templates (length ts) (go_test (ltb max_templates (length ts)) PlanContext (templates_fault 0 ts) no-fault)

  pub sound-go : templates_fault 0 ts ≡ Ok tt
  unfolding plan_fault
  sound-go = go-rest (ltb max_templates (length ts)) PlanContext (templates_fault 0 ts) no-fault

pub sound-templates : (ts : List Template) → sound_templates ts ≡ true → SoundTemplates 0 ts
sound-templates ts sound = sound-each ts 0 (sound-go ts sound)

-- ---- a table

usable : (previous : ℕ) (t : List ℕ) → template_fault previous (template_of t) ≡ Ok tt → UsableTemplate t
usable previous t e =
    let f = template_facts previous (template_of t) e in
    let a : segments_fault 0 (from (segment_at t) 0 (head_of t).count) ≡ (Ok tt) = rw (← segments-of t) f.segments in
    record {
      few = omega (arith, f.few, length_pieces t);
      within = λ j h. within (segment_at t) 0 (head_of t).count 0 a j (omega arith) (omega arith);
      sound = f.sound;
    }

usable_at : (f : ℕ → List ℕ) (i n previous : ℕ) → templates_fault previous (map template_of (from f i n)) ≡ Ok tt → (j : ℕ) → i ≤ j → j < i + n
    → UsableTemplate (f j)
usable_at f i zero previous e j a b = absurd (omega arith)
usable_at f i (suc n) previous e j a b =
    let rest = templates_fault (template_of (f i)).id (map template_of (from f (suc i) n)) in
    let g = usable previous (f i) (then_first (template_fault previous (template_of (f i))) rest e) in
    let r = then_second (template_fault previous (template_of (f i))) rest e in
    ⊎_elim (λ h. usable_at f (suc i) n (template_of (f i)).id r j h (omega arith))
    (λ h. let k : j ≡ i = omega arith in rw k g)
    (order i j)

pub table_usable : (w : List ℕ) → sound_templates (templates_of w) ≡ true → Usable w
table_usable w sound =
    let g : templates_fault 0 (map template_of (from (words_at w) 0 (count_in w))) ≡ (Ok tt) = rw (← templates-by w) (sound-go (templates_of w) sound) in
    record {
      few = omega (arith, sound-few (templates_of w) sound, length_templates w);
      all = λ i h. usable_at (words_at w) 0 (count_in w) 0 g i (omega arith) (omega arith);
    }

-- a table of no templates is sound
pub none-sound : (w : List ℕ) → count_in w ≡ 0 → true ≡ sound_templates (templates_of w)
unfolding sound_templates plan_fault templates_of
none-sound w e = rw e

-- what the library says of an answer
pub goes_ok : (r : Result Unit Refusal) → is_ok r ≡ goes r
goes_ok (Ok _) = refl
goes_ok (Err w) = refl

-- ---- the flag of a checksum

-- under a flag above 1 the field is 0, which lies before every start
flag-over : (flag field start : ℕ) (ps : List Piece) → 1 < flag → SoundSum (sum_of (checksum_under flag field start)) ps
    → field ≡ field_under flag field
flag-over flag field start ps h s =
    let f : SumFacts 0 start ps = rw (ne_eqb flag 0 (λ e. omega arith), lt-ltb 1 flag h) at s in
    absurd (omega (arith, f.low, f.order))

-- so the field of words that may be used is the one that stands there
pub usable-field : (t : List ℕ) → UsableTemplate t → get_or t 3 0 ≡ field_under (get_or t 2 0) (get_or t 3 0)
unfolding head_of template_of
usable-field t u =
    ⊎_elim (λ h. flag-over (get_or t 2 0) (get_or t 3 0) (get_or t 4 0) (template_of t).pieces h u.sound.summed)
    (λ h. field-good (get_or t 2 0) (get_or t 3 0) h)
    (order 1 (get_or t 2 0))
