-- The judge of a table, by the cases of the code: what the segments and templates not yet seen say is the answer. Assumes nothing.
use Rattle.std.proofs.Common.{Option, Some, None, Result, Ok, Err}
use Prim.Native.Nat.{ℕ, zero, suc, ◌+◌, ◌-◌, ◌*◌, ◌≤◌, ◌<◌}
use mathlib.Core.Bool.{Bool, true, false, not, ◌&&◌, and-false}
use mathlib.Core.Path.{◌≡◌, refl, sym, ap, ◌∙◌}
use mathlib.Core.List.{List, [], ◌∷◌, map}
use native.Mathlib.Nat.{sub-zero}
use native.Mathlib.Omega.{arith}
use borrow.Author.Tests.{ne_eqb, lt-ltb, le-ltb}
use lib.ListN.{length, take, drop, length-map}
use Rattle.answer.specs.declared.Refusal.{Refusal}
use Rattle.answer.specs.declared.Refusal.TheVariants.{PlanRule, PlanContext}
use Rattle.answer.specs.Verdict.{stop_if, ◌then◌}
use Rattle.answer.specs.Choice.{pick}
use Rattle.octets.specs.Scan.{from}
use Rattle.octets.proofs.Scans.{from_more, length_from}
use Rattle.octets.proofs.Parts.{is-part}
use Rattle.table.specs.declared.Segment.{Segment}
use Rattle.table.specs.declared.Checksum.{Checksum}
use Rattle.table.specs.declared.Head.{Head}
use Rattle.table.specs.Limits.{max_templates, max_segments}
use Rattle.table.specs.Templates.{segment_of, segments_of}
use Rattle.table.specs.Words.{template_words, segment_at, head_of, piece_of, byte_at, sum_of, template_of, count_in, words_at, templates_of}
use Rattle.table.specs.Rules.{id_rule, segment_rule, sum_rule, segments_fault, all_clear, sum_fault, template_fault, templates_fault, plan_fault, goes}
use Rattle.table.specs.Tests.{pair_or, pair_sound, leaves_free, all_free, segments_sound}

-- ---- tests

-- the first segment takes or leaves the field, and then the others
free-step : (b : Option Checksum) (s : Segment) (ss : List Segment) → all_free b (s ∷ ss) ≡ (leaves_free b s.offset s.length && all_free b ss)
free-step (Some k) s ss = refl
free-step None s ss = refl

-- ---- segments

-- the segments before j keep the rule, leave the field of a checksum free, and end at `ended`
pub record Fitting (b : Option Checksum) (f : ℕ → Segment) (n ended j : ℕ) : Type 0 where
  pub within : j ≤ n
  pub rest : segments_sound b ended (from f j (n - j)) ≡ segments_sound b 0 (from f 0 n)

module _ {b : Option Checksum} {f : ℕ → Segment} {n ended j : ℕ} (a : Fitting b f n ended j) where
  module _ {s : Segment} (h : j < n) (q : s ≡ f j) where
    pub fit-broken : segment_rule ended s.offset s.length ≡ false → false ≡ segments_sound b 0 (from f 0 n)
    fit-broken e = rw (from_more f j n h, ← q, e) at a.rest

    module _ (e : segment_rule ended s.offset s.length ≡ true) where
      fault : Bool
      fault = goes (segments_fault (s.offset + s.length) (from f (j + 1) (n - (j + 1))))

      free : Bool
      free = all_free b (from f (j + 1) (n - (j + 1)))

      step : (fault && (leaves_free b s.offset s.length && free)) ≡ segments_sound b 0 (from f 0 n)
      unfolding fault free
      step = rw (from_more f j n h, ← q, e, free-step b s (from f (j + 1) (n - (j + 1)))) at a.rest

      pub fit_covered : leaves_free b s.offset s.length ≡ false → false ≡ segments_sound b 0 (from f 0 n)
      fit_covered g = sym (and-false fault) ∙ rw g at step

      pub fit_next : leaves_free b s.offset s.length ≡ true → Fitting b f n (s.offset + s.length) (j + 1)
      unfolding fault free
      fit_next g = record { within = omega arith; rest = rw g at step }

-- ---- the meaning of a template's words, as its rules read it

module _ (t : List ℕ) where
  pub length_piece : (s : Segment) → length (piece_of t s).bytes ≡ s.length
  length_piece s = length_from (byte_at t) s.offset s.length

  -- the segments of the pieces are the segments
  pub segments-back : (ss : List Segment) → map segment_of (map (piece_of t) ss) ≡ ss
  segments-back [] = refl
  segments-back (s ∷ ss) = rw (length_piece s, segments-back ss)

  pub segments-of : segments_of (template_of t) ≡ from (segment_at t) 0 (head_of t).count
  unfolding template_of
  segments-of = segments-back (from (segment_at t) 0 (head_of t).count)

  pub length_pieces : length (template_of t).pieces ≡ (head_of t).count
  unfolding template_of
  length_pieces = length-map (from (segment_at t) 0 (head_of t).count) (piece_of t) ∙ length_from (segment_at t) 0 (head_of t).count

  pub id-of : (template_of t).id ≡ (head_of t).id.0
  unfolding template_of
  id-of = refl

  pub sum-of : (template_of t).sum ≡ sum_of (head_of t).checksum
  unfolding template_of
  sum-of = refl

-- ---- past its ID, a template has one fault: it breaks a rule

abbrev ruled : Bool → Result Unit Refusal
ruled b = pick b (Ok tt) (Err PlanRule)

ruled-segments : (ended : ℕ) (ss : List Segment) → segments_fault ended ss ≡ ruled (goes (segments_fault ended ss))
ruled-segments ended [] = refl
ruled-segments ended (s ∷ ss) = go (segment_rule ended s.offset s.length) (segments_fault (s.offset + s.length) ss) (ruled-segments (s.offset + s.length) ss)
  where
    go : (b : Bool) (v : Result Unit Refusal) → v ≡ ruled (goes v) → stop_if (not b) PlanRule v ≡ ruled (goes (stop_if (not b) PlanRule v))
    go true v e = e
    go false v e = refl

ruled-sum : (b : Option Checksum) (f : ℕ → Segment) (n : ℕ)
    → sum_fault (sum_of b) (from f 0 n) ≡ ruled (pair_or b n && all_free b (from f 0 n))
ruled-sum (Some k) f n = go (sum_rule k.field k.start && all_clear k.field (from f 0 n))
  where
    go : (c : Bool) → stop_if (not c) PlanRule (Ok tt) ≡ ruled c
    go true = refl
    go false = refl
ruled-sum None f zero = refl
ruled-sum None f (suc n) = rw (ne_eqb (suc n) 0 (λ e. omega arith))

ruled_then : (a b : Bool) → (ruled a then ruled b) ≡ ruled (a && b)
ruled_then true b = refl
ruled_then false b = refl

between : (a b c : Bool) → (a && (b && c)) ≡ (b && (a && c))
between true b c = refl
between false true c = refl
between false false c = refl

module _ (previous : ℕ) (t : List ℕ) {h : Head} (q : h ≡ head_of t) where
  pub template-id : id_rule previous h.id.0 ≡ false → Err PlanContext ≡ template_fault previous (template_of t)
  unfolding template_fault
  template-id e = rw (id-of t, ← q, e)

  module _ (i : id_rule previous h.id.0 ≡ true) where
    pub template-over : max_segments < h.count → Err PlanRule ≡ template_fault previous (template_of t)
    unfolding template_fault
    template-over k = rw (id-of t, length_pieces t, ← q, i, lt-ltb max_segments h.count k)

    module _ (k : h.count ≤ max_segments) where
      sound : Bool
      sound = segments_sound h.checksum 0 (from (segment_at t) 0 h.count)

      parts : ruled (pair_sound h && sound) ≡ template_fault previous (template_of t)
      unfolding template_fault sound
      parts =
          let ss = from (segment_at t) 0 h.count in
          let free = all_free h.checksum ss in
          sym
          (rw (id-of t, length_pieces t, segments-of t, sum-of t, ← q, i, le-ltb max_segments h.count k)
          (ap (λ (v : Result Unit Refusal). v then sum_fault (sum_of h.checksum) ss) (ruled-segments 0 ss)
          ∙ ap (λ (v : Result Unit Refusal). ruled (goes (segments_fault 0 ss)) then v) (ruled-sum h.checksum (segment_at t) h.count)
          ∙ ruled_then (goes (segments_fault 0 ss)) (pair_sound h && free)
          ∙ ap ruled (between (goes (segments_fault 0 ss)) (pair_sound h) free)))

      pub template_pair : pair_sound h ≡ false → Err PlanRule ≡ template_fault previous (template_of t)
      template_pair e = rw e at parts

      module _ (p : pair_sound h ≡ true) where
        pub template-broken : segments_sound h.checksum 0 (from (segment_at t) 0 h.count) ≡ false
            → Err PlanRule ≡ template_fault previous (template_of t)
        unfolding sound
        template-broken e = rw (p, e) at parts

        pub template-sound : segments_sound h.checksum 0 (from (segment_at t) 0 h.count) ≡ true
            → (Ok tt) ≡ template_fault previous (template_of t)
        unfolding sound
        template-sound e = rw (p, e) at parts

-- ---- a table

-- the words of template i, as they are cut out
pub words-at : (w : List ℕ) (i : ℕ)
    → take (1 + i * template_words + template_words - (1 + i * template_words)) (drop (1 + i * template_words) w) ≡ words_at w i
unfolding words_at
words-at w i = is-part w (1 + i * template_words) (1 + i * template_words + template_words) template_words (omega arith)

pub length_templates : (w : List ℕ) → length (templates_of w) ≡ count_in w
unfolding templates_of
length_templates w = length-map (from (words_at w) 0 (count_in w)) template_of ∙ length_from (words_at w) 0 (count_in w)

pub templates-by : (w : List ℕ) → templates_of w ≡ map template_of (from (words_at w) 0 (count_in w))
unfolding templates_of
templates-by w = refl

-- the templates before i keep the rules, and the last of them has the ID `previous`
pub record Sounding (w : List ℕ) (previous i : ℕ) : Type 0 where
  pub within : i ≤ count_in w
  pub rest : templates_fault previous (map template_of (from (words_at w) i (count_in w - i))) ≡ plan_fault (templates_of w)

module _ (w : List ℕ) where
  pub sound-over : max_templates < count_in w → Err PlanContext ≡ plan_fault (templates_of w)
  unfolding plan_fault
  sound-over h = rw (length_templates w, lt-ltb max_templates (count_in w) h)

  pub sound-start : count_in w ≤ max_templates → Sounding w 0 0
  unfolding plan_fault
  sound-start h = record { within = omega arith; rest = rw (length_templates w, le-ltb max_templates (count_in w) h, sub-zero, templates-by) }

module _ {w : List ℕ} {previous i : ℕ} (s : Sounding w previous i) where
  module _ {t : List ℕ} {v : Result Unit Refusal} (b : i < count_in w) (p : t ≡ words_at w i) (e : v ≡ template_fault previous (template_of t)) where
    onward : (v then templates_fault (template_of t).id (map template_of (from (words_at w) (i + 1) (count_in w - (i + 1))))) ≡ plan_fault (templates_of w)
    onward = rw (e, p) (rw (from_more (words_at w) i (count_in w) b) at s.rest)

    pub sound-broken : {why : Refusal} → v ≡ Err why → Err why ≡ plan_fault (templates_of w)
    sound-broken g = rw g at onward

    pub sound-next : {h : Head} → h ≡ head_of t → v ≡ Ok tt → Sounding w h.id.0 (i + 1)
    sound-next q g = record { within = omega arith; rest = rw (q, ← id-of t) (rw g at onward) }
