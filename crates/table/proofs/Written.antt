-- What was read is what writing gives: a file that is read is the file of its templates, which keep the rules. Assumes nothing.
use Prim.Native.Nat.{ℕ, zero, suc, ◌≤◌}
use mathlib.Core.Path.{◌≡◌, refl, sym, ap, ◌∙◌}
use mathlib.Core.Bool.{Bool, true, false, not, ◌&&◌}
use mathlib.Core.List.{List, [], ◌∷◌, ◌++◌, map, append_assoc, append-nil}
use native.Mathlib.Omega.{arith}
use borrow.Author.Tests.{leb-true, eqb-true, not-true}
use lib.Dec.{leb, eqb}
use lib.ListN.{length, drop}
use lib.Seq.{drop-append_seam}
use Rattle.answer.specs.Choice.{pick}
use Rattle.answer.specs.declared.Refusal.TheVariants.{PlanMark, PlanVersion, PlanRule, PlanContext}
use Rattle.answer.proofs.Tests.{and_both}
use Rattle.octets.specs.Big.{Bytes}
use Rattle.octets.proofs.BigLaws.{bytes_drop}
use Rattle.varint.specs.Numbers.{encode}
use Rattle.varint.proofs.RoundTrip.{read-shortest}
use Rattle.table.specs.declared.Segment.{Segment}
use Rattle.table.specs.Limits.{max_templates, max_segments}
use Rattle.table.specs.Templates.{Piece, piece_end, segment_of, Sum, no_sum, sum_at, Template}
use Rattle.table.specs.Rules.{id_rule, sum_rule, all_clear, none}
use Rattle.table.specs.File.{found, and_then, mapped, holding, mark, version, same_bytes, piece_bytes, pieces_bytes, sum_bytes, template_bytes, templates_bytes, plan_bytes, number_in, two_in, byte_in, bytes_in, piece_in, pieces_in, pair_with, flag_with, sum_in, template_with, body_in, template_in, templates_in, ending, count_with, version_with, mark_with, plan_in}
use Rattle.table.proofs.Finding.{never, and_then_found, mapped-found, holding-found, number-found, two-found, byte_found, bytes-found, piece_found, pieces-count}
use Rattle.table.proofs.SoundCases.{PiecesOk, SumOk, TemplateOk, TemplatesOk}

-- the bytes a, taken from the front of s, leave the bytes r
pub record Took (a s r : List ℕ) : Type 0 where
  pub split : s ≡ a ++ r
  pub still : Bytes r

pub took : (a s r : List ℕ) → Bytes s → s ≡ a ++ r → Took a s r
took a s r h e =
    let d : drop (length a) s ≡ r = ap (drop (length a)) e ∙ drop-append_seam a r in
    record { split = e; still = rw d at (bytes_drop (length a) s h) }

pub took_then : {a b s t r : List ℕ} → Took a s t → Took b t r → Took (a ++ b) s r
took_then {a} {b} {s} {t} {r} x y =
    record { split = x.split ∙ ap (λ (l : List ℕ). a ++ l) y.split ∙ sym (append_assoc a b r); still = y.still }

pub number-written : (s : List ℕ) {v : ℕ} {r : List ℕ} → Bytes s → number_in s ≡ found v r → Took (encode v) s r
number-written s {v} {r} h e =
    let g = number-found s e in
    took (encode v) s r h (read-shortest s v g.size h g.read g.short ∙ ap (λ (l : List ℕ). encode v ++ l) (sym g.behind))

pub two-written : (s : List ℕ) {n : ℕ × ℕ} {r : List ℕ} → Bytes s → two_in s ≡ found n r → Took (encode n.0 ++ encode n.1) s r
two-written s h e =
    let g = two-found s e in
    let a = number-written s h g.first in
    took_then a (number-written g.mid a.still g.second)

pub byte_written : (s : List ℕ) {b : ℕ} {r : List ℕ} → Bytes s → byte_in s ≡ found b r → Took (b ∷ []) s r
byte_written s {b} {r} h e = took (b ∷ []) s r h (byte_found s e)

module _ (ended : ℕ) (s : List ℕ) {p : Piece} {r : List ℕ} (h : Bytes s) (e : piece_in ended s ≡ found p r) where
  pub piece_written : Took (piece_bytes p) s r
  piece_written =
      let g = piece_found ended s e in
      let a = two-written s h g.two in
      let b = took_then a (took p.bytes g.mid r a.still g.split) in
      record { split = b.split ∙ ap (λ (l : List ℕ). l ++ r) (append_assoc (encode p.offset) (encode (length p.bytes)) p.bytes); still = b.still }

pub record PiecesWritten (ended : ℕ) (ps : List Piece) (s r : List ℕ) : Type 0 where
  pub bytes : Took (pieces_bytes ps) s r
  pub ok : PiecesOk ended ps

pub pieces-written : (n ended : ℕ) (s : List ℕ) {ps : List Piece} {r : List ℕ} → Bytes s → pieces_in n ended s ≡ found ps r → PiecesWritten ended ps s r
unfolding pieces_in
pieces-written zero ended s {ps} {r} h e =
    let z : [] ≡ ps = cc in
    let y : s ≡ r = cc in
    rw (← z) (record { bytes = took [] s r h y; ok = tt })
pieces-written (suc n) ended s {ps} {r} h e =
    let l = and_then_found (piece_in ended s) (λ p s₁. mapped (λ ps. p ∷ ps) (pieces_in n (piece_end p) s₁)) e in
    let m = mapped-found (λ ps. l.value ∷ ps) (pieces_in n (piece_end l.value) l.rest) l.next in
    let a = piece_written ended s h l.first in
    let b = pieces-written n (piece_end l.value) l.rest a.still m.first in
    rw (← m.made) (record { bytes = took_then a b.bytes; ok = ((piece_found ended s l.first).rule, b.ok) })

pub record SumWritten (ss : List Segment) (k : Sum) (s r : List ℕ) : Type 0 where
  pub bytes : Took (sum_bytes k) s r
  pub ok : SumOk ss k

sum_same : {ss : List Segment} {k l : Sum} {s r t : List ℕ} → k ≡ l → r ≡ t → SumWritten ss k s r → SumWritten ss l s t
sum_same e f w = rw (← e, ← f) w

pair_written : (ss : List Segment) (s : List ℕ) {k : Sum} {r : List ℕ} → Bytes s → and_then (two_in s) (pair_with ss) ≡ found k r
    → (rest : List ℕ) → Took (1 ∷ []) rest s → SumWritten ss k rest r
pair_written ss s {k} {r} h e rest x =
    let l = and_then_found (two_in s) (pair_with ss) e in
    let n = l.value in
    let g = holding-found (sum_rule n.0 n.1 && all_clear n.0 ss) PlanRule (found (sum_at n.0 n.1) l.rest) l.next in
    let i : found (sum_at n.0 n.1) l.rest ≡ found k r = g.1 in
    let z : sum_at n.0 n.1 ≡ k = cc in
    let y : l.rest ≡ r = cc in
    sum_same z y (record { bytes = took_then x (two-written s h l.first); ok = g.0 })

flag-written : (ss : List Segment) (flag : ℕ) (s : List ℕ) {k : Sum} {r : List ℕ} → Bytes s → (b : Bool) → eqb flag 0 ≡ b
    → pick b (holding (not (none ss)) PlanRule (found no_sum s)) (holding (eqb flag 1) PlanRule (and_then (two_in s) (pair_with ss))) ≡ found k r
    → (rest : List ℕ) → Took (flag ∷ []) rest s → SumWritten ss k rest r
flag-written ss flag s {k} {r} h true q e rest x =
    let z : flag ≡ 0 = eqb-true flag 0 q in
    let g = holding-found (not (none ss)) PlanRule (found no_sum s) e in
    let i : found no_sum s ≡ found k r = g.1 in
    let y : no_sum ≡ k = cc in
    let w : s ≡ r = cc in
    rw (← y, ← w) (record { bytes = rw z at x; ok = not-true (none ss) g.0 })
flag-written ss flag s h false q e rest x =
    let g = holding-found (eqb flag 1) PlanRule (and_then (two_in s) (pair_with ss)) e in
    let z : flag ≡ 1 = eqb-true flag 1 g.0 in
    pair_written ss s h g.1 rest (rw z at x)

pub sum-written : (ss : List Segment) (s : List ℕ) {k : Sum} {r : List ℕ} → Bytes s → sum_in ss s ≡ found k r → SumWritten ss k s r
unfolding sum_in
sum-written ss s h e =
    let l = and_then_found (byte_in s) (flag_with ss) e in
    let a = byte_written s h l.first in
    flag-written ss l.value l.rest a.still (eqb l.value 0) refl l.next s a

pub record TemplateWritten (previous : ℕ) (t : Template) (s r : List ℕ) : Type 0 where
  pub bytes : Took (template_bytes t) s r
  pub ok : TemplateOk previous t

pub record BodyWritten (id : ℕ) (t : Template) (s r : List ℕ) : Type 0 where
  pub same : t.id ≡ id
  pub bytes : Took (length t.pieces ∷ (pieces_bytes t.pieces ++ sum_bytes t.sum)) s r
  pub few : length t.pieces ≤ max_segments
  pub pieces : PiecesOk 0 t.pieces
  pub sum : SumOk (map segment_of t.pieces) t.sum

pub body-written : (id : ℕ) (s : List ℕ) {t : Template} {r : List ℕ} → Bytes s → body_in id s ≡ found t r → BodyWritten id t s r
unfolding body_in
body-written id s {t} {r} h e =
    let l = and_then_found (byte_in s) (λ n s₁. holding (leb n max_segments) PlanRule (and_then (pieces_in n 0 s₁) (template_with id))) e in
    let n = l.value in
    let a = byte_written s h l.first in
    let g = holding-found (leb n max_segments) PlanRule (and_then (pieces_in n 0 l.rest) (template_with id)) l.next in
    let m = and_then_found (pieces_in n 0 l.rest) (template_with id) g.1 in
    let ps = m.value in
    let b = pieces-written n 0 l.rest a.still m.first in
    let k = mapped-found {B = Template} (λ k. record { id = id; pieces = ps; sum = k }) (sum_in (map segment_of ps) m.rest) m.next in
    let d = sum-written (map segment_of ps) m.rest b.bytes.still k.first in
    let c : length ps ≡ n = pieces-count n 0 l.rest m.first in
    let few : length ps ≤ max_segments = omega (arith, c, leb-true n max_segments g.0) in
    rw (← k.made)
    (record { same = refl; bytes = took_then (rw (← c) at a) (took_then b.bytes d.bytes); few = few; pieces = b.ok; sum = d.ok })

pub template-written : (previous : ℕ) (s : List ℕ) {t : Template} {r : List ℕ} → Bytes s → template_in previous s ≡ found t r → TemplateWritten previous t s r
unfolding template_in
template-written previous s h e =
    let l = and_then_found (number_in s) (λ id s₁. holding (id_rule previous id) PlanContext (body_in id s₁)) e in
    let a = number-written s h l.first in
    let g = holding-found (id_rule previous l.value) PlanContext (body_in l.value l.rest) l.next in
    let b = body-written l.value l.rest a.still g.1 in
    record {
      bytes = took_then (rw (← b.same) at a) b.bytes;
      ok = record { id = rw b.same g.0; few = b.few; pieces = b.pieces; sum = b.sum };
    }

pub record TemplatesWritten (previous : ℕ) (ts : List Template) (s r : List ℕ) : Type 0 where
  pub bytes : Took (templates_bytes ts) s r
  pub ok : TemplatesOk previous ts

pub templates-written : (n previous : ℕ) (s : List ℕ) {ts : List Template} {r : List ℕ} → Bytes s → templates_in n previous s ≡ found ts r → TemplatesWritten previous ts s r
unfolding templates_in
templates-written zero previous s {ts} {r} h e =
    let z : [] ≡ ts = cc in
    let y : s ≡ r = cc in
    rw (← z) (record { bytes = took [] s r h y; ok = tt })
templates-written (suc n) previous s {ts} {r} h e =
    let l = and_then_found (template_in previous s) (λ t s₁. mapped (λ ts. t ∷ ts) (templates_in n t.id s₁)) e in
    let m = mapped-found (λ ts. l.value ∷ ts) (templates_in n l.value.id l.rest) l.next in
    let a = template-written previous s h l.first in
    let b = templates-written n l.value.id l.rest a.bytes.still m.first in
    rw (← m.made) (record { bytes = took_then a.bytes b.bytes; ok = (a.ok, b.ok) })

pub templates-count : (n previous : ℕ) (s : List ℕ) {ts : List Template} {r : List ℕ} → templates_in n previous s ≡ found ts r → length ts ≡ n
unfolding templates_in
templates-count zero previous s {ts} e = let z : [] ≡ ts = cc in sym (ap length z)
templates-count (suc n) previous s e =
    let l = and_then_found (template_in previous s) (λ t s₁. mapped (λ ts. t ∷ ts) (templates_in n t.id s₁)) e in
    let m = mapped-found (λ ts. l.value ∷ ts) (templates_in n l.value.id l.rest) l.next in
    sym (ap length m.made) ∙ ap suc (templates-count n l.value.id l.rest m.first)

-- ---- the file

pub same_bytes_lem : (xs ys : List ℕ) → same_bytes xs ys ≡ true → xs ≡ ys
same_bytes_lem [] [] e = refl
same_bytes_lem [] (y ∷ ys) e = let z : ◌≡◌ {A = ℕ} 0 1 = cc in absurd (omega arith)
same_bytes_lem (x ∷ xs) [] e = let z : ◌≡◌ {A = ℕ} 0 1 = cc in absurd (omega arith)
same_bytes_lem (x ∷ xs) (y ∷ ys) e =
    let f = and_both (eqb x y) (same_bytes xs ys) e in
    rw (eqb-true x y f.0, same_bytes_lem xs ys f.1)

ending-found : (ts : List Template) (s : List ℕ) {us : List Template} {r : List ℕ} → ending ts s ≡ found us r → (ts ≡ us) × (s ≡ []) × (r ≡ [])
ending-found ts [] e = (cc, refl, cc)
ending-found ts (b ∷ s) e = absurd (never e)

pub record PlanWritten (ts : List Template) (s r : List ℕ) : Type 0 where
  pub file : plan_bytes ts ≡ s
  pub rest : r ≡ []
  pub few : length ts ≤ max_templates
  pub ok : TemplatesOk 0 ts

pub plan-written : (s : List ℕ) {ts : List Template} {r : List ℕ} → Bytes s → plan_in s ≡ found ts r → PlanWritten ts s r
unfolding plan_in plan_bytes
plan-written s {ts} {r} h e =
    let a = and_then_found (bytes_in 3 s) mark_with e in
    let b = holding-found (same_bytes a.value mark) PlanMark (and_then (bytes_in 2 a.rest) version_with) a.next in
    let c = and_then_found (bytes_in 2 a.rest) version_with b.1 in
    let d = holding-found (same_bytes c.value version) PlanVersion (and_then (byte_in c.rest) count_with) c.next in
    let f = and_then_found (byte_in c.rest) count_with d.1 in
    let n = f.value in
    let g = holding-found (leb n max_templates) PlanContext (and_then (templates_in n 0 f.rest) ending) f.next in
    let k = and_then_found (templates_in n 0 f.rest) ending g.1 in
    let end = ending-found k.value k.rest k.next in
    let m : s ≡ mark ++ a.rest = (bytes-found 3 s a.first).split ∙ ap (λ (l : List ℕ). l ++ a.rest) (same_bytes_lem a.value mark b.0) in
    let v : a.rest ≡ version ++ c.rest = (bytes-found 2 a.rest c.first).split ∙ ap (λ (l : List ℕ). l ++ c.rest) (same_bytes_lem c.value version d.0) in
    let tm = took mark s a.rest h m in
    let tv = took version a.rest c.rest tm.still v in
    let tn = byte_written c.rest tv.still f.first in
    let w = templates-written n 0 f.rest tn.still k.first in
    let count : length k.value ≡ n = templates-count n 0 f.rest k.first in
    let last : f.rest ≡ templates_bytes k.value = w.bytes.split ∙ ap (λ (l : List ℕ). templates_bytes k.value ++ l) end.1 ∙ append-nil (templates_bytes k.value) in
    let all : s ≡ mark ++ (version ++ (n ∷ templates_bytes k.value)) =
    m ∙ ap (λ (l : List ℕ). mark ++ l) (v ∙ ap (λ (l : List ℕ). version ++ l) (tn.split ∙ ap (λ (l : List ℕ). n ∷ l) last))
    in
    rw (← end.0)
    (record {
      file = sym (all ∙ ap (λ (i : ℕ). mark ++ (version ++ (i ∷ templates_bytes k.value))) (sym count));
      rest = end.2;
      few = omega (arith, count, leb-true n max_templates g.0);
      ok = w.ok;
    })

-- one plan has exactly one file
pub written_read : (s : List ℕ) {ts : List Template} {r : List ℕ} → Bytes s → plan_in s ≡ found ts r → plan_bytes ts ≡ s
written_read s h e = (plan-written s h e).file
