-- The sizes and ends of a template's segments. Assumes nothing.
use Prim.Native.Nat.{ℕ, zero, suc, ◌+◌, ◌-◌, ◌≤◌, ◌<◌}
use mathlib.Core.Path.{◌≡◌, ap, sym, ◌∙◌}
use mathlib.Core.List.{List, [], ◌∷◌}
use mathlib.Core.Bool.{true, false}
use native.Mathlib.Omega.{arith}
use lib.ListN.{length}
use lib.Dec.{leb}
use borrow.Author.Tests.{le-leb, lt-leb, leb-true}
use Rattle.std.proofs.Common.{Some, None}
use Rattle.answer.proofs.Tests.{and_both}
use Rattle.table.specs.Limits.{static_limit}
use Rattle.table.specs.Sound.{Ascends, UsableTemplate}
use Rattle.table.specs.Templates.{Piece, piece_end, static_size}
use Rattle.table.specs.Words.{window, segment_at, template_of, head_of}
use Rattle.table.specs.declared.Checksum.{Checksum}
use Rattle.table.specs.declared.Head.{Head}
use Rattle.table.specs.declared.Segment.{Segment}
use Rattle.template.specs.Pieces.{last_end}
use Rattle.template.specs.Datagrams.{sum_end, reaches}
use Rattle.template.specs.Usable.{pieces_of, reaches_at}
use Rattle.template.proofs.Steps.{segment_end, pieces_from, window_length, pieces-all, pieces_step, pieces-done, sum_facts}

-- ascending pieces lie one behind the other, within the limit
pub static-end : (ps : List Piece) (pos : ℕ) → Ascends pos ps → pos + static_size ps ≤ last_end pos ps
unfolding Ascends
static-end [] pos a = omega arith
static-end (s ∷ ss) pos a = omega (arith, a.0, static-end ss (piece_end s) a.1)

pub end-limit : (ps : List Piece) (pos : ℕ) → Ascends pos ps → last_end pos ps ≤ static_limit
unfolding Ascends
end-limit [] pos a = a
end-limit (s ∷ ss) pos a = end-limit ss (piece_end s) a.1

-- a segment that was read ends within the limit
pub segment_within : (t : List ℕ) → UsableTemplate t → (j : ℕ) {s : Segment} → j < (head_of t).count → s ≡ segment_at t j → s.offset + s.length ≤ static_limit
segment_within t u j h e = rw e (u.within j h)

-- and so does a field
pub field-within : (t : List ℕ) → UsableTemplate t → {head : Head} {k : Checksum} → head ≡ head_of t → head.checksum ≡ Some k → k.field + 2 ≤ static_limit
field-within t u q e = (sum_facts t u.sound (rw q at e)).high

module _ (t : List ℕ) (j n : ℕ) (h : j < n) where
  pub static_step : static_size (pieces_from t j (n - j)) ≡ (segment_at t j).length + static_size (pieces_from t (j + 1) (n - (j + 1)))
  static_step = rw (pieces_step t j n h, window_length t (segment_at t j).offset (segment_at t j).length)

  pub end_step : (pos : ℕ) → last_end pos (pieces_from t j (n - j)) ≡ last_end (segment_end t j) (pieces_from t (j + 1) (n - (j + 1)))
  end_step pos =
      ap (last_end pos) (pieces_step t j n h)
      ∙ ap (λ (k : ℕ). last_end ((segment_at t j).offset + k) (pieces_from t (j + 1) (n - (j + 1)))) (window_length t (segment_at t j).offset (segment_at t j).length)

  pub ascends-head : (pos : ℕ) → Ascends pos (pieces_from t j (n - j)) → pos ≤ (segment_at t j).offset
  unfolding Ascends
  ascends-head pos a = (rw (pieces_step t j n h) at a).0

  pub ascends_tail : (pos : ℕ) → Ascends pos (pieces_from t j (n - j)) → Ascends (segment_end t j) (pieces_from t (j + 1) (n - (j + 1)))
  unfolding Ascends
  ascends_tail pos a = rw (window_length t (segment_at t j).offset (segment_at t j).length) at (rw (pieces_step t j n h) at a).1

pub static-done : (t : List ℕ) (j n : ℕ) → n ≤ j → static_size (pieces_from t j (n - j)) ≡ 0
static-done t j n h = rw (pieces-done t j n h)

-- the last segment's end
last-from : (t : List ℕ) (m j pos : ℕ) → last_end pos (pieces_from t j (suc m)) ≡ segment_end t (j + m)
unfolding pieces_from
last-from t zero j pos =
    let e : j + 0 ≡ j = omega arith in
    rw (e, window_length t (segment_at t j).offset (segment_at t j).length)
last-from t (suc m) j pos =
    let e : j + suc m ≡ suc j + m = omega arith in
    rw e (last-from t m (suc j) (piece_end (record { offset = (segment_at t j).offset; bytes = window t (segment_at t j).offset (segment_at t j).length })))

pub last-end : (t : List ℕ) {n : ℕ} {s : Segment} → n ≡ (head_of t).count → 0 < n → s ≡ segment_at t (n - 1) → s.offset + s.length ≡ last_end 0 (pieces_of t)
last-end t {n} q h e =
    let k : (head_of t).count - 0 ≡ suc (n - 1) = omega arith in
    rw e (sym (ap (last_end 0) (pieces-all t ∙ ap (pieces_from t 0) k) ∙ last-from t (n - 1) 0 0 ∙ ap (segment_end t) (omega arith)))

pub last_none : (t : List ℕ) {n : ℕ} → n ≡ (head_of t).count → n ≡ 0 → 0 ≡ last_end 0 (pieces_of t)
last_none t q h = sym (ap (last_end 0) (pieces-all t ∙ pieces-done t 0 (head_of t).count (omega arith)))

-- whether a packet of n bytes reaches
module _ (t : List ℕ) {n : ℕ} where
  pub reaches-short : n < last_end 0 (pieces_of t) → reaches_at (template_of t) n ≡ false
  reaches-short h = rw (lt-leb _ _ h)

  pub reaches-sum : {head : Head} {k : Checksum} → head ≡ head_of t → last_end 0 (pieces_of t) ≤ n → head.checksum ≡ Some k → reaches_at (template_of t) n ≡ leb (k.field + 2) n
  unfolding template_of
  reaches-sum q h e = rw (le-leb _ _ h, rw q at e)

  pub reaches-plain : {head : Head} → head ≡ head_of t → last_end 0 (pieces_of t) ≤ n → head.checksum ≡ None → reaches_at (template_of t) n ≡ true
  unfolding template_of
  reaches-plain q h e = rw (le-leb _ _ h, rw q at e) (le-leb 0 n (omega arith))

-- whether bytes do
module _ (t v : List ℕ) where
  pub reaches-size : {n : ℕ} → n ≡ static_size (pieces_of t) + length v → reaches_at (template_of t) n ≡ reaches (template_of t) v
  unfolding reaches
  reaches-size e = rw e

  pub reaches_end : reaches (template_of t) v ≡ true → last_end 0 (pieces_of t) ≤ static_size (pieces_of t) + length v
  unfolding reaches
  reaches_end e = leb-true _ _ (and_both _ _ e).0

  pub reaches_field : {k : Checksum} → reaches (template_of t) v ≡ true → (head_of t).checksum ≡ Some k → k.field + 2 ≤ static_size (pieces_of t) + length v
  unfolding reaches template_of
  reaches_field {k} e f =
      let n = static_size (pieces_of t) + length v in
      let g = and_both (leb (last_end 0 (pieces_of t)) n) (leb (sum_end (template_of t).sum) n) e in
      leb-true (k.field + 2) n (rw f at g.1)
