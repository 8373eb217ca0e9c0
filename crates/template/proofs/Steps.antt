-- One step of each definition, at the code's index. Assumes nothing.
use Prim.Native.Nat.{ℕ, zero, suc, ◌+◌, ◌-◌, ◌≤◌, ◌<◌}
use mathlib.Core.Path.{◌≡◌, sym, ap, ◌∙◌}
use mathlib.Core.List.{List, [], ◌∷◌, map}
use mathlib.Core.Bool.{Bool, true, false, ◌&&◌, and_assoc}
use native.Mathlib.Numerals.{add-one}
use native.Mathlib.Omega.{arith}
use lib.ListN.{length, get_or}
use lib.Seq.{drop-cons}
use lib.Dec.{eqb}
use borrow.Author.Tests.{le-leb, lt-leb, eq-eqb, ne_eqb}
use Rattle.std.proofs.Common.{Some, None}
use Rattle.octets.specs.Scan.{from}
use Rattle.octets.proofs.Scans.{from_more, from_end, length_from}
use Rattle.table.specs.declared.Checksum.{Checksum}
use Rattle.table.specs.Sound.{SumFacts, SoundTemplate}
use Rattle.table.specs.Templates.{Piece, sum_at}
use Rattle.table.specs.Words.{window, piece_of, segment_at, template_of, words_at, byte_at, head_of}
use Rattle.table.proofs.InTurn.{templates_from, templates-step, templates-done}
use Rattle.template.specs.Pieces.{fits_pieces}
use Rattle.template.specs.Fits.{fits_sum, fits, full, short, first_fit, with_id, listed, missing}
use Rattle.template.specs.Usable.{pieces_of, SumPlace, holds_at}

-- ---- the segments of a template

abbrev pub segment_end : List ℕ → ℕ → ℕ
segment_end t j = (segment_at t j).offset + (segment_at t j).length

-- the pieces of the n segments from j on
unfoldable pub pieces_from : List ℕ → ℕ → ℕ → List Piece
pieces_from t j n = map (piece_of t) (from (segment_at t) j n)

pub window_length : (t : List ℕ) (k n : ℕ) → length (window t k n) ≡ n
window_length t k n = length_from (byte_at t) k n

pub pieces-all : (t : List ℕ) → pieces_of t ≡ pieces_from t 0 ((head_of t).count - 0)
unfolding template_of pieces_from
pieces-all t = let e : (head_of t).count - 0 ≡ (head_of t).count = omega arith in rw e

pub pieces_step : (t : List ℕ) (j n : ℕ) → j < n → pieces_from t j (n - j) ≡ piece_of t (segment_at t j) ∷ pieces_from t (j + 1) (n - (j + 1))
unfolding pieces_from
pieces_step t j n h = ap (map (piece_of t)) (from_more (segment_at t) j n h)

pub pieces-done : (t : List ℕ) (j n : ℕ) → n ≤ j → pieces_from t j (n - j) ≡ []
unfolding pieces_from
pieces-done t j n h = ap (map (piece_of t)) (from_end (segment_at t) j n h)

-- the packet is too short for the segment at j
pub fits-short : (t p : List ℕ) (j n : ℕ) → j < n → length p < segment_end t j → fits_pieces (pieces_from t j (n - j)) p ≡ false
unfolding fits_pieces
fits-short t p j n h s =
    rw (pieces_step t j n h, window_length t (segment_at t j).offset (segment_at t j).length, lt-leb _ _ s)

-- it is not, so the bytes decide, and then the segments after
pub fits-long : (t p : List ℕ) (j n : ℕ) → j < n → (off len : ℕ) → (segment_at t j).offset ≡ off → (segment_at t j).length ≡ len → off + len ≤ length p → fits_pieces (pieces_from t j (n - j)) p ≡ (holds_at t p off (off + len) && fits_pieces (pieces_from t (j + 1) (n - (j + 1))) p)
unfolding fits_pieces
fits-long t p j n h off len eo el s =
    let d : off + len - off ≡ len = omega arith in
    rw (pieces_step t j n h, eo, el, window_length t off len, le-leb _ _ s, d)

-- no segment is left
pub fits-done : (t p : List ℕ) (j n : ℕ) → n ≤ j → fits_pieces (pieces_from t j (n - j)) p ≡ true
unfolding fits_pieces
fits-done t p j n h = rw (pieces-done t j n h)

-- ---- the bytes of a segment

module _ (t p : List ℕ) (k e : ℕ) where
  pub holds-step : k < e → k < length p → holds_at t p k e ≡ (eqb (get_or p k 0) (byte_at t k) && holds_at t p (k + 1) e)
  holds-step h l = rw (from_more (byte_at t) k e h, drop-cons p k 0 l, add-one k)

  pub holds_same : k < e → k < length p → get_or p k 0 ≡ byte_at t k → holds_at t p k e ≡ holds_at t p (k + 1) e
  holds_same h l q = holds-step h l ∙ rw (eq-eqb _ _ q)

  pub holds-other : k < e → k < length p → (get_or p k 0 ≡ byte_at t k → ⊥) → holds_at t p k e ≡ false
  holds-other h l q = holds-step h l ∙ rw (ne_eqb _ _ q)

  pub holds-done : e ≤ k → holds_at t p k e ≡ true
  holds-done h = rw (from_end (byte_at t) k e h)

module _ (t p : List ℕ) where
  -- n bytes, and then those up to e
  holds-count : (n k m e : ℕ) → m ≡ k + n → m ≤ e → m ≤ length p → holds_at t p k e ≡ (holds_at t p k m && holds_at t p m e)
  holds-count zero k m e q h l = let s : m ≡ k = omega arith in rw (s, holds-done t p k k (omega arith))
  holds-count (suc n) k m e q h l =
      let first = eqb (get_or p k 0) (byte_at t k) in
      holds-step t p k e (omega arith) (omega arith) ∙ ap (λ (b : Bool). first && b) (holds-count n (k + 1) m e (omega arith) h l)
      ∙ sym (and_assoc first (holds_at t p (k + 1) m) (holds_at t p m e)) ∙ ap (λ (b : Bool). b && holds_at t p m e) (sym (holds-step t p k m (omega arith) (omega arith)))

  -- what was found of the bytes up to m decides first, and then those behind
  pub holds_then : (k m e : ℕ) {a b : Bool} → k ≤ m → m ≤ e → m ≤ length p → a ≡ holds_at t p k m → a ≡ b → holds_at t p k e ≡ (b && holds_at t p m e)
  holds_then k m e i h l q r = holds-count (m - k) k m e (omega arith) h l ∙ rw (← q, r)

-- ---- a template

module _ (t p : List ℕ) where
  -- a segment decides
  pub unfit_pieces : fits_pieces (pieces_of t) p ≡ false → fits (template_of t) p ≡ false
  unfolding fits
  unfit_pieces e = rw e

  -- the segments fit, and there is no checksum
  pub fit-plain : fits_pieces (pieces_of t) p ≡ true → (head_of t).checksum ≡ None → fits (template_of t) p ≡ true
  unfolding fits template_of
  fit-plain e f = rw (e, f)

  -- the segments fit, and the checksum decides
  pub fit-sum : (b : Bool) {k : Checksum} → fits_pieces (pieces_of t) p ≡ true → (head_of t).checksum ≡ Some k → fits_sum (sum_at k.field k.start) p ≡ b → fits (template_of t) p ≡ b
  unfolding fits template_of
  fit-sum b e f g = rw (e, f) g

pub sum_facts : (t : List ℕ) {k : Checksum} → SoundTemplate (template_of t) → (head_of t).checksum ≡ Some k → SumFacts k.field k.start (pieces_of t)
unfolding template_of
sum_facts t s e = rw e at s.summed

pub sum-place : (t : List ℕ) {k : Checksum} → SoundTemplate (template_of t) → (head_of t).checksum ≡ Some k → SumPlace k.field k.start
sum-place t s e = let f = sum_facts t s e in record { low = f.low; order = f.order; high = f.high; even = f.even }

-- ---- the templates of a table

-- the search for a template that fits
module _ (w : List ℕ) (p : List ℕ) (i n : ℕ) where
  -- one that does not fit is passed over
  pub find_next : i < n → fits (template_of (words_at w i)) p ≡ false → first_fit (templates_from w i (n - i)) p ≡ first_fit (templates_from w (i + 1) (n - (i + 1))) p
  unfolding first_fit
  find_next h e = rw (templates-step w i n h, e)

  -- and the first that fits is the answer
  pub find_here : i < n → fits (template_of (words_at w i)) p ≡ true → first_fit (templates_from w i (n - i)) p ≡ short (template_of (words_at w i))
  unfolding first_fit
  find_here h e = rw (templates-step w i n h, e)

  pub find_done : n ≤ i → first_fit (templates_from w i (n - i)) p ≡ full
  unfolding first_fit
  find_done h = rw (templates-done w i n h)

-- the search for a Context ID
module _ (w : List ℕ) (id i n : ℕ) where
  pub id_next : i < n → ((head_of (words_at w i)).id.0 ≡ id → ⊥) → with_id id (templates_from w i (n - i)) ≡ with_id id (templates_from w (i + 1) (n - (i + 1)))
  unfolding with_id template_of
  id_next h e = rw (templates-step w i n h, ne_eqb _ _ e)

  pub id-here : i < n → (head_of (words_at w i)).id.0 ≡ id → with_id id (templates_from w i (n - i)) ≡ listed (template_of (words_at w i))
  unfolding with_id template_of
  id-here h e = rw (templates-step w i n h, eq-eqb _ _ e)

  pub id-done : n ≤ i → with_id id (templates_from w i (n - i)) ≡ missing
  unfolding with_id
  id-done h = rw (templates-done w i n h)
