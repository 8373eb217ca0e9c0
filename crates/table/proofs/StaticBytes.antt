-- How many static bytes a template holds, segment by segment. Assumes nothing.
use Prim.Native.Nat.{ℕ, ◌+◌, ◌-◌, ◌<◌, ◌≤◌}
use mathlib.Core.Path.{◌≡◌, refl, ap, ◌∙◌}
use mathlib.Core.List.{List, [], ◌∷◌, map}
use native.Mathlib.Nat.{sub-zero}
use native.Mathlib.Omega.{arith}
use Rattle.octets.specs.Scan.{from}
use Rattle.octets.proofs.Scans.{from_more, from_end}
use Rattle.table.specs.declared.Segment.{Segment}
use Rattle.table.specs.declared.Head.{Head}
use Rattle.table.specs.Limits.{static_limit}
use Rattle.table.specs.Templates.{Piece, piece_end, static_size}
use Rattle.table.specs.Words.{segment_at, head_of, piece_of, template_of}
use Rattle.table.specs.Sound.{Ascends, UsableTemplate}
use Rattle.table.proofs.Judging.{length_piece}

-- pieces that end within the limit hold no more bytes
pub static-most : (ps : List Piece) (pos : ℕ) → Ascends pos ps → pos + static_size ps ≤ static_limit
unfolding Ascends
static-most [] pos a = omega (arith, a)
static-most (p ∷ ps) pos a = omega (arith, a.0, static-most ps (piece_end p) a.1)

-- the bytes of n segments from j on
abbrev size_from : List ℕ → ℕ → ℕ → ℕ
size_from t j n = static_size (map (piece_of t) (from (segment_at t) j n))

-- the bytes of the first j of n segments are added up
pub record Adding (t : List ℕ) (n total j : ℕ) : Type 0 where
  pub within : j ≤ n
  pub rest : total + size_from t j (n - j) ≡ static_size (template_of t).pieces

module _ (t : List ℕ) where
  size-by : static_size (template_of t).pieces ≡ size_from t 0 (head_of t).count
  unfolding template_of
  size-by = refl

  pub adding_none : {h : Head} → h ≡ head_of t → Adding t h.count 0 0
  adding_none q = record { within = omega arith; rest = rw (q, sub-zero) (omega (arith, size-by)) }

module _ {t : List ℕ} {n total j : ℕ} (a : Adding t n total j) where
  module _ {s : Segment} (h : j < n) (q : s ≡ segment_at t j) where
    size-more : size_from t j (n - j) ≡ s.length + size_from t (j + 1) (n - (j + 1))
    size-more =
        rw q
        (ap (λ (ss : List Segment). static_size (map (piece_of t) ss)) (from_more (segment_at t) j n h)
        ∙ ap (λ (k : ℕ). k + size_from t (j + 1) (n - (j + 1))) (length_piece t (segment_at t j)))

    pub adding_fits : UsableTemplate t → total + s.length ≤ static_limit
    adding_fits u = omega (arith, a.rest, size-more, static-most (template_of t).pieces 0 u.sound.ascends)

    pub adding_more : Adding t n (total + s.length) (j + 1)
    adding_more = record { within = omega arith; rest = omega (arith, a.rest, size-more) }

  pub adding_done : n ≤ j → total ≡ static_size (template_of t).pieces
  adding_done h = omega (arith, a.rest, ap (λ (ss : List Segment). static_size (map (piece_of t) ss)) (from_end (segment_at t) j n h))

  pub adding_most : UsableTemplate t → total ≤ static_limit
  adding_most u = omega (arith, a.rest, static-most (template_of t).pieces 0 u.sound.ascends)
