-- The templates of a table in turn: those from a place on. Assumes nothing.
use Prim.Native.Nat.{ℕ, ◌+◌, ◌-◌, ◌≤◌, ◌<◌}
use mathlib.Core.Path.{◌≡◌, ap}
use mathlib.Core.List.{List, [], ◌∷◌, map}
use native.Mathlib.Omega.{arith}
use Rattle.octets.specs.Scan.{from}
use Rattle.octets.proofs.Scans.{from_more, from_end}
use Rattle.table.specs.Templates.{Template}
use Rattle.table.specs.Words.{template_of, count_in, words_at, templates_of}
use Rattle.table.specs.Sound.{UsableTemplate, Usable}

-- n templates from i on
unfoldable pub templates_from : List ℕ → ℕ → ℕ → List Template
templates_from w i n = map template_of (from (words_at w) i n)

module _ (w : List ℕ) where
  pub templates-all : templates_of w ≡ templates_from w 0 (count_in w - 0)
  unfolding templates_of templates_from
  templates-all = let e : count_in w - 0 ≡ count_in w = omega arith in rw e

  pub templates-step : (i n : ℕ) → i < n → templates_from w i (n - i) ≡ template_of (words_at w i) ∷ templates_from w (i + 1) (n - (i + 1))
  unfolding templates_from
  templates-step i n h = ap (map template_of) (from_more (words_at w) i n h)

  pub templates-done : (i n : ℕ) → n ≤ i → templates_from w i (n - i) ≡ []
  unfolding templates_from
  templates-done i n h = ap (map template_of) (from_end (words_at w) i n h)
