-- There is at most one proof that a template is usable, so that a type can carry it (`Template`).
use Rattle.std.specs.Prelude.{ℕ, ◌-◌, ◌%◌, ◌≡◌, List, [], ◌∷◌, ◌⊎◌}
use Rattle.std.specs.Coded.{×_prop, →_prop, Π_prop, Unit-prop, le_prop}
use mathlib.Core.Logic.{inl, inr}
use mathlib.Core.Path.{ap}
use native.Mathlib.Omega.{arith}
use denote.Struct.Props.{props}
use Rattle.table.specs.Templates.{Piece, piece_end, Sum, no_sum, sum_at, Template}
use Rattle.table.specs.Words.{template_of}
use Rattle.table.specs.Sound.{Ascends, ClearOf, SumFacts, SoundSum, SoundTemplate, UsableTemplate}

-- of two facts that exclude each other
either-prop : {A B : Type 0} → IsProp A → IsProp B → (A → B → ⊥) → IsProp (A ⊎ B)
either-prop a b n (inl x) (inl y) = ap inl (a x y)
either-prop a b n (inl x) (inr y) = absurd (n x y)
either-prop a b n (inr x) (inl y) = absurd (n y x)
either-prop a b n (inr x) (inr y) = ap inr (b x y)

Ascends-prop : (pos : ℕ) (ps : List Piece) → IsProp (Ascends pos ps)
unfolding Ascends
Ascends-prop pos [] = le_prop
Ascends-prop pos (s ∷ ss) = ×_prop le_prop (Ascends-prop (piece_end s) ss)

ClearOf-prop : (field : ℕ) (ps : List Piece) → IsProp (ClearOf field ps)
unfolding ClearOf
ClearOf-prop field [] = Unit-prop
ClearOf-prop field (s ∷ ss) = ×_prop (either-prop le_prop le_prop (λ a b. omega arith)) (ClearOf-prop field ss)

SumFacts-prop : (field start : ℕ) (ps : List Piece) → IsProp (SumFacts field start ps)
SumFacts-prop field start ps x y =
    let even_prop : IsProp ((field - start) % 2 ≡ 0) = hlevel props in
    λ i. record {
      low = le_prop x.low y.low i;
      order = le_prop x.order y.order i;
      high = le_prop x.high y.high i;
      even = even_prop x.even y.even i;
      clear = ClearOf-prop field ps x.clear y.clear i;
    }

SoundSum-prop : (k : Sum) (ps : List Piece) → IsProp (SoundSum k ps)
SoundSum-prop no_sum ps = Unit-prop
SoundSum-prop (sum_at field start) ps = SumFacts-prop field start ps

SoundTemplate-prop : (t : Template) → IsProp (SoundTemplate t)
SoundTemplate-prop t x y =
    λ i. record {
      above = le_prop x.above y.above i;
      below = le_prop x.below y.below i;
      ascends = Ascends-prop 0 t.pieces x.ascends y.ascends i;
      summed = SoundSum-prop t.sum t.pieces x.summed y.summed i;
    }

pub UsableTemplate-prop : (t : List ℕ) → IsProp (UsableTemplate t)
UsableTemplate-prop t x y =
    λ i. record {
      few = le_prop x.few y.few i;
      within = Π_prop (λ j. →_prop le_prop) x.within y.within i;
      sound = SoundTemplate-prop (template_of t) x.sound y.sound i;
    }
