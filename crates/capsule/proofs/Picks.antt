-- Choices by a test: which of the two was taken. Assumes nothing.
use mathlib.Core.Bool.{Bool, true, false}
use mathlib.Core.Path.{◌≡◌, refl}
use mathlib.Core.Logic.{◌⊎◌, inl, inr}
use Rattle.answer.specs.Choice.{pick}

module _ {A : Type 0} where
  pub pick_same : (b : Bool) (x : A) → pick b x x ≡ x
  pick_same true x = refl
  pick_same false x = refl

  pub pick_case : (b : Bool) (x y z : A) → pick b x y ≡ z → ((b ≡ true) × (x ≡ z)) ⊎ ((b ≡ false) × (y ≡ z))
  pick_case true x y z e = inl (refl, e)
  pick_case false x y z e = inr (refl, e)
