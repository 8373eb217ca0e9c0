-- Tests of order that say the same. Assumes nothing.
use mathlib.Core.Bool.{Bool, true, false}
use mathlib.Core.Path.{◌≡◌, refl, sym, ◌∙◌}
use Prim.Native.Nat.{ℕ, ◌≤◌}
use native.Mathlib.Nat.{not-le_of_lt}
use lib.Dec.{leb}
use borrow.Author.Tests.{leb-true, leb-false, le-leb}

-- two tests are equal where each fact gives the other
pub leb_same : (a b c d : ℕ) → (a ≤ b → c ≤ d) → (c ≤ d → a ≤ b) → leb a b ≡ leb c d
leb_same a b c d f g = go (leb c d) refl (leb a b) refl
  where
    go : (t : Bool) → leb c d ≡ t → (u : Bool) → leb a b ≡ u → leb a b ≡ leb c d
    go true e u q = le-leb a b (g (leb-true c d e)) ∙ sym e
    go false e false q = q ∙ sym e
    go false e true q = absurd (not-le_of_lt (leb-false c d e) (f (leb-true a b q)))
