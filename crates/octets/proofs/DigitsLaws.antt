-- `digits` written from the back, a byte a turn. Assumes nothing.
use Prim.Native.Nat.{ℕ, zero, suc, ◌-◌, ◌/◌, ◌%◌, ◌<◌, ◌≤◌}
use mathlib.Core.Path.{◌≡◌, refl}
use mathlib.Core.List.{List, [], ◌∷◌, ◌++◌, append_assoc}
use native.Mathlib.Nat.{le_of_suc-le-suc, not-suc-le-zero}
use native.Mathlib.Numerals.{sub-one}
use lib.ListN.{length, set, drop}
use Rattle.octets.specs.Big.{digits}

-- what a store at j leaves from j on
pub drop_set_same : (l : List ℕ) (j b : ℕ) → j < length l → drop j (set l j b) ≡ b ∷ drop (suc j) l
drop_set_same [] j b h = absurd (not-suc-le-zero h)
drop_set_same (x ∷ l) zero b h = refl
drop_set_same (x ∷ l) (suc j) b h = drop_set_same l j b (le_of_suc-le-suc h)

pub step : (i w : ℕ) (l v : List ℕ) → 0 < i → i ≤ length l → digits i w ++ drop i l ≡ v
    → digits (i - 1) (w / 256) ++ drop (i - 1) (set l (i - 1) (w % 256)) ≡ v
step zero w l v h g e = absurd (not-suc-le-zero h)
step (suc j) w l v h g e = rw (sub-one, drop_set_same) (rw append_assoc at e)

pub end : (i w : ℕ) (l v : List ℕ) → i ≤ 0 → digits i w ++ drop i l ≡ v → l ≡ v
end zero w l v h e = e
end (suc j) w l v h e = absurd (not-suc-le-zero h)
