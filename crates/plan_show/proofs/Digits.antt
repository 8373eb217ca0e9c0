-- The digits of a number, by its last one. Assumes nothing.
use Rattle.std.proofs.Common.{ℕ, zero, suc, ◌+◌, ◌-◌, ◌/◌, ◌%◌, ◌<◌, ◌≤◌, ◌≡◌, refl, [], ◌∷◌, ◌++◌, arith, sub-one, lt-ltb, le-ltb}
use Rattle.plan_show.specs.Text.{digits_of}

-- one digit is the last one
pub digits_last : (most n : ℕ) → 0 < most → n < 10 → digits_of most n ≡ (48 + n % 10) ∷ []
digits_last zero n h b = absurd (omega (arith, h))
digits_last (suc most) n h b = rw (lt-ltb n 10 b) refl

-- and else it stands behind those of n / 10
pub digits_more : (most n : ℕ) → 0 < most → 10 ≤ n → digits_of most n ≡ digits_of (most - 1) (n / 10) ++ ((48 + n % 10) ∷ [])
digits_more zero n h b = absurd (omega (arith, h))
digits_more (suc most) n h b = rw (le-ltb n 10 b, sub-one) refl
