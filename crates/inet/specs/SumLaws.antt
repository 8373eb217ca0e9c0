-- Why `fold` is the folded sum of RFC 1071: it is what is left when carries change nothing more, and its complement completes a sum. Assumes nothing.
use Rattle.std.specs.Prelude.{◌≡◌, ℕ, ◌+◌, ◌-◌, ◌*◌, ◌/◌, ◌≤◌, ◌<◌}
use Rattle.std.proofs.Common.{sym, ◌∙◌, arith}
use Rattle.inet.specs.Sum.{fold, carry}

-- an end-around carry changes no fold
pub fold-carry : (s : ℕ) → fold (carry s) ≡ fold s
unfolding fold carry
fold-carry s = omega arith

-- what fits in 16 bits is its own fold
pub fold_small : (s : ℕ) → s < 65536 → fold s ≡ s
unfolding fold
fold_small s h = omega arith

-- a fold fits in 16 bits
pub fold-fits : (s : ℕ) → fold s < 65536
unfolding fold
fold-fits s = omega arith

-- a sum is its fold and a multiple of 65535
pub fold_quot : (s : ℕ) → s ≡ fold s + 65535 * ((s - 1) / 65535)
unfolding fold
fold_quot s = omega arith

-- multiples of 65535 change no fold of a sum above 0
pub fold-past : (s k : ℕ) → 0 < s → fold (s + 65535 * k) ≡ fold s
unfolding fold
fold-past s k h = omega arith

-- and such a sum folds to no 0
pub fold_pos : (s : ℕ) → 0 < s → 0 < fold s
unfolding fold
fold_pos s h = omega arith

-- the complement of a sum's fold completes the sum
pub fold_completes : (s : ℕ) → 0 < s → fold (s + (65535 - fold s)) ≡ 65535
unfolding fold
fold_completes s h = omega arith

carry_carry_fits : (s : ℕ) → s < 4294967296 → carry (carry s) < 65536
unfolding carry
carry_carry_fits s h = omega arith

-- two carries fold a sum of 32 bits
pub fold_two_carries : (s : ℕ) → s < 4294967296 → carry (carry s) ≡ fold s
fold_two_carries s h = sym (fold_small (carry (carry s)) (carry_carry_fits s h)) ∙ fold-carry (carry s) ∙ fold-carry s

-- one carry folds the sum of two words
pub fold_one_carry : (s : ℕ) → s ≤ 131070 → carry s ≡ fold s
unfolding fold carry
fold_one_carry s h = omega arith
