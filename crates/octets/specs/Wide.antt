-- Numbers of 128 bits in two words, and low bits.
use Rattle.std.specs.Prelude.{ℕ, ◌+◌, ◌*◌, ◌%◌, ◌^◌, Bool, eqb}

-- the number of two words
abbrev pub wide : ℕ → ℕ → ℕ
wide hi lo = hi * 2 ^ 64 + lo

-- the k lowest bits of a are 0
abbrev pub low_zero : ℕ → ℕ → Bool
low_zero k a = eqb (a % 2 ^ k) 0
