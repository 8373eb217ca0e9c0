-- The sums of RFC 1071.
use Rattle.std.specs.Prelude.{ℕ, ◌+◌, ◌-◌, ◌*◌, ◌/◌, ◌%◌, min, ◌≡◌, List, [], ◌∷◌, get_or}

-- the sum of the big-endian 16-bit words of a list of bytes; an odd last byte is the high half of its word
unfoldable pub words : List ℕ → ℕ
words [] = 0
words (a ∷ []) = a * 256
words (a ∷ b ∷ r) = a * 256 + b + words r

-- a sum folded to 16 bits by end-around carries: 0 for 0, and else the one of 1 .. 65535 that equals it modulo 65535
unfoldable pub fold : ℕ → ℕ
fold s = (s - 1) % 65535 + min s 1

-- one end-around carry: the bits above the lowest 16 are added to them
unfoldable pub carry : ℕ → ℕ
carry s = s % 65536 + s / 65536

-- w holds the first two words of s, each with its bytes swapped, the second above the first
pub record SwappedWords (s : List ℕ) (w : ℕ) : Type 0 where
  pub first : w % 65536 ≡ get_or s 1 0 * 256 + get_or s 0 0
  pub second : w / 65536 ≡ get_or s 3 0 * 256 + get_or s 2 0
  pub first-low : w / 256 % 256 ≡ get_or s 1 0
  pub second-low : w / 16777216 ≡ get_or s 3 0
