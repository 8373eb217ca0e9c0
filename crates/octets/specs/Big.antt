-- Big-endian numbers on byte lists.
use Rattle.std.specs.Prelude.{ℕ, zero, suc, ◌+◌, ◌*◌, ◌/◌, ◌%◌, ◌<◌, List, [], ◌∷◌, ◌++◌, take, drop, get_or}

-- the big-endian value of a byte list, after the digits that `acc` stands for
abbrev pub big_from : ℕ → List ℕ → ℕ
big_from acc [] = acc
big_from acc (b ∷ bs) = big_from (acc * 256 + b) bs

abbrev pub big : List ℕ → ℕ
big bs = big_from 0 bs

-- the number in the n bytes at a place
abbrev pub big_at : ℕ → ℕ → List ℕ → ℕ
big_at i n s = big (take n (drop i s))

-- the n lowest bytes of v, big-endian
abbrev pub digits : ℕ → ℕ → List ℕ
digits zero v = []
digits (suc n) v = digits n (v / 256) ++ (v % 256 ∷ [])

-- every element is a byte
abbrev pub Bytes : List ℕ → Type 0
Bytes s = (i : ℕ) → get_or s i 0 < 256
