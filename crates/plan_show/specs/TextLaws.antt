-- What `decimal` is measured by: the value of digits, and what a digit is. `proofs/TextLaws.antt` shows that it is right.
use Rattle.std.specs.Prelude.{ℕ, ◌+◌, ◌-◌, ◌*◌, Bool, ◌&&◌, List, [], ◌∷◌, leb}

-- the value of digits, after those that acc stands for
abbrev pub value_from : ℕ → List ℕ → ℕ
value_from acc [] = acc
value_from acc (d ∷ ds) = value_from (acc * 10 + (d - 48)) ds

-- `0` to `9`
abbrev pub is_digit : ℕ → Bool
is_digit d = leb 48 d && leb d 57
