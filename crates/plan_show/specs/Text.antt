-- Text in ASCII, and numbers in decimal.
use Rattle.std.specs.Prelude.{ℕ, zero, suc, ◌+◌, ◌/◌, ◌%◌, List, [], ◌∷◌, ◌++◌, ltb}
use Rattle.answer.specs.Choice.{pick}
pub use Rattle.options.specs.Ascii.{ascii}

-- a number of 64 bits has at most 20 digits
abbrev pub max_digits : ℕ
max_digits = 20

-- the digits of n, of which there are at most so many: those of n / 10, where there are any, and then the last one
abbrev pub digits_of : ℕ → ℕ → List ℕ
digits_of zero n = []
digits_of (suc most) n = pick (ltb n 10) [] (digits_of most (n / 10)) ++ ((48 + n % 10) ∷ [])

unfoldable pub decimal : ℕ → List ℕ
decimal n = digits_of max_digits n
