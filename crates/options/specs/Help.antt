-- The arguments that ask for help.
use Rattle.std.specs.Prelude.{ℕ, ◌≡◌, Bool, true, ◌⊎◌, List}
use Rattle.options.specs.Ascii.{ascii}

abbrev pub Help : List ℕ → Type 0
Help arg = (arg ≡ ascii "--help") ⊎ (arg ≡ ascii "-h")

-- r is true for these and for no other
pub record AsksHelp (arg : List ℕ) (r : Bool) : Type 0 where
  pub only : r ≡ true → Help arg
  pub each : Help arg → r ≡ true

-- `-`, with which an option begins
abbrev pub dash : ℕ
dash = 45
