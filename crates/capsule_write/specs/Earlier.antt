-- The elements before a place of a list.
use Rattle.std.specs.Prelude.{ℕ, zero, suc, List, [], ◌∷◌}

-- f (n - 1), .., f 0: the elements before n, the newest of which stands first
abbrev pub earlier : {A : Type 0} → (ℕ → A) → ℕ → List A
earlier f zero = []
earlier f (suc n) = f n ∷ earlier f n
