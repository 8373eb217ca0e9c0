-- Parts of a list of words.
use Rattle.std.specs.Prelude.{ℕ, List, ◌++◌, take, drop}

-- n words from the place o on
abbrev pub part : List ℕ → ℕ → ℕ → List ℕ
part w o n = take n (drop o w)

-- the words v in the place of those from a up to e
abbrev pub with_part : List ℕ → ℕ → ℕ → List ℕ → List ℕ
with_part w a e v = take a w ++ (v ++ drop e w)
