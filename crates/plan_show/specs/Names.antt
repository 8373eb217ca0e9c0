-- Room for the name of a file.
use Rattle.std.specs.Prelude.{ℕ}

-- the most bytes of a name
abbrev pub name_room : ℕ
name_room = 4096

-- the most bytes that stand before it on standard error
abbrev pub label_room : ℕ
label_room = 23
