-- The most bytes of an element: an IPv6 entry with a Request ID of 8 bytes, and an IPv6 range.
use Rattle.std.specs.Prelude.{ℕ}

abbrev pub max_entry : ℕ
max_entry = 26

abbrev pub max_range : ℕ
max_range = 34
