-- Records among the bytes that were read: one byte kind, two bytes big-endian length, and that many bytes.
use Rattle.std.specs.Prelude.{ℕ, ◌+◌, ◌-◌, ◌≤◌, ◌≡◌, List, ltb, length, take, drop}
use Rattle.answer.specs.Choice.{pick}
use Rattle.octets.specs.Big.{big_at}
use Rattle.octets.specs.Parts.{part}
use Rattle.van_box.specs.Sizes.{record_head, max_record}

-- bytes were read behind those that are held, and r is the end of them all
pub record Fills (held : ℕ) (before : List ℕ) (r : ℕ) (after : List ℕ) : Type 0 where
  pub front : take held after ≡ take held before
  pub more : held ≤ r
  pub within : r ≤ length after

-- the head and as many bytes as it says
abbrev pub stated_size : List ℕ → ℕ
stated_size s = record_head + big_at 1 2 s

-- how many bytes the record at the front of s takes: 0 where it is not all there
unfoldable pub record_size : List ℕ → ℕ
record_size s = pick (ltb (length s) record_head) 0 (pick (ltb (length s) (stated_size s)) 0 (stated_size s))

-- the size of the record at a place of the bytes s
pub record Sized (s : List ℕ) (at r : ℕ) : Type 0 where
  pub size : r ≡ record_size (drop at s)
  pub within : at + r ≤ length s
  pub most : r ≤ record_head + max_record

-- the bytes from a place up to the end stand at the front, and r is their number
pub record Keeps (at end : ℕ) (before : List ℕ) (r : ℕ) (after : List ℕ) : Type 0 where
  pub left : r ≡ end - at
  pub front : take r after ≡ part before at r
