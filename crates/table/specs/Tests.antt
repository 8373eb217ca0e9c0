-- The tests of a template beside its Context ID and its count of segments, as they are made over its words.
use Rattle.std.specs.Prelude.{ℕ, Bool, true, not, ◌&&◌, List, Option, Some, None, eqb}
use Rattle.table.specs.declared.Checksum.{Checksum}
use Rattle.table.specs.declared.Head.{Head}
use Rattle.table.specs.declared.Segment.{Segment}
use Rattle.table.specs.Rules.{clear_of, sum_rule, segments_fault, all_clear, goes}

-- the offsets of a checksum keep their rule; without one there is a segment at least
abbrev pub pair_or : Option Checksum → ℕ → Bool
pair_or (Some c) count = sum_rule c.field c.start
pair_or None count = not (eqb count 0)

abbrev pub pair_sound : Head → Bool
pair_sound h = pair_or h.checksum h.count

-- a segment leaves the field of a checksum free, where there is one
abbrev pub leaves_free : Option Checksum → ℕ → ℕ → Bool
leaves_free (Some c) offset size = clear_of c.field offset size
leaves_free None offset size = true

-- and so do all
abbrev pub all_free : Option Checksum → List Segment → Bool
all_free (Some c) ss = all_clear c.field ss
all_free None ss = true

-- segments keep their rule, and leave the field of a checksum free
abbrev pub segments_sound : Option Checksum → ℕ → List Segment → Bool
segments_sound checksum ended ss = goes (segments_fault ended ss) && all_free checksum ss
