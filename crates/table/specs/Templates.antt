-- What a template means: pieces, which hold the static bytes of a packet from an offset on, and the checksum to complete.
use Rattle.std.specs.Prelude.{ℕ, ◌+◌, List, [], ◌∷◌, map, length}
use Rattle.table.specs.declared.Segment.{Segment}

-- static bytes at an offset
pub record Piece : Type 0 where
  pub offset : ℕ
  pub bytes : List ℕ

abbrev pub piece_end : Piece → ℕ
piece_end p = p.offset + length p.bytes

-- how many static bytes pieces hold
abbrev pub static_size : List Piece → ℕ
static_size [] = 0
static_size (p ∷ ps) = length p.bytes + static_size ps

-- the segment where a piece stands
abbrev pub segment_of : Piece → Segment
segment_of p = record { offset = p.offset; length = length p.bytes }

-- the checksum of a template: none, or one whose field stands at an offset and whose sum starts at an offset
pub data Sum : Type 0 where
  no_sum : Sum
  sum_at : ℕ → ℕ → Sum

pub record Template : Type 0 where
  pub id : ℕ
  pub pieces : List Piece
  pub sum : Sum

abbrev pub segments_of : Template → List Segment
segments_of t = map segment_of t.pieces
