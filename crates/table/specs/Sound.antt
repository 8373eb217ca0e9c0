-- What sound templates are, as facts.
use Rattle.std.specs.Prelude.{ℕ, ◌+◌, ◌-◌, ◌%◌, ◌≤◌, ◌<◌, ◌≡◌, List, [], ◌∷◌, ◌⊎◌}
use Rattle.varint.specs.Numbers.{limit}
use Rattle.table.specs.Limits.{max_templates, max_segments, static_limit}
use Rattle.table.specs.Templates.{Piece, piece_end, Sum, no_sum, sum_at, Template}
use Rattle.table.specs.Words.{head_of, segment_at, template_of, count_in, words_at}

-- the pieces ascend from pos on, do not overlap, and end within the limit; they may touch
unfoldable pub Ascends : ℕ → List Piece → Type 0
Ascends pos [] = pos ≤ static_limit
Ascends pos (s ∷ ss) = (pos ≤ s.offset) × Ascends (piece_end s) ss

-- the two bytes at field lie in no piece
unfoldable pub ClearOf : ℕ → List Piece → Type 0
ClearOf field [] = Unit
ClearOf field (s ∷ ss) = ((field + 2 ≤ s.offset) ⊎ (piece_end s ≤ field)) × ClearOf field ss

pub record SumFacts (field start : ℕ) (ps : List Piece) : Type 0 where
  pub low : 20 ≤ start
  pub order : start ≤ field
  pub high : field + 2 ≤ static_limit
  pub even : (field - start) % 2 ≡ 0
  pub clear : ClearOf field ps

abbrev pub SoundSum : Sum → List Piece → Type 0
SoundSum no_sum ps = Unit
SoundSum (sum_at field start) ps = SumFacts field start ps

pub record SoundTemplate (t : Template) : Type 0 where
  pub above : 0 < t.id
  pub below : t.id < limit
  pub ascends : Ascends 0 t.pieces
  pub summed : SoundSum t.sum t.pieces

-- every template is sound, and the IDs ascend
unfoldable pub SoundTemplates : ℕ → List Template → Type 0
SoundTemplates previous [] = Unit
SoundTemplates previous (t ∷ ts) = (previous < t.id) × (SoundTemplate t × SoundTemplates t.id ts)

-- ---- what the code may rest on

-- the words t of a sound template
pub record UsableTemplate (t : List ℕ) : Type 0 where
  pub few : (head_of t).count ≤ max_segments
  pub within : (j : ℕ) → j < (head_of t).count → (segment_at t j).offset + (segment_at t j).length ≤ static_limit
  pub sound : SoundTemplate (template_of t)

-- the words w of a sound table
pub record Usable (w : List ℕ) : Type 0 where
  pub few : count_in w ≤ max_templates
  pub all : (i : ℕ) → i < count_in w → UsableTemplate (words_at w i)
