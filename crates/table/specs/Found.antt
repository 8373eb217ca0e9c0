-- What the functions that read a plan file hand back, held to the steps of reading. s is the file, t the words of a template.
use Rattle.std.specs.Prelude.{ℕ, ◌+◌, ◌≤◌, ◌≡◌, List, [], ◌∷◌, ◌++◌, length, drop, get_or, replicate, Result, Ok, Err}
use Rattle.answer.specs.declared.Refusal.{Refusal}
use Rattle.octets.specs.Parts.{part}
use Rattle.table.specs.declared.Segment.{Segment}
use Rattle.table.specs.declared.reading.NumberAt.{NumberAt}
use Rattle.table.specs.declared.reading.TwoAt.{TwoAt}
use Rattle.table.specs.declared.reading.SegmentAt.{SegmentAt}
use Rattle.table.specs.declared.reading.ChecksumAt.{ChecksumAt}
use Rattle.table.specs.declared.reading.TemplateAt.{TemplateAt}
use Rattle.table.specs.Limits.{max_templates, max_segments, static_limit}
use Rattle.table.specs.Templates.{Piece, Sum, Template}
use Rattle.table.specs.Words.{head_words, template_words, sum_of, flag_word, field_word, start_word, segment_words, image_of, pack_template}
use Rattle.table.specs.File.{Step, stop, found, and_then, two_in, pair_with, templates_in, ending, plan_in}
use Rattle.table.specs.Load.{verdict_in, loaded}

-- a step finds a value, with the bytes from `next` on behind it
pub record FoundAt {A : Type 0} (s : List ℕ) (step : Step A) (value : A) (next : ℕ) : Type 0 where
  pub within : next ≤ length s
  pub same : step ≡ found value (drop next s)

abbrev pub NumberFound : List ℕ → Step ℕ → Result NumberAt Refusal → Type 0
NumberFound s step (Ok r) = FoundAt s step r.value r.next
NumberFound s step (Err w) = step ≡ stop w

abbrev pub TwoFound : List ℕ → Step (ℕ × ℕ) → Result TwoAt Refusal → Type 0
TwoFound s step (Ok r) = FoundAt s step (r.first, r.second) r.next
TwoFound s step (Err w) = step ≡ stop w

-- the piece of a segment whose bytes stand in the file
abbrev pub piece_at : List ℕ → SegmentAt → Piece
piece_at s r = record { offset = r.offset; bytes = part s r.start r.size }

abbrev pub PieceFound : List ℕ → Step Piece → Result SegmentAt Refusal → Type 0
PieceFound s step (Ok r) = FoundAt s step (piece_at s r) (r.start + r.size)
PieceFound s step (Err w) = step ≡ stop w

-- what stands behind the head of a template of these pieces
abbrev pub body_words : List Piece → List ℕ
body_words ps = segment_words max_segments ps ++ image_of (replicate static_limit 0) ps

-- the pieces of a template are found, and stored
pub record PiecesAt (s : List ℕ) (step : Step (List Piece)) (next : ℕ) (t : List ℕ) : Type 0 where
  pub pieces : List Piece
  pub read : FoundAt s step pieces next
  pub words : drop head_words t ≡ body_words pieces

abbrev pub PiecesTold : List ℕ → Step (List Piece) → Result ℕ Refusal → List ℕ → Type 0
PiecesTold s step (Ok next) t = PiecesAt s step next t
PiecesTold s step (Err w) t = step ≡ stop w

pub record PiecesFound (s : List ℕ) (step : Step (List Piece)) (r : Result ℕ Refusal) (t : List ℕ) : Type 0 where
  pub size : length t ≡ template_words
  pub told : PiecesTold s step r t

-- the field offset and the start offset
abbrev pub pair_in : List Segment → List ℕ → Step Sum
pair_in ss s = and_then (two_in s) (pair_with ss)

abbrev pub SumFound : List ℕ → Step Sum → Result ChecksumAt Refusal → Type 0
SumFound s step (Ok r) = FoundAt s step (sum_of r.checksum) r.next
SumFound s step (Err w) = step ≡ stop w

-- the words of a template with a new head
abbrev pub headed : ℕ → ℕ → Sum → List ℕ → List ℕ
headed id n sum t = (id ∷ n ∷ flag_word sum ∷ field_word sum ∷ start_word sum ∷ []) ++ drop head_words t

-- a template is found, and stored
pub record TemplateStored (s : List ℕ) (step : Step Template) (next : ℕ) (t : List ℕ) : Type 0 where
  pub template : Template
  pub read : FoundAt s step template next
  pub words : t ≡ pack_template template

abbrev pub BodyTold : List ℕ → Step Template → Result ℕ Refusal → List ℕ → Type 0
BodyTold s step (Ok next) t = TemplateStored s step next t
BodyTold s step (Err w) t = step ≡ stop w

pub record BodyFound (s : List ℕ) (step : Step Template) (r : Result ℕ Refusal) (t : List ℕ) : Type 0 where
  pub size : length t ≡ template_words
  pub told : BodyTold s step r t

abbrev pub TemplateTold : List ℕ → Step Template → Result TemplateAt Refusal → List ℕ → Type 0
TemplateTold s step (Ok r) t = (b : TemplateStored s step r.next t) × (r.id ≡ b.template.id)
TemplateTold s step (Err w) t = step ≡ stop w

pub record TemplateFound (s : List ℕ) (step : Step Template) (r : Result TemplateAt Refusal) (t : List ℕ) : Type 0 where
  pub size : length t ≡ template_words
  pub told : TemplateTold s step r t

-- w is the words of a table
pub record TemplatesFound (step : Step (List Template)) (r : Result Unit Refusal) (w : List ℕ) : Type 0 where
  pub verdict : r ≡ verdict_in step
  pub words : w ≡ loaded step w

-- what the file holds, by the verdict on its first six bytes
abbrev pub behind_head : Result Unit Refusal → List ℕ → Step (List Template)
behind_head (Ok _) s = and_then (templates_in (get_or s 5 0) 0 (drop 6 s)) ending
behind_head (Err r) s = stop r

pub record HeadFound (s : List ℕ) (r : Result Unit Refusal) : Type 0 where
  pub same : plan_in s ≡ behind_head r s
  pub long : r ≡ Ok tt → 6 ≤ length s
  pub few : r ≡ Ok tt → get_or s 5 0 ≤ max_templates
