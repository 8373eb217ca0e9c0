-- Templates in words. Word 0 of a table is the count of templates, and each template has its words after it: a head of five (Context ID, count of
-- segments, 1 with a checksum and 0 without, field, start), two for each segment, and an image of a packet's first bytes, a byte in each word.
-- What stands past a count, and a byte outside all segments, means nothing: it is 0 where the box makes it, and ignored in what is handed in.
use Rattle.std.specs.Prelude.{ℕ, zero, suc, ◌+◌, ◌*◌, ◌%◌, Option, Some, None, List, [], ◌∷◌, ◌++◌, map, eqb, ltb, length, take, drop, get_or, replicate}
use Rattle.answer.specs.Choice.{pick}
use Rattle.octets.specs.Parts.{part}
use Rattle.octets.specs.Scan.{from}
use Rattle.table.specs.declared.Segment.{Segment}
use Rattle.table.specs.declared.Checksum.{Checksum}
use Rattle.table.specs.declared.Head.{Head}
use Rattle.table.specs.Limits.{max_templates, max_segments, static_limit}
use Rattle.table.specs.Templates.{Piece, piece_end, Sum, no_sum, sum_at, Template}

-- ---- sizes

abbrev pub head_words : ℕ
head_words = 5

abbrev pub words_per_segment : ℕ
words_per_segment = 2

-- where the image starts
abbrev pub image_at : ℕ
image_at = head_words + max_segments * words_per_segment

abbrev pub template_words : ℕ
template_words = image_at + static_limit

abbrev pub table_words : ℕ
table_words = 1 + max_templates * template_words

-- ---- one template: t is its words

unfoldable pub segment_at : List ℕ → ℕ → Segment
segment_at t j =
    record { offset = get_or t (head_words + j * words_per_segment) 0; length = get_or t (head_words + j * words_per_segment + 1) 0 }

-- the static byte of a position
unfoldable pub byte_at : List ℕ → ℕ → ℕ
byte_at t p = get_or t (image_at + p) 0 % 256

-- a flag is 0 or 1: under any other the field is 0, which no rule of a checksum allows
abbrev pub field_under : ℕ → ℕ → ℕ
field_under flag field = pick (ltb 1 flag) 0 field

-- what three words say of a checksum
abbrev pub checksum_under : ℕ → ℕ → ℕ → Option Checksum
checksum_under flag field start = pick (eqb flag 0) None (Some (record { field = field_under flag field; start = start }))

unfoldable pub head_of : List ℕ → Head
head_of t =
    record {
      id = record { 0 = get_or t 0 0 };
      count = get_or t 1 0;
      checksum = checksum_under (get_or t 2 0) (get_or t 3 0) (get_or t 4 0);
    }

-- the static bytes of n positions from k on
abbrev pub window : List ℕ → ℕ → ℕ → List ℕ
window t k n = from (byte_at t) k n

abbrev pub piece_of : List ℕ → Segment → Piece
piece_of t s = record { offset = s.offset; bytes = window t s.offset s.length }

abbrev pub sum_of : Option Checksum → Sum
sum_of (Some c) = sum_at c.field c.start
sum_of None = no_sum

unfoldable pub template_of : List ℕ → Template
template_of t =
    record {
      id = (head_of t).id.0;
      pieces = map (piece_of t) (from (segment_at t) 0 (head_of t).count);
      sum = sum_of (head_of t).checksum;
    }

-- ---- a table: w is its words

abbrev pub count_in : List ℕ → ℕ
count_in w = get_or w 0 0

-- the words of template i
unfoldable pub words_at : List ℕ → ℕ → List ℕ
words_at w i = part w (1 + i * template_words) template_words

unfoldable pub templates_of : List ℕ → List Template
templates_of w = map template_of (from (words_at w) 0 (count_in w))

-- ---- the words of templates

abbrev pub flag_word : Sum → ℕ
flag_word no_sum = 0
flag_word (sum_at field start) = 1

abbrev pub field_word : Sum → ℕ
field_word no_sum = 0
field_word (sum_at field start) = field

abbrev pub start_word : Sum → ℕ
start_word no_sum = 0
start_word (sum_at field start) = start

-- the words of k segments, 0 where there are fewer
abbrev pub segment_words : ℕ → List Piece → List ℕ
segment_words zero ps = []
segment_words (suc k) [] = 0 ∷ 0 ∷ segment_words k []
segment_words (suc k) (p ∷ ps) = p.offset ∷ length p.bytes ∷ segment_words k ps

-- the pieces pasted into an image
abbrev pub image_of : List ℕ → List Piece → List ℕ
image_of image [] = image
image_of image (p ∷ ps) = image_of (take p.offset image ++ (p.bytes ++ drop (piece_end p) image)) ps

unfoldable pub pack_template : Template → List ℕ
pack_template t =
    (t.id ∷ length t.pieces ∷ flag_word t.sum ∷ field_word t.sum ∷ start_word t.sum ∷ [])
    ++ (segment_words max_segments t.pieces ++ image_of (replicate static_limit 0) t.pieces)

-- the words of k templates, 0 where there are fewer
abbrev pub templates_words : ℕ → List Template → List ℕ
templates_words zero ts = []
templates_words (suc k) [] = replicate template_words 0 ++ templates_words k []
templates_words (suc k) (t ∷ ts) = pack_template t ++ templates_words k ts

unfoldable pub pack_table : List Template → List ℕ
pack_table ts = length ts ∷ templates_words max_templates ts
