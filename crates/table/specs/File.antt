-- The plan file: the mark `VAN`, a 16-bit version 1, the count of templates; for each its Context ID, its segments with their bytes, its checksum.
use Rattle.std.specs.Prelude.{ℕ, zero, suc, Bool, true, false, not, ◌&&◌, List, [], ◌∷◌, ◌++◌, map, leb, eqb, length, take, drop, Option, Some, None}
use Rattle.answer.specs.declared.Refusal.{Refusal}
use Rattle.answer.specs.declared.Refusal.TheVariants.{PlanMark, PlanVersion, PlanCut, PlanRule, PlanNotShortest, PlanContext}
use Rattle.answer.specs.Choice.{pick}
use Rattle.varint.specs.declared.Number.{Number}
use Rattle.varint.specs.Numbers.{read_number, encode, shortest}
use Rattle.table.specs.declared.Segment.{Segment}
use Rattle.table.specs.Templates.{Piece, piece_end, segment_of, Sum, no_sum, sum_at, Template}
use Rattle.table.specs.Limits.{max_templates, max_segments}
use Rattle.table.specs.Rules.{id_rule, segment_rule, sum_rule, all_clear, none}

-- ---- writing

-- the mark: V, A, N
abbrev pub mark : List ℕ
mark = 0x56 ∷ 0x41 ∷ 0x4e ∷ []

abbrev pub version : List ℕ
version = 0 ∷ 1 ∷ []

abbrev pub piece_bytes : Piece → List ℕ
piece_bytes p = encode p.offset ++ (encode (length p.bytes) ++ p.bytes)

abbrev pub pieces_bytes : List Piece → List ℕ
pieces_bytes [] = []
pieces_bytes (p ∷ ps) = piece_bytes p ++ pieces_bytes ps

abbrev pub sum_bytes : Sum → List ℕ
sum_bytes no_sum = 0 ∷ []
sum_bytes (sum_at field start) = 1 ∷ (encode field ++ encode start)

abbrev pub template_bytes : Template → List ℕ
template_bytes t = encode t.id ++ (length t.pieces ∷ (pieces_bytes t.pieces ++ sum_bytes t.sum))

abbrev pub templates_bytes : List Template → List ℕ
templates_bytes [] = []
templates_bytes (t ∷ ts) = template_bytes t ++ templates_bytes ts

-- the file of templates
unfoldable pub plan_bytes : List Template → List ℕ
plan_bytes ts = mark ++ (version ++ (length ts ∷ templates_bytes ts))

-- ---- reading, left to right: each step finds something at the front and hands on the bytes behind it, or stops
pub data Step (A : Type 0) : Type 0 where
  stop : Refusal → Step A
  found : A → List ℕ → Step A

abbrev pub and_then : {A B : Type 0} → Step A → (A → List ℕ → Step B) → Step B
and_then (stop r) next = stop r
and_then (found a s) next = next a s

-- something made of what is found
abbrev pub mapped : {A B : Type 0} → (A → B) → Step A → Step B
mapped f (stop r) = stop r
mapped f (found a s) = found (f a) s

-- what follows, where a rule holds
abbrev pub holding : {A : Type 0} → Bool → Refusal → Step A → Step A
holding true r next = next
holding false r next = stop r

abbrev pub shortest_in : List ℕ → Option Number → Step ℕ
shortest_in s (Some q) = holding (shortest q.value q.size) PlanNotShortest (found q.value (drop q.size s))
shortest_in s None = stop PlanCut

-- a number in its shortest form
unfoldable pub number_in : List ℕ → Step ℕ
number_in s = shortest_in s (read_number s)

-- two numbers
unfoldable pub two_in : List ℕ → Step (ℕ × ℕ)
two_in s = and_then (number_in s) (λ a s₁. mapped (λ b. (a, b)) (number_in s₁))

abbrev pub byte_in : List ℕ → Step ℕ
byte_in [] = stop PlanCut
byte_in (b ∷ s) = found b s

unfoldable pub bytes_in : ℕ → List ℕ → Step (List ℕ)
bytes_in n s = holding (leb n (length s)) PlanCut (found (take n s) (drop n s))

-- a segment is tested before its bytes
abbrev pub piece_with : ℕ → ℕ × ℕ → List ℕ → Step Piece
piece_with ended n s =
    holding (segment_rule ended n.0 n.1) PlanRule
    (mapped (λ bytes. record { offset = n.0; bytes = bytes }) (bytes_in n.1 s))

unfoldable pub piece_in : ℕ → List ℕ → Step Piece
piece_in ended s = and_then (two_in s) (piece_with ended)

unfoldable pub pieces_in : ℕ → ℕ → List ℕ → Step (List Piece)
pieces_in zero ended s = found [] s
pieces_in (suc n) ended s =
    and_then (piece_in ended s) (λ p s₁. mapped (λ ps. p ∷ ps) (pieces_in n (piece_end p) s₁))

-- the field offset and the start offset, tested as a pair
abbrev pub pair_with : List Segment → ℕ × ℕ → List ℕ → Step Sum
pair_with ss n s = holding (sum_rule n.0 n.1 && all_clear n.0 ss) PlanRule (found (sum_at n.0 n.1) s)

-- flag 0 with a segment at least, or flag 1 and the pair
abbrev pub flag_with : List Segment → ℕ → List ℕ → Step Sum
flag_with ss flag s =
    pick (eqb flag 0) (holding (not (none ss)) PlanRule (found no_sum s))
    (holding (eqb flag 1) PlanRule (and_then (two_in s) (pair_with ss)))

unfoldable pub sum_in : List Segment → List ℕ → Step Sum
sum_in ss s = and_then (byte_in s) (flag_with ss)

abbrev pub template_with : ℕ → List Piece → List ℕ → Step Template
template_with id ps s = mapped (λ k. record { id = id; pieces = ps; sum = k }) (sum_in (map segment_of ps) s)

-- what follows the ID: the count of segments, the segments, the checksum
unfoldable pub body_in : ℕ → List ℕ → Step Template
body_in id s =
    and_then (byte_in s) (λ n s₁. holding (leb n max_segments) PlanRule (and_then (pieces_in n 0 s₁) (template_with id)))

unfoldable pub template_in : ℕ → List ℕ → Step Template
template_in previous s = and_then (number_in s) (λ id s₁. holding (id_rule previous id) PlanContext (body_in id s₁))

unfoldable pub templates_in : ℕ → ℕ → List ℕ → Step (List Template)
templates_in zero previous s = found [] s
templates_in (suc n) previous s =
    and_then (template_in previous s) (λ t s₁. mapped (λ ts. t ∷ ts) (templates_in n t.id s₁))

abbrev pub same_bytes : List ℕ → List ℕ → Bool
same_bytes [] [] = true
same_bytes [] (y ∷ ys) = false
same_bytes (x ∷ xs) [] = false
same_bytes (x ∷ xs) (y ∷ ys) = eqb x y && same_bytes xs ys

-- the file ends behind its last template
abbrev pub ending : {A : Type 0} → A → List ℕ → Step A
ending a [] = found a []
ending a (b ∷ s) = stop PlanCut

abbrev pub count_with : ℕ → List ℕ → Step (List Template)
count_with n s = holding (leb n max_templates) PlanContext (and_then (templates_in n 0 s) ending)

abbrev pub version_with : List ℕ → List ℕ → Step (List Template)
version_with v s = holding (same_bytes v version) PlanVersion (and_then (byte_in s) count_with)

abbrev pub mark_with : List ℕ → List ℕ → Step (List Template)
mark_with m s = holding (same_bytes m mark) PlanMark (and_then (bytes_in 2 s) version_with)

-- the templates that a file holds: mark, version, count, templates, end
unfoldable pub plan_in : List ℕ → Step (List Template)
plan_in s = and_then (bytes_in 3 s) mark_with
