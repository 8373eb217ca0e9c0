-- The paper's plan read and written, and a refusal of each number. Each fact here is found by computing.
use Rattle.std.specs.Prelude.{ℕ, ◌≡◌, refl, List, [], ◌∷◌, ◌++◌}
use Rattle.answer.specs.declared.Refusal.TheVariants.{PlanMark, PlanVersion, PlanCut, PlanRule, PlanNotShortest, PlanContext}
use Rattle.varint.specs.Numbers.{read_number, encode, encoded_size}
use Rattle.table.specs.Templates.{Template, sum_at}
use Rattle.table.specs.File.{stop, found, plan_bytes, number_in, two_in, bytes_in, piece_in, pieces_in, sum_in, body_in, template_in, templates_in, plan_in}

-- mark, version 1, one template
head : List ℕ
head = 0x56 ∷ 0x41 ∷ 0x4e ∷ 0x00 ∷ 0x01 ∷ 0x01 ∷ []

-- ID 2, one segment at 12 of 12 bytes
static : List ℕ
static = 0xc0 ∷ 0x00 ∷ 0x02 ∷ 0x03 ∷ 0xc6 ∷ 0x33 ∷ 0x64 ∷ 0x02 ∷ 0x03 ∷ 0xe8 ∷ 0x07 ∷ 0xd0 ∷ []

segments : List ℕ
segments = 0x02 ∷ 0x01 ∷ 0x0c ∷ 0x0c ∷ static

paper : List ℕ
paper = head ++ (segments ++ (0x01 ∷ 0x1a ∷ 0x14 ∷ []))

template : Template
template = record { id = 2; pieces = record { offset = 12; bytes = static } ∷ []; sum = sum_at 26 20 }

paper-read : plan_in paper ≡ found (template ∷ []) []
unfolding head static segments paper template read_number encode encoded_size number_in two_in bytes_in piece_in pieces_in sum_in body_in template_in templates_in plan_in
paper-read = refl

paper-written : plan_bytes (template ∷ []) ≡ paper
unfolding head static segments paper template encode plan_bytes
paper-written = refl

-- no templates at all
empty-read : plan_in (0x56 ∷ 0x41 ∷ 0x4e ∷ 0x00 ∷ 0x01 ∷ 0x00 ∷ []) ≡ found [] []
unfolding bytes_in templates_in plan_in
empty-read = refl

wrong-mark : plan_in (0x56 ∷ 0x41 ∷ 0x4f ∷ []) ≡ stop PlanMark
unfolding bytes_in plan_in
wrong-mark = refl

wrong-version : plan_in (0x56 ∷ 0x41 ∷ 0x4e ∷ 0x00 ∷ 0x02 ∷ []) ≡ stop PlanVersion
unfolding bytes_in plan_in
wrong-version = refl

cut_short : plan_in (head ++ (segments ++ (0x01 ∷ 0x1a ∷ []))) ≡ stop PlanCut
unfolding head static segments read_number encode encoded_size number_in two_in bytes_in piece_in pieces_in sum_in body_in template_in templates_in plan_in
cut_short = refl

left_over : plan_in (paper ++ (0x00 ∷ [])) ≡ stop PlanCut
unfolding head static segments paper read_number encode encoded_size number_in two_in bytes_in piece_in pieces_in sum_in body_in template_in templates_in plan_in
left_over = refl

-- the field's first byte is the last byte of the segment
field_in_segment : plan_in (head ++ (segments ++ (0x01 ∷ 0x17 ∷ 0x15 ∷ []))) ≡ stop PlanRule
unfolding head static segments read_number encode encoded_size number_in two_in bytes_in piece_in pieces_in sum_in body_in template_in templates_in plan_in
field_in_segment = refl

-- the length 12 in two bytes
not_shortest : plan_in (head ++ (0x02 ∷ 0x01 ∷ 0x0c ∷ 0x40 ∷ 0x0c ∷ static)) ≡ stop PlanNotShortest
unfolding head static read_number encode encoded_size number_in two_in bytes_in piece_in pieces_in body_in template_in templates_in plan_in
not_shortest = refl

-- ID 0
no-id : plan_in (head ++ (0x00 ∷ [])) ≡ stop PlanContext
unfolding head read_number encode encoded_size number_in bytes_in template_in templates_in plan_in
no-id = refl

-- nine templates
too_many : plan_in (0x56 ∷ 0x41 ∷ 0x4e ∷ 0x00 ∷ 0x01 ∷ 0x09 ∷ []) ≡ stop PlanContext
unfolding bytes_in plan_in
too_many = refl
