-- The lines of plan files, computed.
use Rattle.std.specs.Prelude.{ℕ, ◌≡◌, refl, List, [], ◌∷◌}
use Rattle.varint.specs.Numbers.{read_number, encode, encoded_size}
use Rattle.table.specs.File.{number_in, two_in, bytes_in, piece_in, pieces_in, sum_in, body_in, template_in, templates_in, plan_in}
use Rattle.plan_show.specs.Text.{ascii, decimal}
use Rattle.plan_show.specs.Lines.{template_line, plan_lines}

-- the drivers' plan
drivers : List ℕ
drivers =
    0x56 ∷ 0x41 ∷ 0x4e ∷ 0x00 ∷ 0x01 ∷ 0x01 ∷ 0x02 ∷ 0x01 ∷ 0x0c ∷ 0x0c ∷ 0xc0 ∷ 0x00 ∷ 0x02 ∷ 0x03 ∷ 0xc6 ∷ 0x33 ∷ 0x64 ∷ 0x02 ∷ 0x03
    ∷ 0xe8 ∷ 0x07 ∷ 0xd0 ∷ 0x01 ∷ 0x1a ∷ 0x14 ∷ []

drivers-lines : plan_lines drivers ≡ ascii "plan 1 templates 1\n2 segments 1 static 12 checksum 26 20\n"
unfolding drivers read_number encode encoded_size number_in two_in bytes_in piece_in pieces_in sum_in body_in template_in templates_in plan_in decimal template_line plan_lines
drivers-lines = refl

-- no templates at all
empty_line : plan_lines (0x56 ∷ 0x41 ∷ 0x4e ∷ 0x00 ∷ 0x01 ∷ 0x00 ∷ []) ≡ ascii "plan 1 templates 0\n"
unfolding bytes_in templates_in plan_in decimal plan_lines
empty_line = refl

-- flag 0
no_checksum_lines : plan_lines (0x56 ∷ 0x41 ∷ 0x4e ∷ 0x00 ∷ 0x01 ∷ 0x01 ∷ 0x40 ∷ 0x64 ∷ 0x01 ∷ 0x00 ∷ 0x01 ∷ 0x45 ∷ 0x00 ∷ [])
    ≡ ascii "plan 1 templates 1\n100 segments 1 static 1 checksum none\n"
unfolding read_number encode encoded_size number_in two_in bytes_in piece_in pieces_in sum_in body_in template_in templates_in plan_in decimal template_line plan_lines
no_checksum_lines = refl

-- an empty file
refused_line_lem : plan_lines [] ≡ ascii "refused 22\n"
unfolding bytes_in plan_in decimal plan_lines
refused_line_lem = refl

-- the largest Context ID
largest : decimal 4611686018427387903 ≡ ascii "4611686018427387903"
unfolding decimal
largest = refl
