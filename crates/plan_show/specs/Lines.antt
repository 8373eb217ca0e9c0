-- What is written of a plan file (document 01, "Drivers' examples"): a line for the plan and one for each template, or the number of its refusal.
use Rattle.std.specs.Prelude.{ℕ, ◌+◌, ◌*◌, List, [], ◌∷◌, ◌++◌, length}
use Rattle.answer.specs.declared.Refusal.{Refusal}
use Rattle.answer.specs.Number.{number_of}
use Rattle.table.specs.Limits.{max_templates}
use Rattle.table.specs.Templates.{static_size, Sum, no_sum, sum_at, Template}
use Rattle.table.specs.File.{Step, stop, found, plan_in}
use Rattle.plan_show.specs.Text.{ascii, decimal}

-- a label and a number behind it
abbrev pub labelled : List ℕ → ℕ → List ℕ
labelled label n = label ++ decimal n

-- the same at the end of a line
abbrev pub last_labelled : List ℕ → ℕ → List ℕ
last_labelled label n = labelled label n ++ ascii "\n"

-- field and start, or none
abbrev pub sum_text : Sum → List ℕ
sum_text no_sum = ascii " checksum none\n"
sum_text (sum_at field start) = labelled (ascii " checksum ") field ++ last_labelled (ascii " ") start

-- `ID segments S static B checksum F P`
unfoldable pub template_line : Template → List ℕ
template_line t =
    decimal t.id
    ++ (labelled (ascii " segments ") (length t.pieces) ++ (labelled (ascii " static ") (static_size t.pieces) ++ sum_text t.sum))

abbrev pub template_lines : List Template → List ℕ
template_lines [] = []
template_lines (t ∷ ts) = template_line t ++ template_lines ts

-- `plan 1 templates N`, and the lines of the templates
abbrev pub table_lines : List Template → List ℕ
table_lines ts = last_labelled (ascii "plan 1 templates ") (length ts) ++ template_lines ts

-- `refused NUMBER`
abbrev pub refused_line : Refusal → List ℕ
refused_line r = last_labelled (ascii "refused ") (number_of r)

abbrev pub lines_of : Step (List Template) → List ℕ
lines_of (stop r) = refused_line r
lines_of (found ts s) = table_lines ts

unfoldable pub plan_lines : List ℕ → List ℕ
plan_lines file = lines_of (plan_in file)

-- ---- sizes

-- the most digits of a Context ID, of a count, and of an offset or a size
abbrev pub id_digits : ℕ
id_digits = 19

abbrev pub count_digits : ℕ
count_digits = 1

abbrev pub offset_digits : ℕ
offset_digits = 3

-- the most that the first line takes: its label of 17, the count and the end of the line
abbrev pub first_room : ℕ
first_room = 17 + count_digits + 1

-- the labels of the line of a template take 10, 8, 10 and 1
abbrev pub line_labels : ℕ
line_labels = 10 + 8 + 10 + 1

-- the most that the line takes: five numbers, their labels and the end of the line
abbrev pub line_room : ℕ
line_room = id_digits + count_digits + 3 * offset_digits + line_labels + 1

abbrev pub lines_room : ℕ
lines_room = first_room + max_templates * line_room

-- the most that is read of the input
abbrev pub input_room : ℕ
input_room = 4096
