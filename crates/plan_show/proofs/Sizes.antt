-- The lines of a plan fit into their room. Assumes nothing.
use Rattle.std.proofs.Common.{Ok}
use Prim.Native.Nat.{ℕ, ◌+◌, ◌*◌, ◌^◌, ◌≤◌, ◌<◌}
use mathlib.Core.Path.{◌≡◌}
use mathlib.Core.Bool.{true}
use mathlib.Core.List.{List, [], ◌∷◌, ◌++◌}
use native.Mathlib.Omega.{arith}
use lib.ListN.{length, length-append}
use Rattle.answer.proofs.Tables.{then_first, then_second}
use Rattle.table.specs.Templates.{Piece, Sum, no_sum, sum_at, Template, static_size}
use Rattle.table.specs.Words.{count_in, templates_of}
use Rattle.table.specs.Rules.{template_fault, templates_fault, sound_templates}
use Rattle.table.specs.Sound.{SoundSum}
use Rattle.table.proofs.TableFacts.{TemplateFacts, template_facts, sound-few, sound-go}
use Rattle.plan_show.specs.Text.{ascii, decimal}
use Rattle.plan_show.specs.Lines.{labelled, last_labelled, sum_text, template_line, template_lines, table_lines}
use Rattle.plan_show.specs.Lines.{id_digits, count_digits, offset_digits, line_room, lines_room}
use Rattle.plan_show.proofs.Decimals.{length_decimal}
use Rattle.plan_show.proofs.Rooms.{room_as}
use Rattle.table.proofs.StaticBytes.{static-most}
use Rattle.plan_show.proofs.Parts.{table_parts}

-- ---- a line

module _ (label : List ℕ) (k n : ℕ) (p : 0 < k) (h : n < 10 ^ k) where
  length_labelled : length (labelled label n) ≤ length label + k
  length_labelled = omega (arith, length-append label (decimal n), length_decimal k n p h)

  length_last : length (last_labelled label n) ≤ length label + k + 1
  length_last = omega (arith, length-append (labelled label n) (ascii "\n"), length_labelled)

-- the most that a checksum takes
abbrev sum_room : ℕ
sum_room = 10 + offset_digits + 1 + offset_digits + 1

sum-most : (k : Sum) (ps : List Piece) → SoundSum k ps → length (sum_text k) ≤ sum_room
sum-most no_sum ps s = omega arith
sum-most (sum_at field start) ps s =
    omega (
      arith,
      length-append (labelled (ascii " checksum ") field) (last_labelled (ascii " ") start),
      length_labelled (ascii " checksum ") offset_digits field (omega arith) (omega (arith, s.high)),
      length_last (ascii " ") offset_digits start (omega arith) (omega (arith, s.high, s.order)),
    )

line_most : (previous : ℕ) (t : Template) → TemplateFacts previous t → length (template_line t) ≤ line_room
unfolding template_line
line_most previous t f =
    let size = static_size t.pieces in
    let segments = labelled (ascii " segments ") (length t.pieces) in
    let bytes = labelled (ascii " static ") size in
    omega (
      arith,
      length-append (decimal t.id) (segments ++ (bytes ++ sum_text t.sum)),
      length-append segments (bytes ++ sum_text t.sum),
      length-append bytes (sum_text t.sum),
      length_decimal id_digits t.id (omega arith) (omega (arith, f.sound.below)),
      length_labelled (ascii " segments ") count_digits (length t.pieces) (omega arith) (omega (arith, f.few)),
      length_labelled (ascii " static ") offset_digits size (omega arith) (omega (arith, static-most t.pieces 0 f.sound.ascends)),
      sum-most t.sum t.pieces f.sound.summed,
    )

-- ---- all lines

templates-most : (previous : ℕ) (ts : List Template) → templates_fault previous ts ≡ Ok tt → length (template_lines ts) ≤ line_room * length ts
templates-most previous [] e = omega arith
templates-most previous (t ∷ ts) e =
    let rest = templates_fault t.id ts in
    omega (
      arith,
      length-append (template_line t) (template_lines ts),
      line_most previous t (template_facts previous t (then_first (template_fault previous t) rest e)),
      templates-most t.id ts (then_second (template_fault previous t) rest e),
    )

table_most : (ts : List Template) → sound_templates ts ≡ true → length (table_lines ts) ≤ lines_room
table_most ts s =
    let first = last_labelled (ascii "plan 1 templates ") (length ts) in
    let few = sound-few ts s in
    omega (
      arith,
      few,
      length-append first (template_lines ts),
      length_last (ascii "plan 1 templates ") count_digits (length ts) (omega arith) (omega (arith, few)),
      templates-most 0 ts (sound-go ts s),
    )

-- the parts of the lines of a sound table fit into their room
pub table_room : (w a : List ℕ) → sound_templates (templates_of w) ≡ true → lines_room ≤ length a
    → 0 + length (last_labelled (ascii "plan 1 templates ") (count_in w) ++ template_lines (templates_of w)) ≤ length a
table_room w a s h = room_as 0 (table_parts w) (omega (arith, table_most (templates_of w) s))

-- the number of a refusal is a byte
pub refused-most : (n : ℕ) → n < 256 → length (last_labelled (ascii "refused ") n) ≤ lines_room
refused-most n h = omega (arith, length_last (ascii "refused ") 3 n (omega arith) (omega (arith, h)))
