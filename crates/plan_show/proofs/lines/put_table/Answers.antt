-- The lines of a sound table fit (`table_room`): the first line, and then those of the templates.
use native.Mathlib.Omega.{arith}
use Rattle.output.proofs.Placing.{put_then, put_as}
use Rattle.table.specs.Words.{count_in, templates_of}
use Rattle.table.proofs.TableFacts.{table_usable}
use Rattle.plan_show.specs.Text.{ascii}
use Rattle.plan_show.specs.Lines.{last_labelled, template_lines}
use Rattle.plan_show.proofs.Rooms.{room-first, room_next}
use Rattle.plan_show.proofs.Parts.{table_parts}
use Rattle.plan_show.proofs.Sizes.{table_room}
use Rattle.plan_show.proofs.lines.put_table.Goals as goal

pub put_last-first-requires : goal.put_last-first-requires
put_last-first-requires c =
    let room = table_room c.args.w.now c.args.out.now c.requires (omega arith) in
    room-first (last_labelled (ascii "plan 1 templates ") (count_in c.args.w.now)) (template_lines (templates_of c.args.w.now)) 0 room

pub put_templates-requires-clause-usable : goal.put_templates-requires-clause-usable
put_templates-requires-clause-usable c =
    table_usable c.args.w.now c.requires

pub put_templates-requires-clause-w_in_bounds : goal.put_templates-requires-clause-w_in_bounds
put_templates-requires-clause-w_in_bounds c =
    let room = table_room c.args.w.now c.args.out.now c.requires (omega arith) in
    room_next (last_labelled (ascii "plan 1 templates ") (count_in c.args.w.now)) (template_lines (templates_of c.args.w.now)) c.put_last-first.ensures room

pub returns : goal.returns
returns c = put_as (table_parts c.args.w.now) (put_then c.put_last-first.ensures c.put_templates.ensures)
