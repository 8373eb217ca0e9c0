-- The file of a sound table fits into the least output (`plan-most`); its parts follow one another, by `put-file`.
use native.Mathlib.Omega.{arith}
use Rattle.table.proofs.TableFacts.{table_usable}
use Rattle.plan_write.proofs.Parts.{length_plan, put-file}
use Rattle.plan_write.proofs.Sizes.{plan-most}
use Rattle.plan_write.proofs.put_plan.Goals as goal

pub put_count-first-requires : goal.put_count-first-requires
put_count-first-requires c =
    let p = c.put_head-count.ensures in
    omega (arith, c.requires.sound_and_room.1, p.place, p.kept, (table_usable c.args.w.now c.requires.sound_and_room.0).few)

pub put_templates-requires-clause-usable : goal.put_templates-requires-clause-usable
put_templates-requires-clause-usable c =
    table_usable c.args.w.now c.requires.sound_and_room.0

pub put_templates-requires-clause-room : goal.put_templates-requires-clause-room
put_templates-requires-clause-room c =
    let p = c.put_head-count.ensures in
    let q = c.put_count-first.ensures in
    let u = table_usable c.args.w.now c.requires.sound_and_room.0 in
    omega (arith, c.requires.sound_and_room.1, p.place, p.kept, q.place, q.kept, length_plan c.args.w.now, plan-most c.args.w.now u)

pub returns : goal.returns
returns c = put-file c.args.w.now c.put_head-count.ensures c.put_count-first.ensures c.put_templates.ensures
