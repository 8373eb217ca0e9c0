-- By the cases of the checksum.
use Rattle.output.proofs.Placing.{put_then, put_as}
use Rattle.plan_show.specs.Text.{ascii}
use Rattle.plan_show.specs.Lines.{labelled, last_labelled}
use Rattle.plan_show.proofs.Rooms.{room-first, room_next, room_as}
use Rattle.plan_show.proofs.Parts.{sum-none, sum-some}
use Rattle.plan_show.proofs.lines.put_checksum.Goals as goal

pub put_labelled-start-requires : goal.put_labelled-start-requires
put_labelled-start-requires c =
    let h = c.head in
    room-first (labelled (ascii " checksum ") c.in-Some.sum.field) (last_labelled (ascii " ") c.in-Some.sum.start) c.args.at (room_as c.args.at (sum-some c.args.t.words.now h.ensures c.in-Some.is) c.requires)

pub put_last-requires : goal.put_last-requires
put_last-requires c =
    let h = c.head in
    room_next (labelled (ascii " checksum ") c.in-Some.sum.field) (last_labelled (ascii " ") c.in-Some.sum.start) c.put_labelled-start.ensures (room_as c.args.at (sum-some c.args.t.words.now h.ensures c.in-Some.is) c.requires)

pub returns-in-Some : goal.returns-in-Some
returns-in-Some c =
    let h = c.head in
    put_as (sum-some c.args.t.words.now h.ensures c.in-Some.is) (put_then c.put_labelled-start.ensures c.put_last.ensures)

pub put_bytes-requires : goal.put_bytes-requires
put_bytes-requires c =
    room_as c.args.at (sum-none c.args.t.words.now c.head.ensures c.in-None.is) c.requires

pub returns-in-None : goal.returns-in-None
returns-in-None c = put_as (sum-none c.args.t.words.now c.head.ensures c.in-None.is) c.put_bytes.ensures
