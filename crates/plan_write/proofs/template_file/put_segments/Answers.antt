-- The invariant: what is left to put completes the segments (`Putting`).
use native.Mathlib.Omega.{arith}
use Rattle.output.proofs.Placing.{putting_none, putting_more}
use Rattle.plan_write.proofs.Parts.{pieces-start, pieces_more, piece_room}
use Rattle.plan_write.proofs.template_file.put_segments.Goals as goal

pub loop-j-init : goal.loop-j-init
loop-j-init c = (omega arith, putting_none (pieces-start c.args.t.words.now c.head-head.ensures))

pub put_segment-next-requires-clause-room : goal.put_segment-next-requires-clause-room
put_segment-next-requires-clause-room c =
    let l = c.loop-j in
    let h = c.head-head in
    let e = c.segment-s.ensures in
    piece_room c.args.t.words.now l.j h.result.count c.loop-j-test.true e l.invariant.1 c.requires

pub loop-j-preserved : goal.loop-j-preserved
loop-j-preserved c =
    let l = c.loop-j in
    (omega arith, putting_more l.invariant.1 (pieces_more c.args.t.words.now l.j _ c.loop-j-test.true c.segment-s.ensures) c.put_segment-next.ensures)
