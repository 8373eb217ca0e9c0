-- The invariant: what is left to put completes the static bytes (`Putting`).
use native.Mathlib.Omega.{arith}
use Rattle.output.proofs.Placing.{putting_more}
use Rattle.plan_write.proofs.Parts.{static-more, static-room}
use Rattle.plan_write.proofs.template_file.put_static.Goals as goal

pub put_byte-next-requires : goal.put_byte-next-requires
put_byte-next-requires c =
    let l = c.loop-i in
    static-room c.args.t.words.now c.args.offset c.args.size l.i c.loop-i-test.true c.byte-b.ensures l.invariant.1 c.requires.1

pub loop-i-preserved : goal.loop-i-preserved
loop-i-preserved c =
    let l = c.loop-i in
    (omega arith, putting_more l.invariant.1 (static-more c.args.t.words.now c.args.offset c.args.size l.i c.loop-i-test.true c.byte-b.ensures) c.put_byte-next.ensures)
