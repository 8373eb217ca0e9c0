-- The invariant is `Gathering`: the pieces before j are found and stored.
use Rattle.std.proofs.Common.{arith, drop}
use lib.ListN.{length-set}
use Rattle.answer.proofs.Passing.{passed_on}
use Rattle.table.proofs.Gathering.{gather, gather-end, gather-stop, gather-next, piece_inside}
use Rattle.table.proofs.reading.read_segments.Goals as goal

pub loop-j-init : goal.loop-j-init
loop-j-init c =
    gather _ _ _ _ c.requires.t_len c.requires.t_blank c.requires.at_in_bounds.0

pub returns-in_err-read : goal.returns-in_err-read
returns-in_err-read c =
    rw (passed_on _ _ c.from_residual.ensures.1) (gather-stop c.loop-j.invariant c.loop-j-test.true c.in_err-read.ensures)

pub overflow_add-read : goal.overflow_add-read
overflow_add-read c =
    omega (arith, piece_inside c.args.bytes.now (drop c.loop-j.next c.args.bytes.now) c.loop-j.ended c.in_ok-read.read c.in_ok-read.ensures)

pub paste-requires-clause-t_has_room : goal.paste-requires-clause-t_has_room
paste-requires-clause-t_has_room c =
    let b = piece_inside c.args.bytes.now (drop c.loop-j.next c.args.bytes.now) c.loop-j.ended c.in_ok-read.read c.in_ok-read.ensures in
    simp length-set (omega (arith, b, c.loop-j.invariant.size))

pub loop-j-preserved : goal.loop-j-preserved
loop-j-preserved c =
    gather-next c.loop-j.invariant c.loop-j-test.true c.in_ok-read.read c.in_ok-read.ensures (omega arith) c.paste.ensures

pub returns : goal.returns
returns c =
    gather-end c.loop-j.invariant c.loop-j-test.false
