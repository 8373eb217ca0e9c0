-- What is answered and what is left to answer are all of it (`Streaming`); each turn but the last passes a capsule.
use native.Mathlib.Omega.{arith}
use borrow.Author.Tests.{not-true, not-false}
use Rattle.van_box.specs.Records.{memory}
use Rattle.van_box.proofs.Streaming.{stream_start, stream_room, stream_stopped, stream_moves, stream_within, stream_ended, stream_goes_on}
use Rattle.van_box.proofs.answers.stream_record.Goals as goal

pub loop-step-init : goal.loop-step-init
loop-step-init c =
    stream_start (memory c.args.state.now c.args.kept.now) c.args.bytes.now c.args.output c.args.out.now c.requires.state_len

pub piece_record-step-requires : goal.piece_record-step-requires
piece_record-step-requires c =
    let p = c.requires in
    stream_room c.loop-step.invariant p.record_room_in_bounds p.bytes_len_bound

pub returns-then-not-step : goal.returns-then-not-step
returns-then-not-step c =
    stream_stopped c.loop-step.invariant c.piece_record-step.ensures (not-true _ c.if-not-step.true)

pub overflow_add-next : goal.overflow_add-next
overflow_add-next c =
    omega (arith, stream_within c.loop-step.invariant c.piece_record-step.ensures (not-false _ c.if-not-step.false))

pub returns-then-bytes-next : goal.returns-then-bytes-next
returns-then-bytes-next c =
    stream_ended c.loop-step.invariant c.piece_record-step.ensures (not-false _ c.if-not-step.false) (omega (arith, c.if-bytes-next.true))

pub loop-step-smaller : goal.loop-step-smaller
loop-step-smaller c =
    omega (arith, stream_moves c.loop-step.invariant c.piece_record-step.ensures (not-false _ c.if-not-step.false), c.if-bytes-next.false)

pub loop-step-preserved : goal.loop-step-preserved
loop-step-preserved c =
    stream_goes_on c.loop-step.invariant c.piece_record-step.ensures (not-false _ c.if-not-step.false) (omega (arith, c.if-bytes-next.false))
