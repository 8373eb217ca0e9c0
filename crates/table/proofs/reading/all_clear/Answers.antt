-- The invariant is `Clearing`: what the segments not yet seen say is the answer.
use Rattle.table.proofs.Calls.{called_true}
use Rattle.table.proofs.Steps.{clear_next}
use Rattle.table.proofs.reading.all_clear.Goals as goal

pub loop-j-preserved : goal.loop-j-preserved
loop-j-preserved c =
    clear_next c.loop-j.invariant c.loop-j-test.true c.segment_at-s.ensures (called_true c.clear_of.ensures c.if-not-clear_of.false)
