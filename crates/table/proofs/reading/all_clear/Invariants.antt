-- The invariant is `Clearing`: what the segments not yet seen say is the answer.
use Rattle.table.specs.Words.{segment_at}
use Rattle.table.proofs.Steps.{Clearing}
use Rattle.table.proofs.reading.all_clear.Given as goal

abbrev pub invariant-loop-j : goal.invariant-loop-j
invariant-loop-j l = Clearing l.field (segment_at l.t) l.n l.j
