-- The invariant is `Fitting`: what the segments not yet seen say is the answer.
use Rattle.table.specs.Words.{segment_at}
use Rattle.table.proofs.Judging.{Fitting}
use Rattle.table.proofs.judge.segments_sound.Given as goal

abbrev pub invariant-loop-j : goal.invariant-loop-j
invariant-loop-j l = Fitting l.head.checksum (segment_at l.t) l.head.count l.ended l.j
