-- The invariant is `Sounding`: what the templates not yet seen say is the answer.
use Rattle.table.proofs.Judging.{Sounding}
use Rattle.table.proofs.judge.table_fault.Given as goal

abbrev pub invariant-loop-i : goal.invariant-loop-i
invariant-loop-i l = Sounding l.w l.previous l.i
