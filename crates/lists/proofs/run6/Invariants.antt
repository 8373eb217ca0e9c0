-- The invariant `Running6`: what the ranges behind i say is what those behind j say; each turn is a law of it. Assumes nothing.
use Rattle.lists.proofs.RunLaws as Law
use Rattle.lists.proofs.run6.Given as goal

abbrev pub invariant-loop-last : goal.invariant-loop-last
invariant-loop-last l = Law.Running6 l.w l.n l.j l.hi l.lo l.last
