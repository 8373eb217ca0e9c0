-- The invariant `Running4`: to range i nothing is broken, or what is broken shows in high and end; each turn is a law of it. Assumes nothing.
use Rattle.lists.proofs.RunLaws as Law
use Rattle.lists.proofs.run4.Given as goal

abbrev pub invariant-loop-last : goal.invariant-loop-last
invariant-loop-last l = Law.Running4 l.w l.n l.j l.end l.high l.last
