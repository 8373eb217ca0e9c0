-- The invariant: what is left to put completes the value (`Putting`).
use mathlib.Core.Bool.{false}
use Rattle.capsule_write.proofs.Values as Values
use Rattle.capsule_write.proofs.list.put.Given as goal

abbrev pub invariant-loop-i : goal.invariant-loop-i
invariant-loop-i g l = let m = g.T.Element in Values.Putting (m.format false) (m.at l.w) l.n m.most l.at l.initial.out l.next l.out l.i
