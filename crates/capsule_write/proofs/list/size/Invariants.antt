-- The invariant: what is left to count completes the size (`Sizing`).
use mathlib.Core.Bool.{false}
use Rattle.capsule_write.proofs.Values as Values
use Rattle.capsule_write.proofs.list.size.Given as goal

abbrev pub invariant-loop-i : goal.invariant-loop-i
invariant-loop-i g l = let m = g.T.Element in Values.Sizing (m.format false) (m.at l.w) l.n m.most l.size l.i
