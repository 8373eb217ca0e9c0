-- The invariant: what the elements from i on say after those before them is the verdict (`Judging`).
use Rattle.capsule_write.proofs.Judging as Judging
use Rattle.capsule_write.proofs.judge.first_fault.Given as goal

abbrev pub invariant-loop-i : goal.invariant-loop-i
invariant-loop-i g l = let m = g.T.Element in Judging.Judging (m.format l.request) (m.at l.w) l.n l.i
