-- The entries before i are looked at from the newest on; the invariant is that what is left of them gives the answer (`Looking`).
use Rattle.capsule_write.proofs.Judging as Judging
use Rattle.capsule_write.proofs.element.id_refused.Given as goal

abbrev pub invariant-loop-k : goal.invariant-loop-k
invariant-loop-k l = Judging.Looking l.w l.i l.request l.id l.k
