-- The invariant: what the ranges from i on say after the last one is the answer (`Judging`); each turn, over one run, is a law of it. Assumes nothing.
use Prim.Native.Nat.{◌-◌}
use Rattle.lists.proofs.ListScans as List
use Rattle.lists.proofs.routes_sound.Given as goal

abbrev pub invariant-loop-i : goal.invariant-loop-i
invariant-loop-i l = List.Judging l.w l.n l.last l.i

abbrev pub decreases-loop-i : goal.decreases-loop-i
decreases-loop-i l = l.n - l.i
