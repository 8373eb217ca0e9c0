-- `walk` ends: it goes on only behind its place.
use Rattle.std.proofs.Common.{length, ◌-◌}
use Rattle.vectors.proofs.walk.Given as goal

abbrev pub decreases-loop-at : goal.decreases-loop-at
decreases-loop-at g l = length l.bytes - l.at
