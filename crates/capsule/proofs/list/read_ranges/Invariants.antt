-- The invariant: the words hold the ranges read so far, the last of which is kept, and what is left to parse gives the whole answer. A turn is
-- `RangesTurn`'s.
use Prim.Native.Nat.{◌-◌}
use lib.ListN.{length}
use Rattle.capsule.proofs.RangesTurn as T
use Rattle.capsule.proofs.list.read_ranges.Given as goal

abbrev pub invariant-loop-at : goal.invariant-loop-at
invariant-loop-at l = T.Reading l.value l.words l.last l.count l.at

abbrev pub decreases-loop-at : goal.decreases-loop-at
decreases-loop-at l = length l.value - l.at
