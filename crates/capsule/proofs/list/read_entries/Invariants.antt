-- The invariant: the words hold the entries read so far, and what is left to parse gives the answer for an assignment. A request's IDs are judged at the
-- first bad entry or at the end, which is what the definition says (`IdLaws`). A turn is `EntriesTurn`'s.
use Prim.Native.Nat.{◌-◌}
use lib.ListN.{length}
use Rattle.capsule.proofs.EntriesTurn as T
use Rattle.capsule.proofs.list.read_entries.Given as goal

abbrev pub invariant-loop-at : goal.invariant-loop-at
invariant-loop-at l = T.Reading l.request l.value l.words l.count l.at

abbrev pub decreases-loop-at : goal.decreases-loop-at
decreases-loop-at l = length l.value - l.at
