-- The invariant: the first n words are the IDs read so far, none of them zero, and with those that are left they are all of the value's. So a good entry
-- is in front as long as there are fewer than there are in all, and what is left after the loop is to compare them.
use lib.ListN.{length}
use Rattle.capsule.proofs.IdsTurn as T
use Rattle.capsule.proofs.list.judge_ids.Given as goal

abbrev pub invariant-loop-n : goal.invariant-loop-n
invariant-loop-n l = T.Collecting l.value l.ids (length l.initial.ids) l.n l.at
