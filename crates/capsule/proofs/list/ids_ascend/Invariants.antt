-- The invariant: the IDs read so far rise above zero, also with any behind them that rise above the last one (`Climbing`). So a good entry is in front as long
-- as there are fewer than there are in all, and in the end all of them rise: none is zero, and no two are equal. Assumes nothing.
use Rattle.capsule.proofs.IdsTurn as T
use Rattle.capsule.proofs.list.ids_ascend.Given as goal

abbrev pub invariant-loop-n : goal.invariant-loop-n
invariant-loop-n l = T.Climbing l.value l.last l.n l.at
