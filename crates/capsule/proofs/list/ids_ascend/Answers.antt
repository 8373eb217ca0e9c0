-- The invariant: the IDs read so far rise above zero, also with any behind them that rise above the last one (`Climbing`). So a good entry is in front as long
-- as there are fewer than there are in all, and in the end all of them rise: none is zero, and no two are equal. Assumes nothing.
use Prim.Native.Nat.{◌+◌, ◌<◌}
use mathlib.Core.Bool.{true≢false}
use mathlib.Core.Path.{sym}
use native.Mathlib.Omega.{arith}
use lib.ListN.{length}
use Rattle.octets.proofs.Parts as Parts
use Rattle.capsule.specs.RequestIds.{ids_in}
use Rattle.capsule.proofs.IdsTurn as T
use Rattle.capsule.proofs.list.ids_ascend.Goals as goal
use Rattle.capsule.proofs.list.ids_ascend.Goals.{After-struct_known-in-loop-n-1, In-loop-n}

-- there are more
more : (c : In-loop-n) → c.loop-n.n < length (ids_in c.args.value.now)
more c = omega (arith, c.requires.ids_counted)

-- the invariant after the turn
turned : (c : After-struct_known-in-loop-n-1) → (
    let id = c.read_id-r.result in
    T.Climbing c.args.value.now id.id (c.loop-n.n + 1) (c.loop-n.at + id.size)
    )
turned c =
    T.climb_read c.loop-n.invariant (omega (arith, c.requires.ids_counted)) _ (rw Parts.tail at c.read_id-r.ensures) (omega (arith, c.if-r-last.false))

pub loop-n-init : goal.loop-n-init
loop-n-init c = T.climb_start _

pub read_id-r-requires : goal.read_id-r-requires
read_id-r-requires c = rw Parts.tail (T.climb_ahead c.loop-n.invariant (more (goal.at.read_id-r-requires c).In-loop-n)).0

pub returns-then-r-last : goal.returns-then-r-last
returns-then-r-last c = λ e. absurd (true≢false (sym e))

pub overflow_add-at : goal.overflow_add-at
overflow_add-at c = omega (arith, (turned c).reading.within)

pub loop-n-preserved : goal.loop-n-preserved
loop-n-preserved c = turned c

pub returns : goal.returns
returns c = λ _. T.climb_end c.loop-n.invariant (omega (arith, c.requires.ids_counted))
