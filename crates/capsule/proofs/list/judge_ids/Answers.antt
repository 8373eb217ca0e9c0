-- The invariant: the first n words are the IDs read so far, none of them zero, and with those that are left they are all of the value's. So a good entry
-- is in front as long as there are fewer than there are in all, and what is left after the loop is to compare them.
use Prim.Native.Nat.{◌+◌, ◌<◌}
use mathlib.Core.Path.{◌≡◌, ◌∙◌}
use native.Mathlib.Omega.{arith}
use lib.ListN.{length, set, length-take}
use Rattle.octets.proofs.Parts as Parts
use Rattle.capsule.specs.RequestIds.{ids_in}
use Rattle.capsule.proofs.IdsTurn as T
use Rattle.capsule.proofs.list.judge_ids.Goals as goal
use Rattle.capsule.proofs.list.judge_ids.Goals.{Else-r-eq0, In-loop-n}

-- there are more
more : (c : In-loop-n) → c.loop-n.n < length (ids_in c.args.value.now)
more c = omega (arith, c.requires.ids_counted)

-- the invariant after the turn
turned : (c : Else-r-eq0) → T.Collecting c.args.value.now (set c.loop-n.ids c.loop-n.n c.read_id-r.result.id) (length c.args.ids.now) (c.loop-n.n + 1) (c.loop-n.at + c.read_id-r.result.size)
turned c = T.collect-read c.loop-n.invariant (omega (arith, c.requires.ids_counted)) _ (rw Parts.tail at c.read_id-r.ensures) (omega (arith, c.requires.ids_counted, c.requires.count_in_bounds)) c.if-r-eq0.false

pub loop-n-init : goal.loop-n-init
loop-n-init c = T.collect-start _ _

pub slice_bounds-read_id-count : goal.slice_bounds-read_id-count
slice_bounds-read_id-count c = omega (arith, c.loop-n.invariant.reading.within)

pub slice_bounds-read_id-start : goal.slice_bounds-read_id-start
slice_bounds-read_id-start c = omega (arith, c.loop-n.invariant.reading.within)

pub read_id-r-requires : goal.read_id-r-requires
read_id-r-requires c = rw Parts.tail (T.ahead c.loop-n.invariant (more (goal.at.read_id-r-requires c).In-loop-n)).0

pub returns-then-r-eq0 : goal.returns-then-r-eq0
returns-then-r-eq0 c = T.zero_read c.loop-n.invariant (more (goal.at.returns-then-r-eq0 c).In-loop-n) _ (rw Parts.tail at c.read_id-r.ensures) c.if-r-eq0.true

pub bounds-ids-n : goal.bounds-ids-n
bounds-ids-n c = omega (arith, c.loop-n.invariant.sized, (turned c).number)

pub overflow_add-at : goal.overflow_add-at
overflow_add-at c = omega (arith, (turned (goal.at.overflow_add-at c).Else-r-eq0).reading.within)

pub loop-n-preserved : goal.loop-n-preserved
loop-n-preserved c = turned (goal.at.loop-n-preserved c).Else-r-eq0

pub slice_bounds-repeats-end : goal.slice_bounds-repeats-end
slice_bounds-repeats-end c = omega (arith, c.loop-n.invariant.sized, c.loop-n.invariant.number)

pub slice_bounds-repeats-end-2 : goal.slice_bounds-repeats-end-2
slice_bounds-repeats-end-2 c = simp length-take (omega (arith, c.loop-n.invariant.sized, c.loop-n.invariant.number))

pub slice_bounds-repeats-end-3 : goal.slice_bounds-repeats-end-3
slice_bounds-repeats-end-3 c = omega (arith, c.loop-n.invariant.number, c.requires.spare_len)

pub slice_bounds-repeats-end-4 : goal.slice_bounds-repeats-end-4
slice_bounds-repeats-end-4 c = simp length-take (omega (arith, c.loop-n.invariant.number, c.requires.spare_len))

pub repeats-requires : goal.repeats-requires
repeats-requires c =
    let e : c.loop-n.n ≡ c.args.count = omega arith in
    let f = T.fitting (rw e at c.loop-n.invariant) _ c.requires.spare_len c.requires.value_len_bound in
    record { spare_len = f.0; numbers_len_bound = f.1 }

pub returns : goal.returns
returns c =
    let e : c.loop-n.n ≡ c.args.count = omega arith in
    c.repeats.ensures ∙ T.compare (rw e at c.loop-n.invariant) (omega (arith, c.requires.ids_counted))
