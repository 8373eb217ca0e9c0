-- The invariant: the words hold the ranges read so far, the last of which is kept, and what is left to parse gives the whole answer. A turn is
-- `RangesTurn`'s.
use Rattle.std.proofs.Common.{Some}
use Prim.Native.Nat.{◌+◌}
use Rattle.std.specs.Result.{result_ok}
use mathlib.Core.Path.{◌≡◌, sym, ap, ◌∙◌}
use Rattle.answer.proofs.Passing.{passed_on, lacking}
use native.Mathlib.Omega.{arith}
use lib.ListN.{drop}
use Rattle.octets.proofs.Parts as Parts
use Rattle.capsule.specs.Entries.{range_read, read_range}
use Rattle.capsule.proofs.RangeCases as Range
use Rattle.capsule.proofs.ListCases.{reads-fault}
use Rattle.capsule.proofs.RangesTurn as T
use Rattle.capsule.proofs.list.read_ranges.Goals as goal
use Rattle.capsule.proofs.list.read_ranges.Goals.{then-count-lt-MAX_RANGES, else-count-lt-MAX_RANGES, After-range_size-at, Joined-count-lt-MAX_RANGES}

-- what was read in the turn
got : (c : Joined-count-lt-MAX_RANGES) → read_range (drop c.loop-at.at c.args.value.now) ≡ Some (range_read c.in_ok-read.read.range c.in_ok-read.read.size)
got c =
    let q = sym c.read_range.ensures ∙ (c.ok_or.ensures.ok_part ∙ ap result_ok c.in_ok-read.was) in
    rw Parts.tail at q

-- the invariant after the turn, where the branch's arms have met
turned : (c : Joined-count-lt-MAX_RANGES) → T.Reading c.args.value.now c.if-count-lt-MAX_RANGES.words c.in_ok-read.read.range (c.loop-at.count + 1) (c.loop-at.at + c.in_ok-read.read.size)
turned c =
    let i = c.loop-at.invariant in
    let o = sym c.in_order.ensures ∙ c.if-not-in_order.false in
    elim c.if-count-lt-MAX_RANGES.branch [
      | then-count-lt-MAX_RANGES w ↦ rw (w.words-is ∙ w.put_range.ensures) (T.next i (omega arith) _ _ (got c) (omega arith) o)
      | else-count-lt-MAX_RANGES w ↦ rw w.words-is (T.next-full i (omega arith) _ _ (got c) (omega arith) o)
    ]

-- the size that the version tells is the one that was read
sized : (c : After-range_size-at) → c.in_ok-read.read.size ≡ c.range_size-at.result
sized c =
    let q = sym c.read_range.ensures ∙ (c.ok_or.ensures.ok_part ∙ ap result_ok c.in_ok-read.was) in Range.size-version _ _ _ (rw Parts.tail at q) ∙ sym c.range_size-at.ensures

pub loop-at-init : goal.loop-at-init
loop-at-init c = T.start _ _ c.requires.words_blank c.before_all-last.ensures

pub slice_bounds-read_range-count : goal.slice_bounds-read_range-count
slice_bounds-read_range-count c = omega (arith, c.loop-at.invariant.reading.within)

pub slice_bounds-read_range-start : goal.slice_bounds-read_range-start
slice_bounds-read_range-start c = omega (arith, c.loop-at.invariant.reading.within)

pub returns-then-not-in_order : goal.returns-then-not-in_order
returns-then-not-in_order c = reads-fault (T.fault-order c.loop-at.invariant (omega arith) _ _ (rw Parts.tail at (sym c.read_range.ensures ∙ (c.ok_or.ensures.ok_part ∙ ap result_ok c.in_ok-read.was))) (sym c.in_order.ensures ∙ c.if-not-in_order.true))

pub overflow_add-count : goal.overflow_add-count
overflow_add-count c = omega (arith, (turned c).reading.behind, (turned c).reading.within, (turned c).counted)

pub overflow_add-at : goal.overflow_add-at
overflow_add-at c = omega (arith, (turned (goal.at.overflow_add-at c).Joined-count-lt-MAX_RANGES).reading.within, sized c)

pub loop-at-smaller : goal.loop-at-smaller
loop-at-smaller c = omega (arith, (Range.size _ _ _ (got (goal.at.loop-at-smaller c).Joined-count-lt-MAX_RANGES)).0, (turned (goal.at.loop-at-smaller c).Joined-count-lt-MAX_RANGES).reading.within, sized c)

pub loop-at-preserved : goal.loop-at-preserved
loop-at-preserved c = rw (← sized c) (turned (goal.at.loop-at-preserved c).Joined-count-lt-MAX_RANGES)

pub returns-in_err-read : goal.returns-in_err-read
returns-in_err-read c =
    let l = lacking _ _ _ c.in_err-read.ensures.value in
    rw (passed_on _ _ c.from_residual.ensures.1, l.1) (reads-fault (T.fault_range c.loop-at.invariant (omega arith) (rw Parts.tail at (sym c.read_range.ensures ∙ l.0))))

pub returns-then-count-gt-MAX_RANGES : goal.returns-then-count-gt-MAX_RANGES
returns-then-count-gt-MAX_RANGES c = reads-fault (T.many c.loop-at.invariant (omega arith) (omega arith))

pub returns : goal.returns
returns c = T.fine c.loop-at.invariant (omega arith) (omega arith)
