-- The test of the range, and then of its order.
use Rattle.lists.proofs.Calls.{called_true, called_false}
use Rattle.capsule_write.proofs.Judging as Judging
use Rattle.capsule_write.proofs.element.RouteRangeElement.fault.Goals as goal

pub returns-then-not-range_sound : goal.returns-then-not-range_sound
returns-then-not-range_sound c = rw (called_false c.range_sound.ensures c.if-not-range_sound.true)

pub returns-then-not-in_order : goal.returns-then-not-in_order
returns-then-not-in_order c =
    rw (called_true c.range_sound.ensures c.if-not-range_sound.false, Judging.order-refused _ c.range_before.ensures _ (called_false c.in_order.ensures c.if-not-in_order.true))

pub returns : goal.returns
returns c =
    rw (called_true c.range_sound.ensures c.if-not-range_sound.false, Judging.order-go _ c.range_before.ensures _ (called_true c.in_order.ensures c.if-not-in_order.false))
