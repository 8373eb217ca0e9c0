-- The head is known and within the limit, so the bytes given hold the end, and the value is all there; a head that is cut is no DATAGRAM's. Assumes
-- nothing.
use native.Mathlib.Omega.{arith}
use mathlib.Core.Path.{refl}
use Rattle.stream.proofs.DatagramLaws.{there, ends-bounds, ends-fits, ends-datagram}
use Rattle.stream.proofs.feeding.end_datagram.Goals as goal

pub overflow_add-need : goal.overflow_add-need
overflow_add-need c = let b = ends-bounds c.requires.0 c.unwrap-head.ensures in omega (arith, b.1)

pub overflow_sub-need : goal.overflow_sub-need
overflow_sub-need c = let b = ends-bounds c.requires.0 c.unwrap-head.ensures in omega (arith, b.0)

pub hand_value-size-requires : goal.hand_value-size-requires
hand_value-size-requires c = ends-fits c.requires.0 c.unwrap-head.ensures _ refl c.args.out.now c.requires.1

pub returns : goal.returns
returns c = ends-datagram c.requires.0 c.unwrap-head.ensures _ refl c.hand_value-size.ensures c.hand_out.ensures

pub unwrap-head-requires : goal.unwrap-head-requires
unwrap-head-requires c = there c.requires.0
