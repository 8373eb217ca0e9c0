-- The invariant is `Filling`: the static bytes before k are put. Assumes nothing.
use native.Mathlib.Omega.{arith}
use Rattle.template.proofs.StaticBytes.{filling_none, filling_same, filling_more, filling_done}
use Rattle.template.proofs.body.put_static.Goals as goal

pub loop-k-init : goal.loop-k-init
loop-k-init c = filling_none _ _ _ _ c.requires.0

pub bounds-image-k : goal.bounds-image-k
bounds-image-k c = omega (arith, filling_same _ _ _ _ c.loop-k.invariant)

pub loop-k-preserved : goal.loop-k-preserved
loop-k-preserved c = filling_more _ _ _ _ c.loop-k.invariant c.loop-k-test.true c.requires.2 c.byte.ensures

pub returns : goal.returns
returns c = filling_done _ _ _ _ c.loop-k.invariant c.loop-k-test.false
