-- By the version, `length_range4` or `length_range6`.
use native.Mathlib.Omega.{arith}
use Rattle.capsule_write.proofs.Lengths.{length_range4, length_range6}
use Rattle.capsule_write.proofs.element.RouteRangeElement.size.Goals as goal

pub returns-then-self-eq4 : goal.returns-then-self-eq4
returns-then-self-eq4 c = (length_range4 _ c.if-self-eq4.true, omega arith)

pub returns : goal.returns
returns c = (length_range6 _ c.if-self-eq4.false, omega arith)
