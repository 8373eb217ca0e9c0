-- A value over the limit is refused; of any other the elements are what `read_ranges` ensures.
use native.Mathlib.Omega.{arith}
use Rattle.capsule.proofs.ListCases.{reads-fault, reads_as}
use Rattle.capsule.proofs.ValueCases as Value
use Rattle.capsule.proofs.list.ranges_into.Goals as goal

pub returns-then-value-gt-MAX_VALUE : goal.returns-then-value-gt-MAX_VALUE
returns-then-value-gt-MAX_VALUE c = reads-fault (Value.ranges-long _ c.if-value-gt-MAX_VALUE.true)

pub returns : goal.returns
returns c = reads_as (Value.ranges-short _ (omega arith)) c.read_ranges.ensures
