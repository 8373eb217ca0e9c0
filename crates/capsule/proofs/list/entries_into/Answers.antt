-- A value over the limit is refused; of any other the elements are what `read_entries` ensures.
use native.Mathlib.Omega.{arith}
use Rattle.capsule.proofs.ListCases.{reads-fault, reads_as}
use Rattle.capsule.proofs.ValueCases as Value
use Rattle.capsule.proofs.list.entries_into.Goals as goal

pub returns-then-value-gt-MAX_VALUE : goal.returns-then-value-gt-MAX_VALUE
returns-then-value-gt-MAX_VALUE c = reads-fault (Value.entries-long _ _ c.if-value-gt-MAX_VALUE.true)

pub returns : goal.returns
returns c = reads_as (Value.entries-short _ _ (omega arith)) c.read_entries.ensures
