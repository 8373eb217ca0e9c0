-- Each return is a case of `in_order`: the first of version, protocol and address that differs decides.
use mathlib.Core.Path.{◌∙◌}
use Rattle.lists.proofs.RangeRule as Range
use Rattle.lists.proofs.in_order.Goals as goal

pub returns-then-a-b : goal.returns-then-a-b
returns-then-a-b c = Range.by-version _ _ c.if-a-b.true

pub returns-then-a-b-2 : goal.returns-then-a-b-2
returns-then-a-b-2 c = Range.by-protocol _ _ c.if-a-b.false c.if-a-b-2.true

pub returns : goal.returns
returns c = c.below.ensures ∙ Range.by_address _ _ c.if-a-b.false c.if-a-b-2.false
