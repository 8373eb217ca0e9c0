-- Each return is a case of `sound_range`; a protocol is a byte by its type.
use mathlib.Core.Path.{◌∙◌}
use native.Mathlib.Omega.{arith}
use Rattle.lists.proofs.RangeRule as Range
use Rattle.lists.proofs.Calls.{called_true, called_false}
use Rattle.lists.proofs.range_sound.Goals as goal

pub returns-else-at_most : goal.returns-else-at_most
returns-else-at_most c = c.if-at_most.false ∙ Range.reversed _ (called_false c.at_most.ensures c.if-at_most.false)

pub returns-then-r-eq4 : goal.returns-then-r-eq4
returns-then-r-eq4 c =
    c.below.ensures
    ∙ Range.ipv4_end_below _ (called_true c.at_most.ensures c.if-at_most.true) c.if-r-eq4.true (omega arith)

pub returns-else-r-eq4 : goal.returns-else-r-eq4
returns-else-r-eq4 c =
    Range.not_ipv4 _ (called_true c.at_most.ensures c.if-at_most.true) c.if-r-eq4.false (omega arith)
