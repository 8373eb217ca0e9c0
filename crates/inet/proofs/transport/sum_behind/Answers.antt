-- Nothing, or the words of the tail, or 256 times as much: `CountsBehind` of each is a law. Assumes nothing.
use mathlib.Core.Path.{sym, ◌∙◌}
use native.Mathlib.Omega.{arith}
use borrow.Author.Tests.{eqb-true}
use Rattle.inet.proofs.TransportLaws.{counts_none, counts_even, counts_odd}
use Rattle.inet.proofs.transport.sum_behind.Goals as goal

pub returns-then-is_empty : goal.returns-then-is_empty
returns-then-is_empty c = (counts_none _ _ (eqb-true _ _ (sym c.is_empty.ensures ∙ c.if-is_empty.true)), omega arith)

pub returns-then-size-eq0 : goal.returns-then-size-eq0
returns-then-size-eq0 c = (counts_even _ _ c.if-size-eq0.true c.sum_words-sum.ensures.0, omega arith)

pub returns-else-size-eq0 : goal.returns-else-size-eq0
returns-else-size-eq0 c = (counts_odd _ _ c.if-size-eq0.false c.sum_words-sum.ensures.0, omega arith)
