-- The code is the definition, case by case. Assumes nothing.
use borrow.Author.Rules.{rules}
use Rattle.inet.specs.Sum.{fold}
use Rattle.inet.proofs.sum.folded.Goals as goal

pub returns-then-sum-eq0 : goal.returns-then-sum-eq0
unfolding fold
returns-then-sum-eq0 c = search rules

pub returns-else-sum-eq0 : goal.returns-else-sum-eq0
unfolding fold
returns-else-sum-eq0 c = search rules
