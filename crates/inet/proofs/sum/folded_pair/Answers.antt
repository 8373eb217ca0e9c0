-- The code is `carry`, which folds the sum of two words (`fold_one_carry`). Assumes nothing.
use native.Mathlib.Omega.{arith}
use Rattle.inet.specs.Sum.{carry}
use Rattle.inet.specs.SumLaws.{fold_one_carry}
use Rattle.inet.proofs.sum.folded_pair.Goals as goal

pub returns : goal.returns
unfolding carry
returns c = (fold_one_carry c.args.sum c.requires, omega arith)
