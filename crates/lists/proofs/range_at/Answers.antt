-- Each index is within the words of a list since i is below the limit, and the five words are those that `range_at` reads.
use mathlib.Core.Path.{refl}
use Rattle.lists.specs.Words.{range_at}
use Rattle.lists.proofs.range_at.Goals as goal

pub returns : goal.returns
unfolding range_at
returns c = refl
