-- Each index is within the words of a list since i is below the limit, and the four words are those that `entry_at` reads.
use mathlib.Core.Path.{refl}
use Rattle.lists.specs.Words.{entry_at}
use Rattle.lists.proofs.entry_at.Goals as goal

pub returns : goal.returns
unfolding entry_at
returns c = refl
