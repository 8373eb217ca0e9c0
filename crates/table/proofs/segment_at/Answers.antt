-- Each index is below the words of a template. Assumes nothing.
use mathlib.Core.Path.{refl}
use Rattle.table.specs.Words.{segment_at}
use Rattle.table.proofs.segment_at.Goals as goal

pub returns : goal.returns
unfolding segment_at
returns c = refl
