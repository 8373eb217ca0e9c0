-- The index is below the words of a template. Assumes nothing.
use mathlib.Core.Path.{refl}
use Rattle.table.specs.Words.{byte_at}
use Rattle.table.proofs.byte_at.Goals as goal

pub returns : goal.returns
unfolding byte_at
returns c = refl
