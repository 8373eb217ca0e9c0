-- What is held fits the input, and the memory keeps its rules.
use Rattle.van_box.proofs.SoundStates.{fresh}
use borrow.Author.Rules.{rules}
use Rattle.van_box.proofs.run.Goals as goal

pub loop-init : goal.loop-init
loop-init g c = (search rules, fresh)
