-- Fewer bytes are given than are to come, or the capsule ends. Assumes nothing.
use Rattle.stream.proofs.CodeLaws.{skips-on, skips-done}
use Rattle.stream.proofs.feeding.pass_over.Goals as goal

pub returns-then-given-left : goal.returns-then-given-left
returns-then-given-left c = skips-on c.requires.0 c.requires.1 c.if-given-left.true

pub returns : goal.returns
returns c = skips-done c.requires.0 c.requires.1 c.if-given-left.false c.hand_out.ensures
