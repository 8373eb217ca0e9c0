-- What is left is moved to the front, or stands there already.
use Rattle.van_box.proofs.Held.{moved, kept_here}
use Rattle.van_box.proofs.incoming.keep.Goals as goal

pub returns-then-at-eq0 : goal.returns-then-at-eq0
returns-then-at-eq0 c = kept_here c.args.end c.args.input.now c.if-at-eq0.true

pub returns : goal.returns
returns c = rw c.copy_within.ensures.after (moved c.args.input.now c.requires.at_le_end c.requires.end_in_bounds)
