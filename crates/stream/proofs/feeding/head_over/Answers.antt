-- No bytes are kept, or type and length are among them, or they are cut. Assumes nothing.
use Rattle.stream.proofs.CodeLaws.{head-none, head-kept, head_few}
use Rattle.stream.proofs.feeding.head_over.Goals as goal

pub returns-then-kept-eq0 : goal.returns-then-kept-eq0
returns-then-kept-eq0 c = head-none c.args.kept.now c.args.bytes.now c.if-kept-eq0.true c.read_head.ensures

pub head_across-requires : goal.head_across-requires
head_across-requires c = head_few c.args.kept.now c.in-None.is c.requires

pub returns-in-Some : goal.returns-in-Some
returns-in-Some c = head-kept c.args.kept.now c.args.bytes.now c.in-Some.is c.requires
