-- What type and length say of the bytes given decides, one law a way out; a whole DATAGRAM leaves the words as they are. Assumes nothing.
use native.Mathlib.Omega.{arith}
use Rattle.stream.proofs.CodeLaws as Code
use Rattle.stream.proofs.FreshLaws as First
use Rattle.stream.proofs.feeding.feed_first.Goals as goal

pub overflow_add-start : goal.overflow_add-start
overflow_add-start c = let b = First.bounds c.requires.0 c.args.kept.now c.requires.2 c.args.bytes.now c.read_head.ensures c.in-Some.is in omega (arith, b.0, b.2)

pub returns-then-kind-gt3 : goal.returns-then-kind-gt3
returns-then-kind-gt3 c = First.first-other c.requires.0 c.args.kept.now c.requires.2 c.args.bytes.now c.read_head.ensures c.in-Some.is c.if-kind-gt3.true c.pass_over.ensures

pub returns-then-length : goal.returns-then-length
returns-then-length c = Code.goes-long (First.collecting c.requires.0 c.args.kept.now c.requires.2) c.args.bytes.now (First.front c.requires.0 c.args.kept.now c.requires.2 c.args.bytes.now c.read_head.ensures) c.in-Some.is c.if-kind-gt3.false c.if-length.true c.remember.ensures

pub overflow_add-end : goal.overflow_add-end
overflow_add-end c = let b = First.bounds c.requires.0 c.args.kept.now c.requires.2 c.args.bytes.now c.read_head.ensures c.in-Some.is in omega (arith, b.0, c.if-length.false)

pub keep-requires-then-bytes-end : goal.keep-requires-then-bytes-end
keep-requires-then-bytes-end c = (c.requires.0.live, First.lacks-fits c.requires.0 c.args.kept.now c.requires.2 c.args.bytes.now c.read_head.ensures c.in-Some.is c.if-length.false c.if-bytes-end.true)

pub returns-then-bytes-end : goal.returns-then-bytes-end
returns-then-bytes-end c = First.first-lacks c.requires.0 c.args.kept.now c.requires.2 c.args.bytes.now c.read_head.ensures c.in-Some.is c.if-kind-gt3.false c.if-length.false c.if-bytes-end.true c.keep-then-bytes-end.ensures

pub returns-then-kind-eq0 : goal.returns-then-kind-eq0
returns-then-kind-eq0 c = First.first-datagram c.requires.0 c.args.kept.now c.requires.2 c.args.bytes.now c.read_head.ensures c.in-Some.is c.if-bytes-end.false c.if-length.false c.if-kind-eq0.true c.put_bytes-n.ensures

pub feed_open-requires : goal.feed_open-requires
feed_open-requires c = (First.collecting c.requires.0 c.args.kept.now c.requires.2, c.requires.1, First.no-head c.requires.0 c.args.kept.now c.requires.2)

pub keep-requires : goal.keep-requires
keep-requires c = (c.requires.0.live, Code.cut_fits (First.collecting c.requires.0 c.args.kept.now c.requires.2) c.args.bytes.now (First.front c.requires.0 c.args.kept.now c.requires.2 c.args.bytes.now c.read_head.ensures) c.in_default.is)

pub returns : goal.returns
returns c = c.feed_open.ensures

pub returns-in_default : goal.returns-in_default
returns-in_default c = Code.cut_keeps (First.collecting c.requires.0 c.args.kept.now c.requires.2) c.args.bytes.now (First.front c.requires.0 c.args.kept.now c.requires.2 c.args.bytes.now c.read_head.ensures) c.in_default.is c.keep.ensures
