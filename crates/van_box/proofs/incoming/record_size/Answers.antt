-- The tests are those of `record_size` at the bytes from the place on.
use Rattle.van_box.proofs.Held.{no-head, not_whole, whole}
use Rattle.van_box.proofs.incoming.record_size.Goals as goal

pub returns-then-left-lt-RECORD_HEAD : goal.returns-then-left-lt-RECORD_HEAD
returns-then-left-lt-RECORD_HEAD c = no-head c.args.bytes.now c.args.at c.requires c.if-left-lt-RECORD_HEAD.true

pub returns-then-left-size : goal.returns-then-left-size
returns-then-left-size c =
    not_whole c.args.bytes.now c.args.at c.requires c.if-left-lt-RECORD_HEAD.false c.wide-high.ensures.value c.wide-low.ensures.value c.if-left-size.true

pub returns : goal.returns
returns c =
    let a = c.wide-high.ensures in
    let b = c.wide-low.ensures in
    whole c.args.bytes.now c.args.at c.requires c.if-left-lt-RECORD_HEAD.false a.value b.value c.if-left-size.false a.upper_bound b.upper_bound
