-- Each return is one step of `plan_in`. Assumes nothing.
use Rattle.std.proofs.Common.{take, ◌∙◌}
use Rattle.table.specs.File.{mark}
use Rattle.table.proofs.Calls.{called_true, called_false}
use Rattle.table.proofs.Steps.{marked, head-stop, mark-cut, mark-wrong, version-cut, version-high, version_low, count_cut, count-over, head-fine}
use Rattle.table.proofs.reading.head_fault.Goals as goal

pub returns-then-bytes-lt3 : goal.returns-then-bytes-lt3
returns-then-bytes-lt3 c =
    let s = c.args.bytes.now in
    head-stop s (mark-cut s c.if-bytes-lt3.true)

pub returns-then-not-starts_with : goal.returns-then-not-starts_with
returns-then-not-starts_with c =
    let s = c.args.bytes.now in
    head-stop s (mark-wrong s c.if-bytes-lt3.false (called_false (c.starts_with.ensures.value ∙ marked (take 3 c.args.bytes.now) mark) c.if-not-starts_with.true))

pub returns-then-bytes-lt5 : goal.returns-then-bytes-lt5
returns-then-bytes-lt5 c =
    let s = c.args.bytes.now in
    head-stop s (version-cut s c.if-bytes-lt3.false (called_true (c.starts_with.ensures.value ∙ marked (take 3 c.args.bytes.now) mark) c.if-not-starts_with.false) c.if-bytes-lt5.true)

pub returns-then-bytes-ne0 : goal.returns-then-bytes-ne0
returns-then-bytes-ne0 c =
    let s = c.args.bytes.now in
    head-stop s (version-high s c.if-bytes-lt3.false (called_true (c.starts_with.ensures.value ∙ marked (take 3 c.args.bytes.now) mark) c.if-not-starts_with.false) c.if-bytes-lt5.false c.if-bytes-ne0.true)

pub returns-then-bytes-ne1 : goal.returns-then-bytes-ne1
returns-then-bytes-ne1 c =
    let s = c.args.bytes.now in
    head-stop s (version_low s c.if-bytes-lt3.false (called_true (c.starts_with.ensures.value ∙ marked (take 3 c.args.bytes.now) mark) c.if-not-starts_with.false) c.if-bytes-lt5.false c.if-bytes-ne0.false c.if-bytes-ne1.true)

pub returns-then-bytes-lt6 : goal.returns-then-bytes-lt6
returns-then-bytes-lt6 c =
    let s = c.args.bytes.now in
    head-stop s (count_cut s c.if-bytes-lt3.false (called_true (c.starts_with.ensures.value ∙ marked (take 3 c.args.bytes.now) mark) c.if-not-starts_with.false) c.if-bytes-lt5.false c.if-bytes-ne0.false c.if-bytes-ne1.false c.if-bytes-lt6.true)

pub returns-then-bytes-gt-MAX_TEMPLATES : goal.returns-then-bytes-gt-MAX_TEMPLATES
returns-then-bytes-gt-MAX_TEMPLATES c =
    let s = c.args.bytes.now in
    head-stop s (count-over s c.if-bytes-lt3.false (called_true (c.starts_with.ensures.value ∙ marked (take 3 c.args.bytes.now) mark) c.if-not-starts_with.false) c.if-bytes-lt5.false c.if-bytes-ne0.false c.if-bytes-ne1.false c.if-bytes-lt6.false c.if-bytes-gt-MAX_TEMPLATES.true)

pub returns : goal.returns
returns c =
    head-fine c.args.bytes.now c.if-bytes-lt3.false (called_true (c.starts_with.ensures.value ∙ marked (take 3 c.args.bytes.now) mark) c.if-not-starts_with.false) c.if-bytes-lt5.false c.if-bytes-ne0.false c.if-bytes-ne1.false c.if-bytes-lt6.false c.if-bytes-gt-MAX_TEMPLATES.false
