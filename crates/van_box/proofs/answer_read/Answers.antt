-- The records that were answered lie in what the input holds, and what is left of it is kept (`turned`).
use mathlib.Core.Path.{sym}
use native.Mathlib.Omega.{arith}
use lib.Seq.{length-take-le}
use Rattle.van_box.specs.Records.{memory}
use Rattle.van_box.proofs.Passing.{turn-ended, turned}
use Rattle.van_box.proofs.answer_read.Goals as goal

pub returns-then-end-held : goal.returns-then-end-held
returns-then-end-held g c =
    turn-ended _ _ _ c.requires.sound _

pub slice_bounds-answer_records-end-2 : goal.slice_bounds-answer_records-end-2
slice_bounds-answer_records-end-2 g c = sym (length-take-le _ _ c.fill-end.ensures.within)

pub keep-left-requires : goal.keep-left-requires
keep-left-requires g c =
    let f = c.fill-end in
    record { at_le_end = omega (arith, length-take-le f.result f.new.input f.ensures.within, c.answer_records-after.ensures.records.within); end_in_bounds = f.ensures.within }

pub returns : goal.returns
returns g c =
    let k = c.keep-left in
    turned (memory c.args.state.now c.args.kept.now) c.args.before c.args.input.now c.fill-end.ensures c.answer_records-after.ensures c.flush-output.ensures k.ensures
    k.auto.input
