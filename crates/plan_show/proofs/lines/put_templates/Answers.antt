-- The invariant: what is left to put completes the lines (`Putting`).
use mathlib.Core.Path.{ap, sym}
use native.Mathlib.Omega.{arith}
use Rattle.output.proofs.Placing.{putting_none, putting_more, putting_done}
use Rattle.table.proofs.InTurn.{templates-all, templates-done}
use Rattle.plan_show.specs.Lines.{template_lines}
use Rattle.plan_show.proofs.Parts.{templates-more, template-room}
use Rattle.plan_show.proofs.lines.put_templates.Goals as goal

pub loop-i-init : goal.loop-i-init
loop-i-init c = (omega arith, putting_none (ap template_lines (sym (templates-all c.args.w.now))))

pub put_template-next-requires : goal.put_template-next-requires
put_template-next-requires c =
    let l = c.loop-i in
    let h = c.loop-i-test.true in
    let e = c.template_at.ensures in
    template-room c.args.w.now l.i _ h e l.invariant.1 c.requires.w_in_bounds

pub loop-i-preserved : goal.loop-i-preserved
loop-i-preserved c =
    let w = c.args.w.now in
    let l = c.loop-i in
    (omega arith, putting_more l.invariant.1 (templates-more w l.i _ c.loop-i-test.true c.template_at.ensures) c.put_template-next.ensures)

pub returns : goal.returns
returns c = putting_done c.loop-i.invariant.1 (ap template_lines (templates-done c.args.w.now c.loop-i.i _ c.loop-i-test.false))
