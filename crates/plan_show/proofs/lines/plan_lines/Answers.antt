-- By the verdict: what was read is sound and means its file (`read-go`).
use mathlib.Core.Path.{ap, ◌∙◌}
use native.Mathlib.Omega.{arith}
use Rattle.octets.specs.Big.{Bytes}
use Rattle.output.proofs.Placing.{put_as}
use Rattle.plan_show.specs.Text.{ascii}
use Rattle.plan_show.specs.Lines.{last_labelled}
use Rattle.plan_show.proofs.Sizes.{refused-most}
use Rattle.plan_show.proofs.Answers.{read-go, read-stop}
use Rattle.plan_show.proofs.lines.plan_lines.Goals as goal

pub put_table-requires : goal.put_table-requires
put_table-requires c =
    let b : Bytes c.args.file.now = λ i. omega (arith, c.type_inv.file i) in
    (read-go c.args.file.now c.read_plan.ensures b c.in-Ok.is).sound

pub put_last-requires : goal.put_last-requires
put_last-requires c = omega (arith, refused-most c.number.result (omega arith))

pub returns-in-Ok : goal.returns-in-Ok
returns-in-Ok c =
    let b : Bytes c.args.file.now = λ i. omega (arith, c.type_inv.file i) in
    put_as (read-go c.args.file.now c.read_plan.ensures b c.in-Ok.is).lines c.put_table.ensures

pub returns-in-Err : goal.returns-in-Err
returns-in-Err c = put_as (ap (last_labelled (ascii "refused ")) c.number.ensures ∙ read-stop c.args.file.now c.read_plan.ensures c.in-Err.is) c.put_last.ensures
