-- A number of shortest form, one of a longer form, and one that is cut. Assumes nothing.
use Rattle.std.proofs.Common.{◌≡◌, ap, ◌∙◌, Some, arith}
use Rattle.std.specs.Result.{result_ok}
use Rattle.answer.proofs.Passing.{passed_on, lacking}
use Rattle.table.proofs.Calls.{called_true, called_false}
use Rattle.table.proofs.Steps.{number_cut, number-end, number-long, number-fine}
use Rattle.table.proofs.reading.number_at.Goals.{In_ok-number}
use Rattle.table.proofs.reading.number_at.Goals as goal

whole : (c : In_ok-number) → c.read.result ≡ Some c.in_ok-number.number
whole c = c.ok_or.ensures.ok_part ∙ ap result_ok c.in_ok-number.was

pub returns-in_err-number : goal.returns-in_err-number
returns-in_err-number c =
    let none = lacking _ _ _ c.in_err-number.ensures.value in
    rw (passed_on _ _ c.from_residual.ensures.1, none.1) (number_cut c.args.bytes.now c.args.at c.read.ensures.reading none.0)

pub returns-then-not-is_shortest : goal.returns-then-not-is_shortest
returns-then-not-is_shortest c =
    number-long c.args.bytes.now c.args.at c.read.ensures.reading (whole (goal.at.returns-then-not-is_shortest c).In_ok-number)
    (called_false c.is_shortest.ensures c.if-not-is_shortest.true)

pub overflow_add-result : goal.overflow_add-result
overflow_add-result c =
    omega (arith, number-end c.args.bytes.now c.args.at c.read.ensures.reading (whole (goal.at.overflow_add-result c).In_ok-number) c.requires)

pub returns : goal.returns
returns c =
    number-fine c.args.bytes.now c.args.at c.read.ensures.reading (whole (goal.at.returns c).In_ok-number) c.requires
    (called_true c.is_shortest.ensures c.if-not-is_shortest.false)
