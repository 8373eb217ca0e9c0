-- One number behind another. Assumes nothing.
use Rattle.answer.proofs.Passing.{passed_on}
use Rattle.table.proofs.Steps.{two-stop, two-second, two-fine}
use Rattle.table.proofs.reading.two_at.Goals as goal

pub returns-in_err-one : goal.returns-in_err-one
returns-in_err-one c =
    rw (passed_on _ _ c.from_residual.ensures.1) (two-stop c.args.bytes.now c.args.at c.in_err-one.ensures)

pub returns-in_err-two : goal.returns-in_err-two
returns-in_err-two c =
    rw (passed_on _ _ c.from_residual-in_err-two.ensures.1) (two-second c.args.bytes.now c.args.at c.in_ok-one.ensures c.in_err-two.ensures)

pub returns : goal.returns
returns c =
    two-fine c.args.bytes.now c.args.at c.in_ok-one.ensures c.in_ok-two.ensures
