-- What is loaded, and what a refusal leaves, by the verdict on reading the file. Assumes nothing.
use Rattle.answer.proofs.Passing.{passed_on}
use Rattle.state.proofs.LoadCases.{loads_go, loads_stop}
use Rattle.state.proofs.load_plan.Goals as goal

pub returns-in_err-read_plan : goal.returns-in_err-read_plan
returns-in_err-read_plan c =
    rw (passed_on _ _ c.from_residual.ensures.1) (loads_stop _ c.args.state.now c.read_plan.ensures c.in_err-read_plan.was)

pub returns : goal.returns
returns c = loads_go _ c.args.state.now c.read_plan.ensures c.in_ok-read_plan.was c.put_table.ensures
