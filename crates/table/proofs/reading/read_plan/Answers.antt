-- By the verdict on the first six bytes, and then by that on the templates.
use Rattle.std.proofs.Common.{refl}
use Rattle.answer.proofs.Passing.{passed_on}
use Rattle.table.proofs.Bodies.{load_stop, load_refused, load_fine}
use Rattle.table.proofs.reading.read_plan.Goals as goal

pub returns-in_err-head_fault : goal.returns-in_err-head_fault
returns-in_err-head_fault c =
    rw (passed_on _ _ c.from_residual.ensures.1) (load_stop _ _ c.in_err-head_fault.ensures refl)

pub returns-in_err-read_templates : goal.returns-in_err-read_templates
returns-in_err-read_templates c =
    rw (passed_on _ _ c.from_residual-in_err-read_templates.ensures.1)
    (load_refused _ _ c.in_ok-head_fault.ensures refl c.in_err-read_templates.ensures refl)

pub returns : goal.returns
returns c =
    load_fine _ _ c.in_ok-head_fault.ensures refl c.in_ok-read_templates.ensures refl
