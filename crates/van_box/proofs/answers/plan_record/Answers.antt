-- The answer is a head alone, by the verdict.
use Rattle.van_box.proofs.Outcomes.{plan-good, plan-refused}
use Rattle.van_box.proofs.answers.plan_record.Goals as goal

pub returns-in-Ok : goal.returns-in-Ok
returns-in-Ok c =
    plan-good c.load_plan-verdict.ensures c.in-Ok.is c.put_answer.ensures

pub returns-in-Err : goal.returns-in-Err
returns-in-Err c =
    plan-refused c.load_plan-verdict.ensures c.in-Err.is c.put_answer-in-Err.ensures
