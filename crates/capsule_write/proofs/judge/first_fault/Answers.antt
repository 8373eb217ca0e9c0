-- The invariant: what the elements from i on say after those before them is the verdict (`Judging`).
use Rattle.answer.proofs.Passing.{passed_on}
use Rattle.capsule_write.proofs.Judging as Judging
use Rattle.capsule_write.proofs.judge.first_fault.Goals as goal

pub loop-i-init : goal.loop-i-init
loop-i-init g c = Judging.judge-start _ _ _

pub returns-in_err-fault : goal.returns-in_err-fault
returns-in_err-fault g c =
    rw (passed_on _ _ c.from_residual.ensures.1)
    (Judging.judge-fault c.loop-i.invariant c.loop-i-test.true c.stored-e.ensures c.fault.ensures c.in_err-fault.was)

pub loop-i-preserved : goal.loop-i-preserved
loop-i-preserved g c =
    Judging.judge-passed c.loop-i.invariant c.loop-i-test.true c.stored-e.ensures c.fault.ensures c.in_ok-fault.was

pub returns : goal.returns
returns g c = Judging.judge-end c.loop-i.invariant c.loop-i-test.false
