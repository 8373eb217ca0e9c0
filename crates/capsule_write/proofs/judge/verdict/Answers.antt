-- The fault of the stored elements, or else the verdict of the count.
use Rattle.answer.proofs.Passing.{passed_on}
use Rattle.lists.specs.Words.{count_of}
use Rattle.capsule_write.proofs.Judging as Judging
use Rattle.capsule_write.proofs.judge.verdict.Goals as goal

pub returns : goal.returns
returns g c =
    let m = g.T.Element in
    let a = c.args in
    let limit = c.LIMIT-limit.ensures in
    Judging.counted (m.format a.request) a.request m.LIMIT (m.at a.w.now) (count_of a.w.now) (rw limit at c.at_most-n.ensures) c.elements_fault.ensures c.in_ok-elements_fault.was
    (rw limit at c.count_verdict.ensures)

pub returns-in_err-elements_fault : goal.returns-in_err-elements_fault
returns-in_err-elements_fault g c =
    let m = g.T.Element in
    let a = c.args in
    rw (passed_on _ _ c.from_residual.ensures.1)
    (Judging.faulty (m.format a.request) a.request m.LIMIT (m.at a.w.now) (count_of a.w.now) (rw c.LIMIT-limit.ensures at c.at_most-n.ensures) c.elements_fault.ensures c.in_err-elements_fault.was)
