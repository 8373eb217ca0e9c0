-- Where reading goes on the words are the list; a refusal is handed on.
use Rattle.capsule.proofs.ListCases.{ranges-all, ranges-fault}
use Rattle.answer.proofs.Passing.{passed_on}
use Rattle.capsule.proofs.list.ranges_in.Goals as goal

pub returns : goal.returns
returns c = ranges-all c.ranges_into.ensures c.in_ok-ranges_into.was

pub returns-in_err-ranges_into : goal.returns-in_err-ranges_into
returns-in_err-ranges_into c = rw (passed_on _ _ c.from_residual.ensures.1) (ranges-fault c.ranges_into.ensures c.in_err-ranges_into.was)
