-- Where reading goes on the words are the list; a refusal is handed on.
use Rattle.capsule.proofs.ListCases.{entries-all, entries-fault}
use Rattle.answer.proofs.Passing.{passed_on}
use Rattle.capsule.proofs.list.entries_in.Goals as goal

pub returns : goal.returns
returns c = entries-all c.entries_into.ensures c.in_ok-entries_into.was

pub returns-in_err-entries_into : goal.returns-in_err-entries_into
returns-in_err-entries_into c = rw (passed_on _ _ c.from_residual.ensures.1) (entries-fault c.entries_into.ensures c.in_err-entries_into.was)
