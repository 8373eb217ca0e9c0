-- The verdict of the list decides: a list that goes is handed back, and of a refused one nothing.
use Rattle.answer.proofs.Passing.{passed_on}
use Rattle.capsule.proofs.ListCases.{reads-says}
use Rattle.exchange.proofs.ReadCases as Read
use Rattle.exchange.proofs.reading.take_request.Goals as goal

pub returns : goal.returns
returns c =
    let t = c.entries_into.ensures in
    let g = c.in_ok-entries_into.was in
    Read.list-taken (reads-says t g) (t.list g)

pub returns-in_err-entries_into : goal.returns-in_err-entries_into
returns-in_err-entries_into c = rw (passed_on _ _ c.from_residual.ensures.1) (Read.list-refused (reads-says c.entries_into.ensures c.in_err-entries_into.was))
