-- Too small an output, a value that is refused, and a list that is written as it was read.
use Rattle.answer.proofs.Passing.{passed_on}
use Rattle.capsule.proofs.ListCases.{reads-says}
use Rattle.exchange.proofs.WriteCases as Write
use Rattle.exchange.proofs.writing.request.Goals as goal

pub returns-then-out-lt-CAPSULE_ROOM : goal.returns-then-out-lt-CAPSULE_ROOM
returns-then-out-lt-CAPSULE_ROOM c = Write.request_no_room _ _ c.if-out-lt-CAPSULE_ROOM.true

pub returns : goal.returns
returns c =
    let a = c.args in
    let t = c.entries_into.ensures in
    let g = c.in_ok-entries_into.was in
    Write.request-written a.value.now a.out.now c.if-out-lt-CAPSULE_ROOM.false (reads-says t g) (t.list g) c.write_request.ensures

pub returns-in_err-entries_into : goal.returns-in_err-entries_into
returns-in_err-entries_into c =
    rw (passed_on _ _ c.from_residual.ensures.1)
    (Write.request-refused _ _ c.if-out-lt-CAPSULE_ROOM.false (reads-says c.entries_into.ensures c.in_err-entries_into.was))
