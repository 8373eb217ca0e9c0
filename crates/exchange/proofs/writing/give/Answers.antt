-- The two answers of the capsule; the list is stored where it was written.
use Rattle.answer.proofs.Passing.{passed_on}
use Rattle.exchange.proofs.WriteCases as Write
use Rattle.exchange.proofs.writing.give.Goals as goal

pub returns : goal.returns
returns g c = Write.gives_done (Write.with_room_lem c.requires c.write.ensures) c.in_ok-size.was c.store.ensures

pub returns-in_err-size : goal.returns-in_err-size
returns-in_err-size g c = rw (passed_on _ _ c.from_residual.ensures.1) (Write.gives_refused (Write.with_room_lem c.requires c.write.ensures) c.in_err-size.was)
