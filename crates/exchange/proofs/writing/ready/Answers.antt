-- The two refusals before the list is looked at.
use Rattle.lists.proofs.Calls.{called_true, called_false}
use Rattle.exchange.proofs.WriteCases as Write
use Rattle.exchange.proofs.writing.ready.Goals as goal

pub returns-then-room-lt-CAPSULE_ROOM : goal.returns-then-room-lt-CAPSULE_ROOM
returns-then-room-lt-CAPSULE_ROOM c = Write.ready_no_room _ _ c.if-room-lt-CAPSULE_ROOM.true

pub returns-then-not-state_sound : goal.returns-then-not-state_sound
returns-then-not-state_sound c = Write.ready-broken _ _ c.if-room-lt-CAPSULE_ROOM.false (called_false c.state_sound.ensures c.if-not-state_sound.true)

pub returns : goal.returns
returns c = Write.ready-goes _ _ c.if-room-lt-CAPSULE_ROOM.false (called_true c.state_sound.ensures c.if-not-state_sound.false)
