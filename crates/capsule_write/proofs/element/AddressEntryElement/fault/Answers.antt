-- The test of the entry, and then of its Request ID.
use Rattle.lists.proofs.Calls.{called_true, called_false}
use Rattle.capsule_write.proofs.Judging as Judging
use Rattle.capsule_write.proofs.element.AddressEntryElement.fault.Goals as goal

pub returns-then-not-entry_sound : goal.returns-then-not-entry_sound
returns-then-not-entry_sound c = rw (called_false c.entry_sound.ensures c.if-not-entry_sound.true)

pub returns-then-id_refused : goal.returns-then-id_refused
returns-then-id_refused c =
    let a = c.args in
    rw (called_true c.entry_sound.ensures c.if-not-entry_sound.false, Judging.follows-refused a.w.now a.i a.request a.self c.id_refused.ensures c.if-id_refused.true)

pub returns : goal.returns
returns c =
    let a = c.args in
    rw (called_true c.entry_sound.ensures c.if-not-entry_sound.false, Judging.follows-go a.w.now a.i a.request a.self c.id_refused.ensures c.if-id_refused.false)
