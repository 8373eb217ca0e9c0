-- A broken state, a capsule with no list, or one taken where the state is sound.
use mathlib.Core.Path.{sym, ◌∙◌}
use Rattle.answer.proofs.Passing.{passed_on}
use Rattle.lists.proofs.Calls.{called_true, called_false}
use Rattle.exchange.proofs.ReadCases as Read
use Rattle.exchange.proofs.reading.read_capsule.Goals as goal

pub returns-then-not-state_sound : goal.returns-then-not-state_sound
returns-then-not-state_sound c = Read.read-broken _ _ _ _ (called_false c.state_sound.ensures c.if-not-state_sound.true)

pub returns-in_err-found : goal.returns-in_err-found
returns-in_err-found c =
    rw (passed_on _ _ c.from_residual.ensures.1)
    (Read.read_sound-state _ _ _ _ (called_true c.state_sound.ensures c.if-not-state_sound.false) (Read.read_plain _ _ _ _ _ (sym c.in_err-found.was ∙ c.frame.ensures) tt))

pub returns-in-Datagram : goal.returns-in-Datagram
returns-in-Datagram c =
    Read.read_sound-state _ _ _ _ (called_true c.state_sound.ensures c.if-not-state_sound.false)
    (Read.read_plain _ _ _ _ _ (sym c.in_ok-found.was ∙ c.frame.ensures) c.in-Datagram.is)

pub returns-in-AddressAssign : goal.returns-in-AddressAssign
returns-in-AddressAssign c = Read.read_sound-state _ _ _ _ (called_true c.state_sound.ensures c.if-not-state_sound.false) c.take_capsule.ensures
