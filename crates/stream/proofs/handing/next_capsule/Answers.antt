-- All but a request is handed back as `feed` hands it out; of a request the output was left as it was (`hands_request`). Assumes nothing.
use Rattle.std.proofs.Common.{rules}
use mathlib.Core.Logic.{⊎_elim}
use mathlib.Core.Path.{sym, ◌∙◌}
use denote.Enum.Bare.{same_true, same_false}
use Rattle.answer.proofs.Passing.{passed_on}
use Rattle.capsule.specs.contracts.Kind.{the_type}
use Rattle.stream.proofs.HandCases as Hand
use Rattle.stream.proofs.handing.next_capsule.Goals as goal

pub returns-then-out-lt-CAPSULE_ROOM : goal.returns-then-out-lt-CAPSULE_ROOM
returns-then-out-lt-CAPSULE_ROOM c = Hand.hands_no_room _ _ _ _ c.if-out-lt-CAPSULE_ROOM.true

pub returns-in_err-read : goal.returns-in_err-read
returns-in_err-read c =
    rw (passed_on _ _ c.from_residual.ensures.1)
    (Hand.hands_same _ _ _ _ c.if-out-lt-CAPSULE_ROOM.false (rw c.in_err-read.was at c.feed.ensures) Hand.not_stopped)

pub returns-then-is_request : goal.returns-then-is_request
returns-then-is_request c =
    Hand.hands_request _ _ _ _ c.if-out-lt-CAPSULE_ROOM.false c.feed.ensures c.in_ok-read.was c.in-Handed.is
    (same_true the_type (search rules) _ _ (sym c.eq-is_request.ensures ∙ c.if-is_request.true)) c.put_request_value-answer.ensures c.length_of-n.ensures

pub returns-else-is_request : goal.returns-else-is_request
returns-else-is_request c =
    Hand.hands_same _ _ _ _ c.if-out-lt-CAPSULE_ROOM.false (rw c.in_ok-read.was at c.feed.ensures)
    (Hand.not_request c.in_ok-read.read c.in-Handed.is (same_false the_type _ _ (sym c.eq-is_request.ensures ∙ c.if-is_request.false)))

pub returns-in-Between : goal.returns-in-Between
returns-in-Between c =
    Hand.hands_same _ _ _ _ c.if-out-lt-CAPSULE_ROOM.false (rw c.in_ok-read.was at c.feed.ensures)
    (⊎_elim (Hand.not_between c.in_ok-read.read) (Hand.not_wait c.in_ok-read.read) c.in-Between.is)
