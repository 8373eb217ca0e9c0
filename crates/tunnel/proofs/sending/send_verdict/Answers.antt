-- The code walks down the table `send_tests`: past the first k tests the verdict is that of the rest of the table, and a `return` stops there. The judge has the last
-- three tests. Assumes nothing.
use Prim.Native.Nat.{ℕ}
use mathlib.Core.Path.{◌≡◌, sym, ap, ◌∙◌}
use mathlib.Core.Bool.{true, not}
use mathlib.Core.List.{List}
use native.Mathlib.Omega.{arith}
use borrow.Author.Tests.{lt-ltb, le-ltb}
use lib.ListN.{length, drop}
use Rattle.answer.specs.Verdict.{first_of}
use Rattle.answer.proofs.Passing.{passed_on}
use Rattle.answer.proofs.Tables.{stops, passes}
use Rattle.lists.proofs.Calls.{called_true, called_false}
use Rattle.inet.proofs.CarriedLaws.{alone, alone_parted}
use Rattle.state.specs.State.{sound_state, state_in}
use Rattle.template.specs.Datagrams.{max_packet}
use Rattle.tunnel.specs.Tunnel.{send_room, send_tests, send_verdict}
use Rattle.tunnel.specs.Judging.{judge_tests}
use Rattle.tunnel.proofs.JudgingLaws.{judged-sent}
use Rattle.tunnel.proofs.sending.send_verdict.Goals as goal
use Rattle.tunnel.proofs.sending.send_verdict.Goals.{After-judge, Else-not-state_sound, Else-packet-gt-MAX_PACKET, Else-room-lt-SEND_ROOM}

past1 : (c : Else-room-lt-SEND_ROOM) → (first_of ((send_tests ((state_in c.args.state.now)) c.args.packet.now c.args.room)) ≡ first_of (drop 1 ((send_tests ((state_in c.args.state.now)) c.args.packet.now c.args.room))))
unfolding send_tests
past1 c = passes _ _ _ (le-ltb c.args.room send_room (omega arith))

sound : (c : Else-not-state_sound) → sound_state ((state_in c.args.state.now)) ≡ true
sound c = called_true c.state_sound.ensures c.if-not-state_sound.false

past2 : (c : Else-not-state_sound) → (first_of ((send_tests ((state_in c.args.state.now)) c.args.packet.now c.args.room)) ≡ first_of (drop 2 ((send_tests ((state_in c.args.state.now)) c.args.packet.now c.args.room))))
unfolding send_tests
past2 c = passes _ _ _ (le-ltb c.args.room send_room (omega arith)) ∙ passes _ _ _ (ap not (sound c))

past3 : (c : Else-packet-gt-MAX_PACKET) → (first_of ((send_tests ((state_in c.args.state.now)) c.args.packet.now c.args.room)) ≡ first_of (drop 3 ((send_tests ((state_in c.args.state.now)) c.args.packet.now c.args.room))))
unfolding send_tests
past3 c = passes _ _ _ (le-ltb c.args.room send_room (omega arith)) ∙ passes _ _ _ (ap not (called_true c.state_sound.ensures c.if-not-state_sound.false)) ∙ passes _ _ _ (le-ltb max_packet (length c.args.packet.now) (omega arith))

pub returns-then-room-lt-SEND_ROOM : goal.returns-then-room-lt-SEND_ROOM
unfolding send_verdict send_tests
returns-then-room-lt-SEND_ROOM c = sym (stops _ _ _ (lt-ltb c.args.room send_room (omega arith)))

pub returns-then-not-state_sound : goal.returns-then-not-state_sound
unfolding send_verdict send_tests
returns-then-not-state_sound c = sym (past1 (goal.at.returns-then-not-state_sound c).Else-room-lt-SEND_ROOM ∙ stops _ _ _ (ap not (called_false c.state_sound.ensures c.if-not-state_sound.true)))

pub returns-then-packet-gt-MAX_PACKET : goal.returns-then-packet-gt-MAX_PACKET
unfolding send_verdict send_tests
returns-then-packet-gt-MAX_PACKET c = sym (past2 (goal.at.returns-then-packet-gt-MAX_PACKET c).Else-not-state_sound ∙ stops _ _ _ (lt-ltb max_packet (length c.args.packet.now) (omega arith)))

pub judge-requires : goal.judge-requires
judge-requires c =
    (sound (goal.at.judge-requires c).Else-not-state_sound, alone_parted c.args.packet.now (omega arith))

-- the judge's verdict is that of the whole table
judged : (c : After-judge) → first_of (send_tests (state_in c.args.state.now) c.args.packet.now c.args.room) ≡ first_of (drop 3 (send_tests (state_in c.args.state.now) c.args.packet.now c.args.room))
    → c.judge.result ≡ send_verdict ((state_in c.args.state.now)) c.args.packet.now c.args.room
unfolding send_verdict
judged c p =
    c.judge.ensures
    ∙ ap (λ (q : List ℕ). first_of (judge_tests true ((state_in c.args.state.now)) q)) (alone c.args.packet.now)
    ∙ judged-sent ((state_in c.args.state.now)) c.args.packet.now c.args.room
    ∙ sym p

pub returns-in_err-judge : goal.returns-in_err-judge
returns-in_err-judge c =
    passed_on _ _ c.from_residual.ensures.1
    ∙ sym c.in_err-judge.was
    ∙ judged (goal.at.returns-in_err-judge c).After-judge (past3 (goal.at.returns-in_err-judge c).Else-packet-gt-MAX_PACKET)

pub returns : goal.returns
returns c = sym c.in_ok-judge.was ∙ judged (goal.at.returns c).After-judge (past3 (goal.at.returns c).Else-packet-gt-MAX_PACKET)
