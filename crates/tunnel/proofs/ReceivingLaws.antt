-- What the verdict on receiving says, both ways. Assumes nothing.
use Rattle.std.proofs.Common.{Result, Ok, Err}
use Prim.Native.Nat.{ℕ, ◌≤◌}
use mathlib.Core.Path.{◌≡◌, refl, ap, ◌∙◌}
use mathlib.Core.Bool.{true, not}
use mathlib.Core.List.{List}
use native.Mathlib.Omega.{arith}
use borrow.Author.Tests.{ltb-false, le-ltb, not-false}
use lib.Dec.{ltb}
use Rattle.answer.specs.declared.Refusal.{Refusal}
use Rattle.answer.specs.declared.Refusal.TheVariants.{BrokenState, BadForm, NotGranted, NoRoom}
use Rattle.answer.specs.Verdict.{first_of, ◌then◌}
use Rattle.answer.proofs.Tables.{go_test, go-rest, then_first, then_second}
use Rattle.inet.specs.Packet.{form}
use Rattle.state.specs.State.{State, sound_state, receiving_granted}
use Rattle.template.specs.Datagrams.{Opened, refused, packet, opened}
use Rattle.tunnel.specs.Tunnel.{receive_room, receive_tests, packet_tests, opened_verdict, opened_bytes, receive_verdict, received_bytes}

-- the state is sound, and there is room
pub record StateGo (s : State) (n : ℕ) : Type 0 where
  pub room : receive_room ≤ n
  pub sound : sound_state s ≡ true

module _ (s : State) (n : ℕ) where
  pub state-go : first_of (receive_tests s n) ≡ Ok tt → StateGo s n
  unfolding receive_tests
  state-go e =
      let r = go-rest (ltb n receive_room) NoRoom _ e in
      record {
        room = ltb-false n receive_room (go_test (ltb n receive_room) NoRoom _ e);
        sound = not-false (sound_state s) (go_test (not (sound_state s)) BrokenState (Ok tt) r);
      }

  pub go-state : StateGo s n → first_of (receive_tests s n) ≡ Ok tt
  unfolding receive_tests
  go-state g = rw (le-ltb n receive_room g.room, g.sound)

-- the tests of a packet
module _ (s : State) (q : List ℕ) where
  pub packet_facts : first_of (packet_tests s q) ≡ Ok tt → (form q ≡ true) × (receiving_granted s q ≡ true)
  unfolding packet_tests
  packet_facts e = (
    not-false (form q) (go_test (not (form q)) BadForm _ e),
    not-false (receiving_granted s q) (go_test (not (receiving_granted s q)) NotGranted (Ok tt) (go-rest (not (form q)) BadForm _ e)),
  )

  pub facts_packet : form q ≡ true → receiving_granted s q ≡ true → first_of (packet_tests s q) ≡ Ok tt
  unfolding packet_tests
  facts_packet e f = rw (e, f)

-- what an `Ok` says of the packet that a datagram stands for
record OpenedGo (s : State) (o : Opened) : Type 0 where
  stands : o ≡ packet (opened_bytes o)
  good-form : form (opened_bytes o) ≡ true
  granted : receiving_granted s (opened_bytes o) ≡ true

opened_facts : (s : State) (o : Opened) → opened_verdict s o ≡ Ok tt → OpenedGo s o
opened_facts s (refused r) e = let z : ◌≡◌ {A = ℕ} 0 1 = cc in absurd (omega arith)
opened_facts s (packet q) e =
    let f = packet_facts s q e in
    record { stands = refl; good-form = f.0; granted = f.1 }

-- what an `Ok` to take a datagram in says
pub record ReceiveGo (s : State) (d : List ℕ) (n : ℕ) : Type 0 where
  pub state : StateGo s n
  pub stands : opened s.templates d ≡ packet (received_bytes s d)
  pub good-form : form (received_bytes s d) ≡ true
  pub granted : receiving_granted s (received_bytes s d) ≡ true

module _ (s : State) (d : List ℕ) (n : ℕ) where
  -- with room and a sound state, the packet decides
  pub receive_opened : StateGo s n → receive_verdict s d n ≡ opened_verdict s (opened s.templates d)
  unfolding receive_verdict
  receive_opened g = ap (λ (v : Result Unit Refusal). v then opened_verdict s (opened s.templates d)) (go-state s n g)

  -- without, they do
  pub receive_state : {r : Refusal} → first_of (receive_tests s n) ≡ Err r → receive_verdict s d n ≡ Err r
  unfolding receive_verdict
  receive_state e = ap (λ (v : Result Unit Refusal). v then opened_verdict s (opened s.templates d)) e

  pub receive_go : receive_verdict s d n ≡ Ok tt → ReceiveGo s d n
  unfolding receive_verdict received_bytes
  receive_go e =
      let a = then_first (first_of (receive_tests s n)) (opened_verdict s (opened s.templates d)) e in
      let b = then_second (first_of (receive_tests s n)) (opened_verdict s (opened s.templates d)) e in
      let f = opened_facts s (opened s.templates d) b in
      record { state = state-go s n a; stands = f.stands; good-form = f.good-form; granted = f.granted }

  pub go_receive : ReceiveGo s d n → receive_verdict s d n ≡ Ok tt
  go_receive k =
      receive_opened k.state ∙ ap (opened_verdict s) k.stands
      ∙ facts_packet s (received_bytes s d) k.good-form k.granted

-- what is received is the packet that the datagram stands for
pub received-packet : (s : State) (d q : List ℕ) → opened s.templates d ≡ packet q → received_bytes s d ≡ q
unfolding received_bytes
received-packet s d q e = ap opened_bytes e
