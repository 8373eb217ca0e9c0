-- What sending and receiving answer, and what they leave in the lent output.
use Rattle.std.specs.Prelude.{ℕ, ◌+◌, not, List, [], ◌∷◌, ltb, length, Result, Err}
use Rattle.answer.specs.declared.Refusal.{Refusal}
use Rattle.answer.specs.declared.Refusal.TheVariants.{BrokenState, BadForm, HopLimit, NotGranted, PacketTooLong, NoRoom}
use Rattle.answer.specs.Verdict.{Test, ◌⇒◌, first_of, ◌then◌, Writes}
use Rattle.varint.specs.Numbers.{room}
use Rattle.inet.specs.Packet.{form, hops_of, lowered}
use Rattle.state.specs.State.{State, sound_state, sending_granted, receiving_granted, state_in}
use Rattle.template.specs.Datagrams.{max_packet, datagram, Opened, refused, packet, opened}

-- the least outputs that are sent to and received into: a Context ID and a packet; a packet
abbrev pub send_room : ℕ
send_room = room + max_packet

abbrev pub receive_room : ℕ
receive_room = max_packet

-- ---- sending

-- the reasons not to send the packet p to an output of n bytes: the first that holds counts
unfoldable pub send_tests : State → List ℕ → ℕ → List Test
send_tests s p n =
    (ltb n send_room ⇒ NoRoom)
    ∷ (not (sound_state s) ⇒ BrokenState)
    ∷ (ltb max_packet (length p) ⇒ PacketTooLong)
    ∷ (not (form p) ⇒ BadForm)
    ∷ (ltb (hops_of p) 2 ⇒ HopLimit)
    ∷ (not (sending_granted s p) ⇒ NotGranted)
    ∷ []

unfoldable pub send_verdict : State → List ℕ → ℕ → Result Unit Refusal
send_verdict s p n = first_of (send_tests s p n)

-- what is sent: the datagram of the packet with its hop count lowered
unfoldable pub sent_bytes : State → List ℕ → List ℕ
sent_bytes s p = datagram s.templates (lowered p)

-- ---- receiving

-- the reasons to look no further at a datagram
unfoldable pub receive_tests : State → ℕ → List Test
receive_tests s n = (ltb n receive_room ⇒ NoRoom) ∷ (not (sound_state s) ⇒ BrokenState) ∷ []

-- the reasons not to take in the packet q
unfoldable pub packet_tests : State → List ℕ → List Test
packet_tests s q = (not (form q) ⇒ BadForm) ∷ (not (receiving_granted s q) ⇒ NotGranted) ∷ []

-- the packet that a datagram stands for is judged, or the datagram is refused
abbrev pub opened_verdict : State → Opened → Result Unit Refusal
opened_verdict s (refused r) = Err r
opened_verdict s (packet q) = first_of (packet_tests s q)

abbrev pub opened_bytes : Opened → List ℕ
opened_bytes (refused r) = []
opened_bytes (packet q) = q

unfoldable pub receive_verdict : State → List ℕ → ℕ → Result Unit Refusal
receive_verdict s d n = first_of (receive_tests s n) then opened_verdict s (opened s.templates d)

-- what is received: the packet that the datagram stands for
unfoldable pub received_bytes : State → List ℕ → List ℕ
received_bytes s d = opened_bytes (opened s.templates d)

-- ---- what the entry points promise; w are the words of the state

pub record Sends (w p before : List ℕ) (r : Result ℕ Refusal) (after : List ℕ) : Type 0 where
  pub writes : Writes (send_verdict (state_in w) p (length before)) (sent_bytes (state_in w) p) before r after

pub record Receives (w d before : List ℕ) (r : Result ℕ Refusal) (after : List ℕ) : Type 0 where
  pub writes : Writes (receive_verdict (state_in w) d (length before)) (received_bytes (state_in w) d) before r after
