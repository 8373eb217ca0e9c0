-- What any receiver with the sender's templates answers to a datagram: from `open_datagram`, by which both forms stand for the packet. Assumes nothing.
use Prim.Native.Nat.{ℕ, ◌-◌, ◌%◌, ◌≤◌}
use mathlib.Core.Path.{◌≡◌, refl, sym, ap, ◌∙◌}
use mathlib.Core.List.{List}
use native.Mathlib.Omega.{arith}
use lib.ListN.{length, get_or}
use Rattle.answer.specs.Number.{answer_number}
use Rattle.inet.specs.Sum.{words, fold}
use Rattle.inet.specs.Packet.{form, form4, put16, header_check, lowered4, lowered}
use Rattle.inet.specs.Transport.{damaged}
use Rattle.state.specs.State.{State, Mirrors}
use Rattle.template.specs.Datagrams.{full_form}
use Rattle.tunnel.specs.Tunnel.{receive_room, received_bytes}
use Rattle.tunnel.specs.Answers.{receive_answer, receive_output, Passes, datagram_of, packet_of}
use Rattle.tunnel.proofs.Answered.{passes_go, receive_zero, datagram-sent, received-same, received-go, packet-front}
use Rattle.tunnel.proofs.Agreement.{same-verdict, same_bytes_lem, mirrored_go, received-sent, damage_kept, sent_injective}
use Rattle.ends.specs.Outcomes.{TakesIn, Twins}

pub received_in : (s : State) (d into q : List ℕ) → answer_number (receive_answer s d into) ≡ 0 → received_bytes s d ≡ q → TakesIn s d into q
received_in s d into q e b = let r = received-go s d into q (receive_zero s d into e) b in record { answer = r.0; output = r.1 }

module _ (s : State) (p out : List ℕ) (passed : Passes s p out) (other : State) (same : other.templates ≡ s.templates) where
  -- the bytes that receiving hands out
  lowered-out : received_bytes other (datagram_of s p out) ≡ lowered p
  lowered-out = ap (received_bytes other) (datagram-sent s p out passed) ∙ received-sent s p (length out) (passes_go s p out passed) other same

  pub alike : (into : List ℕ)
      → (receive_answer other (datagram_of s p out) into ≡ receive_answer other (full_form (lowered p)) into)
      × (receive_output other (datagram_of s p out) into ≡ receive_output other (full_form (lowered p)) into)
  alike into =
      let g = passes_go s p out passed in
      rw (datagram-sent s p out passed)
      (received-same other _ into (full_form (lowered p)) (same-verdict s p (length out) g other same (length into)) (same_bytes_lem s p (length out) g other same))

  pub takes_in_sent : (into : List ℕ) → answer_number (receive_answer other (datagram_of s p out) into) ≡ 0
      → TakesIn other (datagram_of s p out) into (lowered p)
  takes_in_sent into e = received_in other _ into (lowered p) e lowered-out

  pub mirrored_zero : Mirrors s other → (into : List ℕ) → receive_room ≤ length into → answer_number (receive_answer other (datagram_of s p out) into) ≡ 0
  mirrored_zero mirror into room =
      let g = passes_go s p out passed in
      rw (datagram-sent s p out passed)
      (ap answer_number
      (received-go other _ into (lowered p) (mirrored_go s p (length out) g other same mirror (length into) room) (received-sent s p (length out) g other same)).0)

  pub damaged-alike : (into : List ℕ) → answer_number (receive_answer other (datagram_of s p out) into) ≡ 0
      → (field start : ℕ) → 20 ≤ start → start ≤ field → (field - start) % 2 ≡ 0
      → damaged field start (packet_of other (datagram_of s p out) into) ≡ damaged field start p
  damaged-alike into e field start low order even =
      let g = passes_go s p out passed in
      let o = takes_in_sent into e in
      ap (damaged field start)
      (packet-front other (datagram_of s p out) into (lowered p) o.answer o.output ∙ sym (received-sent s p (length out) g other same))
      ∙ damage_kept s p (length out) g other same field start low order

-- opening both gives both back
pub lowered-apart : (s t : State) (p q out into : List ℕ) → t.templates ≡ s.templates → Passes s p out → Passes t q into
    → datagram_of s p out ≡ datagram_of t q into → lowered p ≡ lowered q
lowered-apart s t p q out into same a b e =
    sent_injective s t same p q (length out) (length into) (passes_go s p out a) (passes_go t q into b)
    (sym (datagram-sent s p out a) ∙ e ∙ datagram-sent t q into b)

pub twins-one : Twins
unfolding form form4 lowered lowered4 header_check put16 fold words
twins-one = record { first = refl; second = refl; differ = λ e. omega (arith, ap (λ (l : List ℕ). get_or l 10 0) e); become_one = refl }
