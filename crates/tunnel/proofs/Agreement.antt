-- Short and full agree: the laws behind the third demand, all of them corollaries of `open_datagram`. Assumes nothing.
use Rattle.std.proofs.Common.{Ok}
use Prim.Native.Nat.{ℕ, ◌≤◌}
use mathlib.Core.Path.{◌≡◌, refl, sym, ap, ◌∙◌}
use mathlib.Core.Bool.{true}
use mathlib.Core.List.{List}
use native.Mathlib.Omega.{arith}
use lib.ListN.{length}
use Rattle.answer.specs.Verdict.{first_of, ◌then◌}
use Rattle.inet.specs.Packet.{lowered}
use Rattle.inet.specs.Transport.{damaged}
use Rattle.inet.proofs.LoweredLaws.{lowered_length, lowered-form}
use Rattle.inet.proofs.TransportLaws.{lowered-damaged}
use Rattle.policy.specs.Granted.{sound_side}
use Rattle.table.specs.Templates.{Template}
use Rattle.table.specs.Rules.{sound_templates}
use Rattle.table.proofs.TableFacts.{sound-templates}
use Rattle.state.specs.State.{State, sound_state, receiving_granted, Mirrors}
use Rattle.state.proofs.StateLaws.{state_facts, facts_state, receiving_mirrors, sending_lowered}
use Rattle.template.specs.Fits.{Choice, full, short, first_fit}
use Rattle.template.specs.Datagrams.{max_packet, short_form, full_form, form_of, datagram, Opened, packet, opened}
use Rattle.template.proofs.DatagramLaws.{open_datagram, open_full}
use Rattle.tunnel.specs.Tunnel.{receive_room, sent_bytes, receive_tests, opened_verdict, opened_bytes, receive_verdict, received_bytes}
use Rattle.tunnel.proofs.SendingLaws.{SendGo}
use Rattle.tunnel.proofs.ReceivingLaws.{go_receive}

-- s sends the packet p, and s' holds the same templates
module _ (s : State) (p : List ℕ) (n : ℕ) (g : SendGo s p n) (s' : State) (t : s'.templates ≡ s.templates) where
  lowered-short : length (lowered p) ≤ max_packet
  lowered-short = rw lowered_length g.short

  -- both forms stand for the packet with its hop count lowered
  pub open_sent : opened s'.templates (sent_bytes s p) ≡ packet (lowered p)
  unfolding sent_bytes
  open_sent = rw t (open_datagram s.templates (lowered p) (sound-templates s.templates (state_facts s g.sound).templates) lowered-short)

  pub open_whole : opened s'.templates (full_form (lowered p)) ≡ packet (lowered p)
  open_whole = open_full s'.templates (lowered p) lowered-short

  pub received-sent : received_bytes s' (sent_bytes s p) ≡ lowered p
  unfolding received_bytes
  received-sent = ap opened_bytes open_sent

  -- so receiving answers the same to both, whatever was granted
  pub same-verdict : (m : ℕ) → receive_verdict s' (sent_bytes s p) m ≡ receive_verdict s' (full_form (lowered p)) m
  unfolding receive_verdict
  same-verdict m = ap (λ (o : Opened). first_of (receive_tests s' m) then opened_verdict s' o) (open_sent ∙ sym open_whole)

  pub same_bytes_lem : received_bytes s' (sent_bytes s p) ≡ received_bytes s' (full_form (lowered p))
  unfolding received_bytes
  same_bytes_lem = ap opened_bytes (open_sent ∙ sym open_whole)

  -- where what each received is what the other one gave, the packet passes
  module _ (m : Mirrors s s') where
    mirrored_granted : receiving_granted s' (lowered p) ≡ true
    mirrored_granted = receiving_mirrors s s' m (lowered p) ∙ sending_lowered s p ∙ g.granted

    mirrored_sound : sound_state s' ≡ true
    mirrored_sound =
        let f = state_facts s g.sound in
        facts_state s'
        (record {
          received = ap sound_side (sym m.given) ∙ f.given;
          given = ap sound_side (sym m.received) ∙ f.received;
          templates = ap sound_templates t ∙ f.templates;
        })

    pub mirrored_go : (k : ℕ) → receive_room ≤ k → receive_verdict s' (sent_bytes s p) k ≡ Ok tt
    mirrored_go k h =
        go_receive s' (sent_bytes s p) k
        (record {
          state = record { room = h; sound = mirrored_sound };
          stands = open_sent ∙ ap packet (sym received-sent);
          good-form = rw received-sent (lowered-form p g.form);
          granted = rw received-sent mirrored_granted;
        })

  -- a transport checksum is damaged after exactly where it was before
  pub damage_kept : (field start : ℕ) → 20 ≤ start → start ≤ field
      → damaged field start (received_bytes s' (sent_bytes s p)) ≡ damaged field start p
  damage_kept field start a b = ap (damaged field start) received-sent ∙ lowered-damaged p field start (omega arith) b

-- two packets that differ after lowering never make the same datagram
pub sent_injective : (s t : State) → t.templates ≡ s.templates → (p q : List ℕ) (m n : ℕ) → SendGo s p m → SendGo t q n
    → sent_bytes s p ≡ sent_bytes t q → lowered p ≡ lowered q
sent_injective s t w p q m n g h e =
    sym (received-sent s p m g t w) ∙ ap (received_bytes t) e ∙ received-sent t q n h t refl

-- the form that is sent
pub sent-short : (s : State) (p : List ℕ) (t : Template) → first_fit s.templates (lowered p) ≡ short t → sent_bytes s p ≡ short_form t (lowered p)
unfolding sent_bytes datagram
sent-short s p t e = ap (λ (c : Choice). form_of c (lowered p)) e

pub sent-full : (s : State) (p : List ℕ) → first_fit s.templates (lowered p) ≡ full → sent_bytes s p ≡ full_form (lowered p)
unfolding sent_bytes datagram
sent-full s p e = ap (λ (c : Choice). form_of c (lowered p)) e
