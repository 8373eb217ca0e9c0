-- When a packet passes, in each direction; the four cases of ICMP. Assumes nothing.
use Rattle.std.proofs.Common.{Result, ℕ}
use Prim.Native.Nat.{ℕ, ◌-◌, ◌≤◌}
use mathlib.Core.Path.{◌≡◌, refl, sym, ap, ◌∙◌}
use mathlib.Core.Bool.{true, false}
use mathlib.Core.List.{List}
use borrow.Author.Tests.{leb-true, le-leb}
use lib.Dec.{leb}
use lib.ListN.{length}
use Rattle.answer.specs.declared.Refusal.{Refusal}
use Rattle.answer.specs.Number.{answer_number}
use Rattle.answer.proofs.Tests.{and_both}
use Rattle.octets.specs.Scan.{any_of}
use Rattle.std.specs.Prelude.{Some}
use Rattle.chain.specs.Chain.{chain_of}
use Rattle.inet.proofs.ProtocolLaws.{icmp_behind}
use Rattle.inet.specs.Packet.{version_of, form, hops_of, source_of, destination_of, protocol_of, icmp_in, is_icmp, lowered}
use Rattle.inet.proofs.LoweredLaws.{lowered-hops_of}
use Rattle.inet.proofs.FormFacts.{form_facts}
use Rattle.policy.specs.Granted.{flow_of, covers, holds, reversed}
use Rattle.policy.proofs.PassLaws.{passes-reversed, passes_icmp}
use Rattle.state.specs.State.{State, sound_state, sending_granted, receiving_granted, state_in}
use Rattle.template.specs.Datagrams.{max_packet, packet, opened}
use Rattle.tunnel.specs.Tunnel.{send_room, receive_room, opened_verdict, received_bytes, Sends, Receives}
use Rattle.tunnel.specs.Answers.{send_answer, send_output, receive_answer, receive_output, Passes, packet_of}
use Rattle.tunnel.proofs.SendingLaws.{go_send}
use Rattle.tunnel.proofs.ReceivingLaws.{receive_go, receive_opened, facts_packet, received-packet}
use Rattle.tunnel.proofs.Answered.{passes_go, verdict-passes, receive_zero, received-go, packet-front}
use Rattle.ends.specs.Outcomes.{allowed_out, allowed_in, TakesIn}
use Rattle.ends.proofs.Agreeing.{received_in}

-- answer and output are those of the contracts
pub sends_answer : (w p : List ℕ) {before after : List ℕ} {r : Result ℕ Refusal} → Sends w p before r after
    → (r ≡ send_answer (state_in w) p before) × (after ≡ send_output (state_in w) p before)
unfolding send_answer send_output
sends_answer w p k = (k.writes.answer, k.writes.output)

pub receives_answer : (w d : List ℕ) {before after : List ℕ} {r : Result ℕ Refusal} → Receives w d before r after
    → (r ≡ receive_answer (state_in w) d before) × (after ≡ receive_output (state_in w) d before)
unfolding receive_answer receive_output
receives_answer w d k = (k.writes.answer, k.writes.output)

module _ (s : State) (p out : List ℕ) where
  pub allowed_passes : send_room ≤ length out → sound_state s ≡ true → allowed_out s p ≡ true → Passes s p out
  allowed_passes room sound e =
      let a = and_both (leb (length p) max_packet) _ e in
      let b = and_both (form p) _ a.1 in
      let c = and_both (leb 2 (hops_of p)) (sending_granted s p) b.1 in
      verdict-passes s p out
      (go_send s p (length out)
      (record {
        roomy = room;
        sound = sound;
        short = leb-true _ _ a.0;
        form = b.0;
        hops = leb-true _ _ c.0;
        granted = c.1;
      }))

  pub passes_allowed : Passes s p out → allowed_out s p ≡ true
  passes_allowed e =
      let g = passes_go s p out e in
      simp (le-leb (length p) max_packet g.short, g.form, le-leb 2 (hops_of p) g.hops, g.granted)

  pub passes_lowers : Passes s p out → hops_of (lowered p) ≡ hops_of p - 1
  passes_lowers e = lowered-hops_of p (form_facts p (passes_go s p out e).form)

module _ (s : State) (d q into : List ℕ) (o : opened s.templates d ≡ packet q) where
  pub allowed_taken : receive_room ≤ length into → sound_state s ≡ true → allowed_in s q ≡ true → TakesIn s d into q
  allowed_taken room sound e =
      let f = and_both (form q) (receiving_granted s q) e in
      let v = receive_opened s d (length into) (record { room = room; sound = sound }) ∙ ap (opened_verdict s) o ∙ facts_packet s q f.0 f.1 in
      let r = received-go s d into q v (received-packet s d q o) in
      record { answer = r.0; output = r.1 }

  pub taken_unchanged : answer_number (receive_answer s d into) ≡ 0 → TakesIn s d into q
  taken_unchanged e = received_in s d into q e (received-packet s d q o)

pub taken_allowed : (s : State) (d into : List ℕ) → answer_number (receive_answer s d into) ≡ 0
    → (opened s.templates d ≡ packet (packet_of s d into)) × (allowed_in s (packet_of s d into) ≡ true)
taken_allowed s d into e =
    let g = receive_go s d (length into) (receive_zero s d into e) in
    let t = received_in s d into (received_bytes s d) e refl in
    rw (packet-front s d into (received_bytes s d) t.answer t.output) (g.stands, simp (g.good-form, g.granted))

-- ---- ICMP
module _ (s : State) (p : List ℕ) (icmp : is_icmp p ≡ true) where
  pub icmp_out : any_of (covers (source_of p)) s.received.addresses ≡ true → any_of (holds (destination_of p)) s.received.routes ≡ true
      → sending_granted s p ≡ true
  unfolding sending_granted flow_of
  icmp_out a r = passes_icmp s.received s.given (flow_of p) icmp a r

  pub icmp_out_reply : any_of (covers (destination_of p)) s.given.addresses ≡ true → any_of (holds (source_of p)) s.given.routes ≡ true
      → sending_granted s p ≡ true
  unfolding sending_granted flow_of
  icmp_out_reply a r = sym (passes-reversed s.received s.given (flow_of p)) ∙ passes_icmp s.given s.received (reversed (flow_of p)) icmp a r

  pub icmp_in_lem : any_of (covers (source_of p)) s.given.addresses ≡ true → any_of (holds (destination_of p)) s.given.routes ≡ true
      → receiving_granted s p ≡ true
  unfolding receiving_granted flow_of
  icmp_in_lem a r = passes_icmp s.given s.received (flow_of p) icmp a r

  pub icmp_in_reply : any_of (covers (destination_of p)) s.received.addresses ≡ true → any_of (holds (source_of p)) s.received.routes ≡ true
      → receiving_granted s p ≡ true
  unfolding receiving_granted flow_of
  icmp_in_reply a r = sym (passes-reversed s.given s.received (flow_of p)) ∙ passes_icmp s.received s.given (reversed (flow_of p)) icmp a r

pub icmp_4_not_58 : (p : List ℕ) → version_of p ≡ 4 → protocol_of p ≡ 58 → is_icmp p ≡ false
unfolding is_icmp icmp_in
icmp_4_not_58 p v e = rw (v, e)

-- ---- ICMP behind a chain of headers, whatever protocol the range names
module _ (s : State) (p : List ℕ) (v : version_of p ≡ 6) (e : chain_of p ≡ Some 58) where
  pub chain-out : any_of (covers (source_of p)) s.received.addresses ≡ true → any_of (holds (destination_of p)) s.received.routes ≡ true
      → sending_granted s p ≡ true
  chain-out = icmp_out s p (icmp_behind p v e refl)

  pub chain_in : any_of (covers (source_of p)) s.given.addresses ≡ true → any_of (holds (destination_of p)) s.given.routes ≡ true
      → receiving_granted s p ≡ true
  chain_in = icmp_in_lem s p (icmp_behind p v e refl)
