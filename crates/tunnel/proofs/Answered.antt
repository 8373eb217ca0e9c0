-- From the number 0 to an `Ok`, and from there to the bytes that were written. Assumes nothing.
use Rattle.std.proofs.Common.{Result, Ok}
use Prim.Native.Nat.{ℕ}
use mathlib.Core.Path.{◌≡◌, ap}
use mathlib.Core.List.{List, ◌++◌}
use lib.ListN.{length, drop}
use lib.Seq.{take-append_seam}
use Rattle.answer.specs.declared.Refusal.{Refusal}
use Rattle.answer.specs.Number.{answer_number}
use Rattle.answer.specs.Verdict.{answer_of}
use Rattle.answer.proofs.Tables.{zero_go}
use Rattle.state.specs.State.{State}
use Rattle.tunnel.specs.Tunnel.{send_verdict, sent_bytes, receive_verdict, received_bytes}
use Rattle.tunnel.specs.Answers.{send_answer, send_output, receive_answer, receive_output, Passes, datagram_of, packet_of}
use Rattle.tunnel.proofs.SendingLaws.{SendGo, send_go}

module _ (s : State) (p out : List ℕ) where
  pub passes-verdict : Passes s p out → send_verdict s p (length out) ≡ Ok tt
  unfolding send_answer
  passes-verdict e = zero_go (send_verdict s p (length out)) (length (sent_bytes s p)) e

  pub receive_zero : answer_number (receive_answer s p out) ≡ 0 → receive_verdict s p (length out) ≡ Ok tt
  unfolding receive_answer
  receive_zero e = zero_go (receive_verdict s p (length out)) (length (received_bytes s p)) e

  pub verdict-passes : send_verdict s p (length out) ≡ Ok tt → Passes s p out
  unfolding send_answer
  verdict-passes e = ap (λ (v : Result Unit Refusal). answer_number (answer_of v (length (sent_bytes s p)))) e

  pub passes_go : Passes s p out → SendGo s p (length out)
  passes_go e = send_go s p (length out) (passes-verdict e)

  -- the bytes that sending wrote
  pub datagram-sent : Passes s p out → datagram_of s p out ≡ sent_bytes s p
  unfolding send_answer send_output
  datagram-sent e = rw (passes-verdict e) (take-append_seam (sent_bytes s p) (drop (length (sent_bytes s p)) out))

  -- answers and outputs go by the verdict and the bytes
  pub received-same : (d : List ℕ) → receive_verdict s p (length out) ≡ receive_verdict s d (length out)
      → received_bytes s p ≡ received_bytes s d
      → (receive_answer s p out ≡ receive_answer s d out) × (receive_output s p out ≡ receive_output s d out)
  unfolding receive_answer receive_output
  received-same d v b = (rw (v, b), rw (v, b))

  pub received-go : (q : List ℕ) → receive_verdict s p (length out) ≡ Ok tt → received_bytes s p ≡ q
      → (receive_answer s p out ≡ Ok (length q)) × (receive_output s p out ≡ q ++ drop (length q) out)
  unfolding receive_answer receive_output
  received-go q v b = (rw (v, b), rw (v, b))

  -- the packet at the front of the output
  pub packet-front : (q : List ℕ) → receive_answer s p out ≡ Ok (length q) → receive_output s p out ≡ q ++ drop (length q) out → packet_of s p out ≡ q
  packet-front q e f = rw (e, f) (take-append_seam q (drop (length q) out))
