-- The answers and outputs of sending and receiving, each as a function of a state and what is handed in: what the contracts' record `Writes` says.
use Rattle.std.specs.Prelude.{ℕ, ◌≡◌, List, length, take, Result}
use Rattle.answer.specs.declared.Refusal.{Refusal}
use Rattle.answer.specs.Number.{answer_number, answer_length}
use Rattle.answer.specs.Verdict.{answer_of, output_of}
use Rattle.state.specs.State.{State}
use Rattle.tunnel.specs.Tunnel.{send_verdict, sent_bytes, receive_verdict, received_bytes}

unfoldable pub send_answer : State → List ℕ → List ℕ → Result ℕ Refusal
send_answer s p out = answer_of (send_verdict s p (length out)) (length (sent_bytes s p))

unfoldable pub send_output : State → List ℕ → List ℕ → List ℕ
send_output s p out = output_of (send_verdict s p (length out)) (sent_bytes s p) out

unfoldable pub receive_answer : State → List ℕ → List ℕ → Result ℕ Refusal
receive_answer s d out = answer_of (receive_verdict s d (length out)) (length (received_bytes s d))

unfoldable pub receive_output : State → List ℕ → List ℕ → List ℕ
receive_output s d out = output_of (receive_verdict s d (length out)) (received_bytes s d) out

-- a packet passes when the number given back is 0
abbrev pub Passes : State → List ℕ → List ℕ → Type 0
Passes s p out = answer_number (send_answer s p out) ≡ 0

-- the datagram is then the n bytes that sending wrote
abbrev pub datagram_of : State → List ℕ → List ℕ → List ℕ
datagram_of s p out = take (answer_length (send_answer s p out)) (send_output s p out)

-- what is received is then the n bytes that receiving wrote
abbrev pub packet_of : State → List ℕ → List ℕ → List ℕ
packet_of s d out = take (answer_length (receive_answer s d out)) (receive_output s d out)
