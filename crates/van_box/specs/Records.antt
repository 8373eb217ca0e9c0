-- What each kind of record answers, and what it leaves in the state.
use Rattle.std.specs.Prelude.{ℕ, zero, suc, Bool, true, false, ◌≡◌, List, [], ◌++◌, ltb, eqb, length, drop, Result, Ok, Err}
use Rattle.answer.specs.declared.Refusal.{Refusal}
use Rattle.answer.specs.declared.Refusal.TheVariants.{Incomplete}
use Rattle.answer.specs.Choice.{pick}
use Rattle.answer.specs.Verdict.{output_of, kept}
use Rattle.lists.specs.Words.{pack_entries, pack_ranges}
use Rattle.capsule.specs.Elements.{parsed_verdict, elements_of}
use Rattle.capsule.specs.Capsules.{assign, request, advertise, capsule_bytes, entries_in, ranges_in}
use Rattle.capsule_write.specs.Verdicts.{capsule_room, with_room}
use Rattle.table.specs.File.{plan_in}
use Rattle.table.specs.Load.{plan_read}
use Rattle.state.specs.State.{state_in}
use Rattle.state.specs.Loading.{with_templates}
use Rattle.exchange.specs.Writing.{ready, give_addresses, give_routes, entries_taken, ranges_taken}
use Rattle.stream.specs.declared.feeding.Call.{Call}
use Rattle.stream.specs.declared.feeding.Call.TheVariants.{Handed, Between, Wait}
use Rattle.stream.specs.Store.{Said, out, clean, wait, no, Fed}
use Rattle.stream.specs.Feeding.{fed, on_out, state_fed}
use Rattle.stream.specs.Handing.{contents, hand_verdict, handed_call}
use Rattle.tunnel.specs.Tunnel.{send_verdict, sent_bytes, receive_verdict, received_bytes}
use Rattle.van_box.specs.declared.outgoing.Output.{Output}
use Rattle.van_box.specs.declared.answers.Stepped.{Stepped}
use Rattle.van_box.specs.Outgoing.{answer_bytes, unknown_answer, Appends}

-- ---- the kinds: the letters C, P, A, R, Q, T, D
abbrev pub stream_kind : ℕ
stream_kind = 67

abbrev pub plan_kind : ℕ
plan_kind = 80

abbrev pub assign_kind : ℕ
assign_kind = 65

abbrev pub advertise_kind : ℕ
advertise_kind = 82

abbrev pub request_kind : ℕ
request_kind = 81

abbrev pub packet_kind : ℕ
packet_kind = 84

abbrev pub datagram_kind : ℕ
datagram_kind = 68

-- what lives across records: the words of the state, and the bytes that are kept of an unfinished capsule
pub record Memory : Type 0 where
  pub state : List ℕ
  pub bytes : List ℕ

abbrev pub memory : List ℕ → List ℕ → Memory
memory w held = record { state = w; bytes = held }

-- what a record leaves: the bytes of its answers, and the state or the memory after it
pub record Outcome (A : Type 0) : Type 0 where
  pub answers : List ℕ
  pub left : A

abbrev pub leaving : {A : Type 0} → List ℕ → A → Outcome A
leaving a x = record { answers = a; left = x }

-- ---- one answer: w are the words of the state, and there is room for the longest message

-- a packet from a tablet, a datagram from the link, entries to request: the state stays
unfoldable pub sent_answer : List ℕ → List ℕ → List ℕ
sent_answer w p = answer_bytes packet_kind (send_verdict (state_in w) p capsule_room) (sent_bytes (state_in w) p)

unfoldable pub received_answer : List ℕ → List ℕ → List ℕ
received_answer w d = answer_bytes datagram_kind (receive_verdict (state_in w) d capsule_room) (received_bytes (state_in w) d)

unfoldable pub request_answer : List ℕ → List ℕ
request_answer v =
    answer_bytes request_kind (with_room capsule_room (parsed_verdict (entries_in true v))) (capsule_bytes (request (elements_of (entries_in true v))))

-- a plan file: a good one replaces the templates
unfoldable pub plan_outcome : List ℕ → List ℕ → Outcome (List ℕ)
plan_outcome w file = leaving (answer_bytes plan_kind (plan_read file) []) (with_templates (plan_in file) w)

-- a message to be written, and the state that is new where it is
abbrev pub giving : ℕ → Result Unit Refusal → List ℕ → List ℕ → List ℕ → Outcome (List ℕ)
giving kind v m new w = leaving (answer_bytes kind v m) (kept v new w)

-- entries to assign, ranges to advertise: a good list becomes the given one
unfoldable pub assign_outcome : List ℕ → List ℕ → Outcome (List ℕ)
assign_outcome w v =
    giving assign_kind (ready capsule_room w (parsed_verdict (entries_in false v))) (capsule_bytes (assign (entries_taken v)))
    (give_addresses w (pack_entries (entries_taken v))) w

unfoldable pub advertise_outcome : List ℕ → List ℕ → Outcome (List ℕ)
advertise_outcome w v =
    giving advertise_kind (ready capsule_room w (parsed_verdict (ranges_in v))) (capsule_bytes (advertise (ranges_taken v)))
    (give_routes w (pack_ranges (ranges_taken v))) w

-- ---- bytes of the stream, cut anywhere: an answer for each capsule that comes to its end, in order

-- a call: what it says, how many of the bytes it takes, and the memory that it leaves
pub record Step : Type 0 where
  pub said : Said
  pub taken : ℕ
  pub memory : Memory

-- a memory that breaks its rules is refused, and stays
abbrev pub step_of : Result Unit Refusal → Memory → Fed → Step
step_of (Ok _) m f = record { said = f.said; taken = f.taken; memory = memory (state_fed m.state f) (output_of (Ok tt) f.store.kept m.bytes) }
step_of (Err r) m f = record { said = no r; taken = 0; memory = m }

-- the bytes s are given, and there is room for what is handed out
unfoldable pub stepped : Memory → List ℕ → Step
stepped m s = step_of (hand_verdict m.state m.bytes capsule_room) m (fed m.state m.bytes s)

-- 0 between capsules, and 1 in a capsule
abbrev pub said_verdict : Said → Result Unit Refusal
said_verdict (out c) = Ok tt
said_verdict clean = Ok tt
said_verdict wait = Err Incomplete
said_verdict (no r) = Err r

abbrev pub said_answer : Said → List ℕ
said_answer x = answer_bytes stream_kind (said_verdict x) (on_out contents [] x)

-- an answer, and then what follows
abbrev pub before : List ℕ → Outcome Memory → Outcome Memory
before a o = leaving (a ++ o.answers) o.left

-- behind a capsule that took n of the bytes s: the next one where bytes are left; any other answer is the last
abbrev pub behind : (Memory → List ℕ → Outcome Memory) → List ℕ → Memory → ℕ → Said → Outcome Memory
behind next s m n (out c) = pick (ltb n (length s)) (next m (drop n s)) (leaving [] m)
behind next s m n clean = leaving [] m
behind next s m n wait = leaving [] m
behind next s m n (no r) = leaving [] m

-- a capsule takes a byte at least, so fuel above the length is enough
unfoldable pub capsules : ℕ → Memory → List ℕ → Outcome Memory
capsules zero m s = leaving [] m
capsules (suc fuel) m s =
    before (said_answer (stepped m s).said) (behind (capsules fuel) s (stepped m s).memory (stepped m s).taken (stepped m s).said)

abbrev pub stream_outcome : Memory → List ℕ → Outcome Memory
stream_outcome m s = capsules (suc (length s)) m s

-- ---- a record of a kind, whose bytes are s: but for the stream, the kept bytes stay
abbrev pub beside : List ℕ → Outcome (List ℕ) → Outcome Memory
beside held x = leaving x.answers (memory x.left held)

unfoldable pub outcome : ℕ → Memory → List ℕ → Outcome Memory
outcome kind m s =
    pick (eqb kind stream_kind) (stream_outcome m s)
    (pick (eqb kind plan_kind) (beside m.bytes (plan_outcome m.state s))
    (pick (eqb kind assign_kind) (beside m.bytes (assign_outcome m.state s))
    (pick (eqb kind advertise_kind) (beside m.bytes (advertise_outcome m.state s))
    (pick (eqb kind request_kind) (leaving (request_answer s) m)
    (pick (eqb kind packet_kind) (leaving (sent_answer m.state s) m)
    (pick (eqb kind datagram_kind) (leaving (received_answer m.state s) m)
    (leaving unknown_answer m)))))))

-- ---- what the functions promise

-- the answers of a record wait in the output, and the state or the memory is the one after it
pub record Answers {A : Type 0} (x : Outcome A) (o : Output) (before : List ℕ) (r : Output) (later : A) (after : List ℕ) : Type 0 where
  pub answers : Appends x.answers o before r after
  pub left : later ≡ x.left

-- what a call says, as an answer
abbrev pub call_answer : Result Call Refusal → Result ℕ Refusal
call_answer (Ok (Handed kind n)) = Ok n
call_answer (Ok Between) = Ok 0
call_answer (Ok Wait) = Err Incomplete
call_answer (Err r) = Err r

abbrev pub is_handed : Result Call Refusal → Bool
is_handed (Ok (Handed kind n)) = true
is_handed (Ok Between) = false
is_handed (Ok Wait) = false
is_handed (Err r) = false

-- the answer to a call with the bytes s, whether it handed a capsule out, and how many bytes it took
pub record AnswersPiece (m : Memory) (s : List ℕ) (o : Output) (before : List ℕ) (r : Stepped) (later : Memory) (after : List ℕ) : Type 0 where
  pub answer : Appends (said_answer (stepped m s).said) o before r.output after
  pub taken : r.taken ≡ (stepped m s).taken
  pub handed : r.handed ≡ is_handed (handed_call (stepped m s).said)
  pub memory : later ≡ (stepped m s).memory
