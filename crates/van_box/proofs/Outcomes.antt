-- What each kind of record leaves, from what its library function promises and the head in front. A verdict is the same for every larger room.
-- Assumes nothing.
use Rattle.std.proofs.Common.{Result, Ok, Err, ℕ}
use Prim.Native.Nat.{ℕ, ◌+◌, ◌-◌, ◌≤◌}
use mathlib.Core.Bool.{Bool}
use mathlib.Core.Path.{◌≡◌, refl, sym, ap, ◌∙◌}
use mathlib.Core.List.{List, []}
use native.Mathlib.Omega.{arith}
use borrow.Author.Tests.{le-ltb, ne_eqb}
use lib.ListN.{length, length-take, length-drop}
use borrow.Rule.Slice.PartMut.{put_mid}
use Rattle.answer.specs.declared.Refusal.{Refusal}
use Rattle.answer.specs.Verdict.{output_of, kept, Writes}
use Rattle.output.proofs.Placing.{lent}
use Rattle.capsule.specs.Capsules.{max_value}
use Rattle.capsule_write.specs.Verdicts.{capsule_room, with_room}
use Rattle.state.specs.State.{State}
use Rattle.state.specs.Loading.{LoadsPlan}
use Rattle.exchange.specs.Writing.{Gives, AssignsValue, AdvertisesValue, RequestsValue}
use Rattle.stream.specs.declared.feeding.Piece.{Piece}
use Rattle.stream.specs.Store.{Said, out, clean, wait, no, Fed}
use Rattle.stream.specs.Feeding.{store_in, feed_tests, fed, on_out, state_fed, call_of, piece_with, piece_of, call_by, taken_by}
use Rattle.stream.specs.Handing.{contents, hand_verdict, handed_call, handed_piece, HandsOn}
use Rattle.stream.proofs.FeedLaws.{call-with, takes}
use Rattle.tunnel.specs.Tunnel.{send_room, receive_room, send_tests, send_verdict, receive_tests, receive_verdict, Sends, Receives}
use Rattle.van_box.specs.declared.outgoing.Output.{Output}
use Rattle.van_box.specs.Sizes.{answer_head, answer_room}
use Rattle.van_box.specs.Outgoing.{unknown_answer, Appends, PutsHead}
use Rattle.van_box.specs.Records.{stream_kind, plan_kind, assign_kind, advertise_kind, request_kind, packet_kind, datagram_kind}
use Rattle.van_box.specs.Records.{Memory, memory, Outcome, leaving, beside, sent_answer, received_answer, request_answer, plan_outcome, giving, assign_outcome, advertise_outcome}
use Rattle.van_box.specs.Records.{Step, step_of, stepped, said_verdict, call_answer, is_handed, stream_outcome, outcome, Answers, AnswersPiece}
use Rattle.van_box.proofs.Heads.{answered, head_done, head-refused}

-- ---- verdicts in a larger room
send_room_lem : (s : State) (p : List ℕ) (n : ℕ) → capsule_room ≤ n → send_verdict s p n ≡ send_verdict s p capsule_room
unfolding send_verdict send_tests
send_room_lem s p n h = rw (le-ltb n send_room (omega arith))

receive_room_lem : (s : State) (d : List ℕ) (n : ℕ) → capsule_room ≤ n → receive_verdict s d n ≡ receive_verdict s d capsule_room
unfolding receive_verdict receive_tests
receive_room_lem s d n h = rw (le-ltb n receive_room (omega arith))

capsule-room : (v : Result Unit Refusal) (n : ℕ) → capsule_room ≤ n → with_room n v ≡ with_room capsule_room v
unfolding with_room
capsule-room v n h = rw (le-ltb n capsule_room h)

hand_room : (w held : List ℕ) (n : ℕ) → capsule_room ≤ n → hand_verdict w held n ≡ hand_verdict w held capsule_room
unfolding feed_tests
hand_room w held n h = rw (le-ltb n capsule_room h, le-ltb n max_value (omega arith))

writes_as : {u v : Result Unit Refusal} {m before after : List ℕ} {r : Result ℕ Refusal} → u ≡ v → Writes u m before r after → Writes v m before r after
writes_as e w = rw e at w

-- ---- a call: its answer, what it takes and leaves are those of its step
module _ (m : Memory) (f : Fed) where
  piece_writes : (v : Result Unit Refusal) (before : List ℕ)
      → Writes (said_verdict (step_of v m f).said) (on_out contents [] (step_of v m f).said) before (call_answer (call_by (handed_piece v f)))
      (output_of v (on_out contents [] f.said) before)
  piece_writes (Ok _) before = of f.said
    where
      of : (x : Said) → Writes (said_verdict x) (on_out contents [] x) before (call_answer (call_by (piece_with f.taken (handed_call x)))) (output_of (Ok tt) (on_out contents [] x) before)
      of (out c) = record { answer = refl; output = refl }
      of clean = record { answer = refl; output = refl }
      of wait = record { answer = refl; output = refl }
      of (no r) = record { answer = refl; output = refl }
  piece_writes (Err r) before = record { answer = refl; output = refl }

  -- the same bytes, whatever is handed back of a capsule
  alike_taken : (n : ℕ) (x : Said) → taken_by (piece_with n (handed_call x)) ≡ taken_by (piece_with n (call_of x))
  alike_taken n (out c) = refl
  alike_taken n clean = refl
  alike_taken n wait = refl
  alike_taken n (no r) = refl

  piece_taken : taken_by (piece_of (Ok tt) f) ≡ f.taken → (v : Result Unit Refusal) → taken_by (handed_piece v f) ≡ (step_of v m f).taken
  piece_taken e (Ok _) = alike_taken f.taken f.said ∙ e
  piece_taken e (Err r) = refl

  piece_handed : (v : Result Unit Refusal) → is_handed (call_by (handed_piece v f)) ≡ is_handed (handed_call (step_of v m f).said)
  piece_handed (Ok _) = ap is_handed (call-with f.taken (handed_call f.said))
  piece_handed (Err r) = refl

  piece_memory : (v : Result Unit Refusal) → memory (kept v (state_fed m.state f) m.state) (output_of v f.store.kept m.bytes) ≡ (step_of v m f).memory
  piece_memory (Ok _) = refl
  piece_memory (Err r) = refl

-- ---- a function that writes to `&mut out[start..]`
module _ (o : Output) (out : List ℕ) (room : o.used + answer_room ≤ length out) where
  abbrev start : ℕ
  start = o.used + answer_head

  roomy : capsule_room ≤ length (lent start out)
  roomy = simp (length-take, length-drop) (omega arith)

  abbrev Back : List ℕ → List ℕ
  Back b = put_mid start (length out - start) out b

  module _ {b after : List ℕ} {a : Result ℕ Refusal} {r : Output} (k : length b ≡ length (lent start out)) where
    pub sent : {w p : List ℕ} → Sends w p (lent start out) a b → PutsHead packet_kind a o (Back b) r after → Appends (sent_answer w p) o out r after
    unfolding sent_answer
    sent t q = answered packet_kind o out (omega arith) (writes_as (send_room_lem _ _ _ roomy) t.writes) k q

    pub received-packet : {w d : List ℕ} → Receives w d (lent start out) a b → PutsHead datagram_kind a o (Back b) r after
        → Appends (received_answer w d) o out r after
    unfolding received_answer
    received-packet t q = answered datagram_kind o out (omega arith) (writes_as (receive_room_lem _ _ _ roomy) t.writes) k q

    pub requested : (v : List ℕ) → RequestsValue v (lent start out) a b → PutsHead request_kind a o (Back b) r after
        → Appends (request_answer v) o out r after
    unfolding request_answer
    requested v t q = answered request_kind o out (omega arith) (writes_as (capsule-room _ _ roomy) t) k q

    given : {kind : ℕ} {u v : Result Unit Refusal} {m new w later : List ℕ} → u ≡ v → Gives u m new w (lent start out) a later b
        → PutsHead kind a o (Back b) r after → Answers (giving kind v m new w) o out r later after
    given {kind} {new = new} {w = w} e t q =
        record {
          answers = answered kind o out (omega arith) (writes_as e t.writes) k q;
          left = t.state ∙ ap (λ (x : Result Unit Refusal). kept x new w) e;
        }

    pub assigned : (w v : List ℕ) {later : List ℕ} → AssignsValue w v (lent start out) a later b → PutsHead assign_kind a o (Back b) r after
        → Answers (assign_outcome w v) o out r later after
    unfolding assign_outcome
    assigned w v t q = given (capsule-room _ _ roomy) t q

    pub advertised : (w v : List ℕ) {later : List ℕ} → AdvertisesValue w v (lent start out) a later b → PutsHead advertise_kind a o (Back b) r after
        → Answers (advertise_outcome w v) o out r later after
    unfolding advertise_outcome
    advertised w v t q = given (capsule-room _ _ roomy) t q

  -- ---- a call with bytes of the stream
  abbrev verdict : List ℕ → List ℕ → Result Unit Refusal
  verdict w held = hand_verdict w held (length (lent start out))

  same_step : (w held s : List ℕ) → step_of (verdict w held) (memory w held) (fed w held s) ≡ stepped (memory w held) s
  unfolding stepped
  same_step w held s = ap (λ (v : Result Unit Refusal). step_of v (memory w held) (fed w held s)) (hand_room w held _ roomy)

  module _ {w held s : List ℕ} {x : Result Piece Refusal} {a : Result ℕ Refusal} {later holds b : List ℕ} (t : HandsOn w held s (lent start out) x later holds b)
      (e : a ≡ call_answer (call_by x)) where
    pub handed-writes : Writes (said_verdict (stepped (memory w held) s).said) (on_out contents [] (stepped (memory w held) s).said) (lent start out) a b
    handed-writes =
        rw (e, t.answer, t.output, ← same_step w held s) (piece_writes (memory w held) (fed w held s) (verdict w held) (lent start out))

    pub handed-on : {n : ℕ} {h : Bool} {after : List ℕ} {r : Output} → n ≡ taken_by x → h ≡ is_handed (call_by x) → length b ≡ length (lent start out)
        → PutsHead stream_kind a o (Back b) r after
        → AnswersPiece (memory w held) s o out (record { output = r; taken = n; handed = h }) (memory later holds) after
    handed-on z g k q =
        let f = same_step w held s in
        record {
          answer = answered stream_kind o out (omega arith) handed-writes k q;
          taken = z ∙ ap taken_by t.answer ∙ piece_taken (memory w held) (fed w held s) (takes (store_in w held) s) (verdict w held) ∙ ap (λ (y : Step). y.taken) f;
          handed = g ∙ ap (λ (y : Result Piece Refusal). is_handed (call_by y)) t.answer ∙ piece_handed (memory w held) (fed w held s) (verdict w held) ∙ ap (λ (y : Step). is_handed (handed_call y.said)) f;
          memory = rw (t.state, t.bytes) (piece_memory (memory w held) (fed w held s) (verdict w held)) ∙ ap (λ (y : Step). y.memory) f;
        }

-- ---- a plan file: its answer is a head alone
module _ {file w later out after : List ℕ} {v : Result Unit Refusal} {o r : Output} (t : LoadsPlan file w v later) where
  pub plan-good : v ≡ Ok tt → PutsHead plan_kind (Ok 0) o out r after → Answers (plan_outcome w file) o out r later after
  unfolding plan_outcome
  plan-good e q = rw (sym t.verdict ∙ e) (record { answers = head_done q; left = t.words })

  pub plan-refused : {why : Refusal} → v ≡ Err why → PutsHead plan_kind (Err why) o out r after → Answers (plan_outcome w file) o out r later after
  unfolding plan_outcome
  plan-refused e q = rw (sym t.verdict ∙ e) (record { answers = head-refused q; left = t.words })

-- ---- the outcome of a record by its kind
module _ (kind : ℕ) (m : Memory) (s : List ℕ) where
  pub outcome_stream : kind ≡ stream_kind → outcome kind m s ≡ stream_outcome m s
  unfolding outcome
  outcome_stream e = rw e

  pub outcome-plan : kind ≡ plan_kind → outcome kind m s ≡ beside m.bytes (plan_outcome m.state s)
  unfolding outcome
  outcome-plan e = rw e

  pub outcome-assign : kind ≡ assign_kind → outcome kind m s ≡ beside m.bytes (assign_outcome m.state s)
  unfolding outcome
  outcome-assign e = rw e

  pub outcome-advertise : kind ≡ advertise_kind → outcome kind m s ≡ beside m.bytes (advertise_outcome m.state s)
  unfolding outcome
  outcome-advertise e = rw e

  pub outcome-request : kind ≡ request_kind → outcome kind m s ≡ leaving (request_answer s) m
  unfolding outcome
  outcome-request e = rw e

  pub outcome-packet : kind ≡ packet_kind → outcome kind m s ≡ leaving (sent_answer m.state s) m
  unfolding outcome
  outcome-packet e = rw e

  pub outcome-datagram : kind ≡ datagram_kind → outcome kind m s ≡ leaving (received_answer m.state s) m
  unfolding outcome
  outcome-datagram e = rw e

  pub outcome-unknown : (kind ≡ stream_kind → ⊥) → (kind ≡ plan_kind → ⊥) → (kind ≡ assign_kind → ⊥) → (kind ≡ advertise_kind → ⊥)
      → (kind ≡ request_kind → ⊥) → (kind ≡ packet_kind → ⊥) → (kind ≡ datagram_kind → ⊥) → outcome kind m s ≡ leaving unknown_answer m
  unfolding outcome
  outcome-unknown a b c d e f g =
      rw (
        ne_eqb kind stream_kind a,
        ne_eqb kind plan_kind b,
        ne_eqb kind assign_kind c,
        ne_eqb kind advertise_kind d,
        ne_eqb kind request_kind e,
        ne_eqb kind packet_kind f,
        ne_eqb kind datagram_kind g,
      )

module _ {y : Outcome Memory} {o r : Output} {before after : List ℕ} where
  pub answers_as : {x : Outcome Memory} {later : Memory} → y ≡ x → Answers x o before r later after → Answers y o before r later after
  answers_as e t = rw e t

  -- the kept bytes stay
  pub answers-beside : {x : Outcome (List ℕ)} {held later : List ℕ} → y ≡ beside held x → Answers x o before r later after
      → Answers y o before r (memory later held) after
  answers-beside {held = held} e t = rw e (record { answers = t.answers; left = ap (λ (w : List ℕ). memory w held) t.left })

  -- the memory stays
  pub answers-alone : {a : List ℕ} {m : Memory} → y ≡ leaving a m → Appends a o before r after → Answers y o before r m after
  answers-alone e t = rw e (record { answers = t; left = refl })

-- the cases of a record's kind, and what its function promises
pub ruleset record_cases = (outcome_stream, outcome-plan, outcome-assign, outcome-advertise, outcome-request, outcome-packet, outcome-datagram, outcome-unknown, answers_as, answers-beside, answers-alone)
