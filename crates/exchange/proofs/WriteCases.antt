-- The ways out of writing a capsule: too small an output, a broken state, and then as the list. Assumes nothing.
use Rattle.std.proofs.Common.{Result, Ok, Err, ℕ}
use Prim.Native.Nat.{ℕ, ◌<◌, ◌≤◌}
use mathlib.Core.Bool.{Bool, true, false, not}
use mathlib.Core.Path.{◌≡◌, refl, sym, ap, ◌∙◌}
use mathlib.Core.List.{List}
use native.Mathlib.Omega.{arith}
use lib.Dec.{ltb}
use lib.ListN.{length}
use Rattle.answer.specs.declared.Refusal.{Refusal}
use Rattle.answer.specs.declared.Refusal.TheVariants.{NoRoom, BrokenState}
use Rattle.answer.specs.Verdict.{stop_if, answer_of, kept, Writes}
use Rattle.lists.specs.declared.AddressEntry.{AddressEntry}
use Rattle.lists.specs.Words.{entries_of, pack_entries}
use Rattle.capsule.specs.Elements.{parsed_verdict, elements_of}
use Rattle.capsule.specs.Capsules.{request, capsule_bytes, entries_in}
use Rattle.capsule_write.specs.Verdicts.{capsule_room, with_room, entries_verdict, RequestWritten}
use Rattle.capsule_write.proofs.Frames.{refused, no_room, room_says}
use Rattle.capsule_write.proofs.Accepted.{room_go}
use Rattle.state.specs.State.{state_in, sound_state}
use Rattle.exchange.specs.Writing.{with_state, ready, Gives}
use Rattle.exchange.specs.Writing.{RequestsValue}
use Rattle.exchange.specs.Taken.{taken-entries-go, taken-entries}

-- ---- before the list is looked at
module _ (n : ℕ) (w : List ℕ) where
  pub ready_no_room : n < capsule_room → Err NoRoom ≡ ready n w (Ok tt)
  ready_no_room h = sym (no_room n (with_state w (Ok tt)) h)

  module _ (h : capsule_room ≤ n) where
    pub ready-broken : sound_state (state_in w) ≡ false → Err BrokenState ≡ ready n w (Ok tt)
    unfolding with_state
    ready-broken f = sym (room_says n (with_state w (Ok tt)) h refl (rw f))

    pub ready-goes : sound_state (state_in w) ≡ true → (Ok tt) ≡ ready n w (Ok tt)
    unfolding with_state
    ready-goes f = sym (room_says n (with_state w (Ok tt)) h refl (rw f))

  module _ (v : Result Unit Refusal) where
    -- a refusal comes before that of the list
    pub ready-stops : {why : Refusal} → ready n w (Ok tt) ≡ Err why → ready n w v ≡ Err why
    unfolding with_room with_state
    ready-stops e = of (ltb n capsule_room) (not (sound_state (state_in w))) e
      where
        of : (a b : Bool) {why : Refusal} → stop_if a NoRoom (stop_if b BrokenState (Ok tt)) ≡ Err why → stop_if a NoRoom (stop_if b BrokenState v) ≡ Err why
        of true b q = q
        of false true q = q
        of false false q = let z : ◌≡◌ {A = ℕ} 0 1 = cc in absurd (omega arith)

    -- and else the list decides
    pub ready-says : ready n w (Ok tt) ≡ Ok tt → ready n w v ≡ v
    unfolding with_room with_state
    ready-says e = of (ltb n capsule_room) (not (sound_state (state_in w))) e
      where
        of : (a b : Bool) → stop_if a NoRoom (stop_if b BrokenState (Ok tt)) ≡ Ok tt → stop_if a NoRoom (stop_if b BrokenState v) ≡ v
        of true b q = let z : ◌≡◌ {A = ℕ} 0 1 = cc in absurd (omega arith)
        of false true q = let z : ◌≡◌ {A = ℕ} 0 1 = cc in absurd (omega arith)
        of false false q = refl

  pub ready-room : ready n w (Ok tt) ≡ Ok tt → capsule_room ≤ n
  ready-room e = (room_go n (with_state w (Ok tt)) e).0

-- ---- the state beside an answer
module _ {v : Result Unit Refusal} {m new w before after : List ℕ} where
  -- the message was written, and the list stored
  pub gives_done : {r : Result ℕ Refusal} {n : ℕ} {left : List ℕ} → Writes v m before r after → r ≡ Ok n → left ≡ new → Gives v m new w before (Ok n) left after
  gives_done {r} {n} {left} t e s = record { writes = rw e at t; state = s ∙ of v (sym t.answer ∙ e) }
    where
      of : (u : Result Unit Refusal) → answer_of u (length m) ≡ Ok n → new ≡ kept u new w
      of (Ok _) q = refl
      of (Err y) q = let z : ◌≡◌ {A = ℕ} 0 1 = cc in absurd (omega arith)

  pub gives_refused : {r : Result ℕ Refusal} {why : Refusal} → Writes v m before r after → r ≡ Err why → Gives v m new w before (Err why) w after
  gives_refused {r} {why} t e = record { writes = rw e at t; state = of v (sym t.answer ∙ e) }
    where
      of : (u : Result Unit Refusal) → answer_of u (length m) ≡ Err why → w ≡ kept u new w
      of (Ok _) q = let z : ◌≡◌ {A = ℕ} 0 1 = cc in absurd (omega arith)
      of (Err y) q = refl

-- with room, the list alone decides
pub with_room_lem : {v : Result Unit Refusal} {m before after : List ℕ} {r : Result ℕ Refusal} → capsule_room ≤ length before → Writes (with_room (length before) v) m before r after
    → Writes v m before r after
with_room_lem {v} {m} {before} h t = rw (room_says (length before) v h refl refl) at t

pub gives_stopped : {v : Result Unit Refusal} {m new w before : List ℕ} {why : Refusal} → v ≡ Err why → Gives v m new w before (Err why) w before
gives_stopped e = record { writes = refused e; state = rw e }

-- the same by other words for the verdict, the message and the new state
pub gives_as : {u v : Result Unit Refusal} {m k new later w before left after : List ℕ} {r : Result ℕ Refusal} → u ≡ v → m ≡ k → new ≡ later
    → Gives u m new w before r left after → Gives v k later w before r left after
gives_as e f h g = rw (e, f, h) at g

-- ---- a request
module _ (v before : List ℕ) where
  pub request_no_room : length before < capsule_room → RequestsValue v before (Err NoRoom) before
  request_no_room h = refused (no_room (length before) (parsed_verdict (entries_in true v)) h)

  module _ (h : capsule_room ≤ length before) where
    pub request-refused : {why : Refusal} → parsed_verdict (entries_in true v) ≡ Err why → RequestsValue v before (Err why) before
    request-refused e = refused (room_says (length before) (parsed_verdict (entries_in true v)) h refl e)

    pub request-written : {l after : List ℕ} {r : Result ℕ Refusal} → parsed_verdict (entries_in true v) ≡ Ok tt → l ≡ pack_entries (elements_of (entries_in true v))
        → RequestWritten l before r after → RequestsValue v before r after
    request-written e q g =
        rw (
          ap (λ (x : List ℕ). with_room (length before) (entries_verdict true x)) q
              ∙ ap (with_room (length before)) (taken-entries-go true v e ∙ sym e),
          ap (λ (x : List ℕ). capsule_bytes (request (entries_of x))) q ∙ ap (λ (es : List AddressEntry). capsule_bytes (request es)) (taken-entries true v e),
        )
        at g
