-- What each step of judging a datagram and its packet gives. Assumes nothing.
use Rattle.std.proofs.Common.{Result, Ok, Err, ℕ}
use Prim.Native.Nat.{ℕ, ◌≤◌, ◌<◌}
use mathlib.Core.Path.{◌≡◌, refl, sym, ap, ◌∙◌}
use mathlib.Core.Bool.{Bool, true, false}
use mathlib.Core.List.{List, ◌++◌}
use borrow.Author.Tests.{lt-ltb, le-ltb}
use lib.ListN.{length, take, drop}
use lib.Seq.{take-length}
use Rattle.answer.specs.declared.Refusal.{Refusal}
use Rattle.answer.specs.declared.Refusal.TheVariants.{BrokenState, NoRoom}
use Rattle.answer.specs.Verdict.{first_of}
use Rattle.state.specs.State.{State, sound_state, state_in}
use Rattle.output.specs.Places.{Put}
use Rattle.template.specs.Datagrams.{Opened, refused, packet}
use Rattle.tunnel.specs.Tunnel.{receive_room, receive_tests, packet_tests, received_bytes, Receives}
use Rattle.tunnel.specs.Opening.{opened_in, Takes}
use Rattle.tunnel.proofs.SendingSteps.{writes-stop, writes_go}
use Rattle.tunnel.proofs.ReceivingLaws.{StateGo, receive_opened}

-- ---- the state

module _ (s : State) (n : ℕ) where
  pub state-room : n < receive_room → Err NoRoom ≡ first_of (receive_tests s n)
  unfolding receive_tests
  state-room h = rw (lt-ltb n receive_room h)

  module _ (h : receive_room ≤ n) {b : Bool} (e : b ≡ sound_state s) where
    pub state-broken : b ≡ false → Err BrokenState ≡ first_of (receive_tests s n)
    unfolding receive_tests
    state-broken f = rw (le-ltb n receive_room h, sym e ∙ f)

    pub state-sound : b ≡ true → (Ok tt) ≡ first_of (receive_tests s n)
    unfolding receive_tests
    state-sound f = rw (le-ltb n receive_room h, sym e ∙ f)

-- ---- the packet that was judged

module _ (w q : List ℕ) {v : Result Unit Refusal} {out : List ℕ} where
  pub judged-stop : v ≡ first_of (packet_tests (state_in w) q) → {r : Refusal} → v ≡ Err r → Takes w (packet q) out (Err r) out
  judged-stop e f = record { writes = writes-stop (sym e ∙ f) }

  -- it is put to the front of out
  pub judged-put : v ≡ first_of (packet_tests (state_in w) q) → v ≡ Ok tt → {out' : List ℕ} {n : ℕ} → Put q 0 out n out' → Takes w (packet q) out (Ok n) out'
  judged-put e f k = record { writes = writes_go (sym e ∙ f) k }

  -- or copied there
  pub judged-copied : v ≡ first_of (packet_tests (state_in w) q) → v ≡ Ok tt → {out' : List ℕ} {n : ℕ} → n ≡ length q → out' ≡ take (length q) q ++ drop (length q) out
      → Takes w (packet q) out (Ok n) out'
  judged-copied e f l k =
      record {
        writes = rw (sym e ∙ f) (record { answer = ap Ok l; output = k ∙ ap (λ (x : List ℕ). x ++ drop (length q) out) (take-length q) });
      }

-- ---- what was opened

module _ (w : List ℕ) {o : Opened} {out : List ℕ} where
  pub takes_refused : {r : Refusal} → o ≡ refused r → Takes w o out (Err r) out
  takes_refused e = rw e (record { writes = record { answer = refl; output = refl } })

  -- the same of what is equal
  pub takes_as : {p : Opened} → o ≡ p → {r : Result ℕ Refusal} {out' : List ℕ} → Takes w p out r out' → Takes w o out r out'
  takes_as e k = rw e k

-- with a sound state and room it is what is received
pub receive_taken : (w d : List ℕ) {out out' : List ℕ} {r : Result ℕ Refusal} → StateGo (state_in w) (length out) → Takes w (opened_in w d) out r out'
    → Receives w d out r out'
unfolding received_bytes
receive_taken w d {out} g k = record { writes = rw (receive_opened (state_in w) d (length out) g) k.writes }
