-- A capsule that a call hands out: how many bytes it takes, how long its answer is, and that nothing is kept behind it. Assumes nothing.
use Rattle.std.proofs.Common.{Result, Ok, Err}
use Prim.Native.Nat.{ℕ, zero, suc, ◌+◌, ◌-◌, ◌*◌, ◌<◌, ◌≤◌}
use mathlib.Core.Bool.{Bool, true, false}
use mathlib.Core.Path.{◌≡◌, refl, sym, ap, ◌∙◌}
use mathlib.Core.List.{List, [], ◌∷◌, ◌++◌}
use native.Mathlib.Omega.{arith}
use borrow.Author.Tests.{ltb-false, not-false}
use lib.Dec.{ltb, eqb}
use lib.ListN.{length, length-append}
use Rattle.answer.specs.declared.Refusal.{Refusal}
use Rattle.answer.specs.declared.Refusal.TheVariants.{NoRoom}
use Rattle.answer.specs.Choice.{pick}
use Rattle.answer.specs.Number.{number_of}
use Rattle.answer.specs.Verdict.{output_of, ◌⇒◌}
use Rattle.answer.proofs.Tables.{go-at}
use Rattle.capsule.specs.Capsules.{Capsule, unknown, max_value, Reading, refused, capsule, read_capsule}
use Rattle.capsule.proofs.ReadLaws.{read-within}
use Rattle.capsule.proofs.FrontLaws.{ends-behind}
use Rattle.capsule_write.specs.Verdicts.{capsule_room}
use Rattle.state.specs.State.{state_words}
use Rattle.exchange.specs.Reading.{taken}
use Rattle.stream.specs.Store.{Store, empty, Said, out, wait, Fed, waiting, waits, remembers, sound_store, on_reading, feed_open, feed_live, feed_store}
use Rattle.stream.specs.Feeding.{store_in, feed_tests, fed, on_out}
use Rattle.stream.specs.Handing.{contents, hand_verdict}
use Rattle.stream.proofs.StepLaws.{Open, store_open}
use Rattle.stream.proofs.StoreLaws.{stored, length_stored, store_stored}
use Rattle.stream.proofs.FeedLaws.{length_taken}
use Rattle.van_box.specs.Sizes.{answer_head, answers_share}
use Rattle.van_box.specs.Records.{Memory, Step, step_of, stepped}
use Rattle.van_box.proofs.Shares.{capsule-share, capsule-most}

-- the bytes t were given to the store k, and the capsule c came to its end
pub record Ends (k : Store) (t : List ℕ) (c : Capsule) (f : Fed) : Type 0 where
  pub some : 0 < f.taken
  pub within : f.taken ≤ length t
  pub most : length (contents c) ≤ max_value
  -- nothing of it was kept
  pub share : k ≡ empty → answer_head + length (contents c) ≤ answers_share * f.taken
  pub none : f.store ≡ empty

waiting_no_out : (s : List ℕ) (c : Capsule) → waiting s ≡ out c → ⊥
waiting_no_out [] c e = let y : ◌≡◌ {A = ℕ} 0 1 = cc in omega arith
waiting_no_out (b ∷ s) c e = let y : ◌≡◌ {A = ℕ} 0 1 = cc in omega arith

module _ (k : Store) (t : List ℕ) (c : Capsule) (o : Open k) where
  -- bytes are kept
  on-refused : (r : Refusal) (b : Bool) → (pick b (waits (length t) (k.kept ++ t)) (remembers k r)).said ≡ out c → ⊥
  on-refused r true h = waiting_no_out (k.kept ++ t) c h
  on-refused r false h = let y : ◌≡◌ {A = ℕ} 0 1 = cc in omega arith

  read_whole : k.skip ≡ 0 → (start size : ℕ) → read_capsule (k.kept ++ t) ≡ capsule c start size
      → Ends k t c (record { said = out c; taken = size - length k.kept; store = empty })
  read_whole z start size e =
      let p = ends-behind k.kept t c start size (o.waits z) e in
      let w = read-within (k.kept ++ t) c start size e in
      record {
        some = omega (arith, p);
        within = omega (arith, p, w.1, length-append k.kept t);
        most = capsule-most (k.kept ++ t) c start size e;
        share = λ x.
            let l : length k.kept ≡ 0 = ap (λ (y : Store). length y.kept) x in
            let n : size - length k.kept ≡ size = omega arith in
            omega (arith, capsule-share (k.kept ++ t) c start size e);
        none = refl;
      }

  on-reading : k.skip ≡ 0 → (r : Reading) → read_capsule (k.kept ++ t) ≡ r → (on_reading k (length t) (k.kept ++ t) r).said ≡ out c
      → Ends k t c (on_reading k (length t) (k.kept ++ t) r)
  on-reading z (refused r) e h = absurd (on-refused r (eqb (number_of r) 1) h)
  on-reading z (capsule d start size) e h =
      let q : d ≡ c = cc in
      rw q (read_whole z start size (e ∙ ap (λ (x : Capsule). capsule x start size) q))

  -- the capsule is skipped
  abbrev skipped : ℕ → Bool → Fed
  skipped n b =
      pick b (record { said = wait; taken = length t; store = record { kept = []; skip = n - length t; stopped = (Ok tt) } })
      (record { said = out unknown; taken = n; store = empty })

  on-skip : (n : ℕ) → k.skip ≡ suc n → (b : Bool) → ltb (length t) (suc n) ≡ b → (skipped (suc n) b).said ≡ out c → Ends k t c (skipped (suc n) b)
  on-skip n e true g h = let y : ◌≡◌ {A = ℕ} 0 1 = cc in absurd (omega arith)
  on-skip n e false g h =
      let q : unknown ≡ c = cc in
      rw (← q)
      (record {
        some = omega arith;
        within = ltb-false (length t) (suc n) g;
        most = omega arith;
        share = λ x. let z : k.skip ≡ 0 = ap (λ (y : Store). y.skip) x in absurd (omega arith);
        none = refl;
      })

  on_open : (n : ℕ) → k.skip ≡ n → (feed_open k t n).said ≡ out c → Ends k t c (feed_open k t n)
  on_open zero e h = on-reading e (read_capsule (k.kept ++ t)) refl h
  on_open (suc n) e h = on-skip n e (ltb (length t) (suc n)) refl h

  on-live : (v : Result Unit Refusal) → (feed_live k t v).said ≡ out c → Ends k t c (feed_live k t v)
  on-live (Ok _) h = on_open k.skip refl h
  on-live (Err r) h = let y : ◌≡◌ {A = ℕ} 0 1 = cc in absurd (omega arith)

  fed-ends : (feed_store k t).said ≡ out c → Ends k t c (feed_store k t)
  unfolding feed_store
  fed-ends h = on-live k.stopped h

-- ---- a call over the memory
module _ (m : Memory) (s : List ℕ) (c : Capsule) (h : (stepped m s).said ≡ out c) where
  abbrev k : Store
  k = store_in m.state m.bytes

  abbrev f : Fed
  f = fed m.state m.bytes s

  sound-store : hand_verdict m.state m.bytes capsule_room ≡ Ok tt → sound_store k ≡ true
  unfolding feed_tests
  sound-store e = not-false (sound_store k) (go-at ((ltb capsule_room capsule_room ⇒ NoRoom) ∷ feed_tests m.state m.bytes capsule_room) (false ⇒ NoRoom) 3 e (omega arith))

  went : hand_verdict m.state m.bytes capsule_room ≡ Ok tt
  unfolding stepped
  went = of (hand_verdict m.state m.bytes capsule_room) h
    where
      of : (v : Result Unit Refusal) → (step_of v m f).said ≡ out c → v ≡ Ok tt
      of (Ok _) g = refl
      of (Err r) g = let y : ◌≡◌ {A = ℕ} 0 1 = cc in absurd (omega arith)

  stepped-go : stepped m s ≡ step_of (Ok tt) m f
  unfolding stepped
  stepped-go = ap (λ (v : Result Unit Refusal). step_of v m f) went

  said-out : f.said ≡ out c
  said-out = sym (ap (λ (x : Step). x.said) stepped-go) ∙ h

  ends : Ends k s c f
  ends = fed-ends k s c (store_open k (sound-store went)) said-out

  took : (stepped m s).taken ≡ f.taken
  took = ap (λ (x : Step). x.taken) stepped-go

  pub step-moves : 0 < (stepped m s).taken
  step-moves = omega (arith, took, ends.some)

  pub step-within : (stepped m s).taken ≤ length s
  step-within = omega (arith, took, ends.within)

  pub step-most : length (contents c) ≤ max_value
  step-most = ends.most

  pub step-share : k ≡ empty → answer_head + length (contents c) ≤ answers_share * (stepped m s).taken
  step-share e = omega (arith, took, ends.share e)

  pub step-size : length m.state ≡ state_words → length (stepped m s).memory.state ≡ state_words
  step-size l =
      ap (λ (x : Step). length x.memory.state) stepped-go
      ∙ ap (λ (x : Said). length (stored (on_out (taken m.state) m.state x) f.store)) said-out
      ∙ length_stored (taken m.state c) f.store (length_taken m.state c (omega arith) ∙ l)

  -- nothing is kept behind it
  pub step-empties : length m.state ≡ state_words → store_in (stepped m s).memory.state (stepped m s).memory.bytes ≡ empty
  step-empties l =
      let w = taken m.state c in
      ap (λ (x : Step). store_in x.memory.state x.memory.bytes) stepped-go
      ∙ ap (λ (x : Said). store_in (stored (on_out (taken m.state) m.state x) f.store) (output_of (Ok tt) f.store.kept m.bytes)) said-out
      ∙ ap (λ (x : Store). store_in (stored w x) (output_of (Ok tt) x.kept m.bytes)) ends.none
      ∙ store_stored w empty (length_taken m.state c (omega arith) ∙ l) m.bytes refl
