-- The store's own test by its cases, and the number that is no refusal's. Assumes nothing.
use Rattle.std.proofs.Common.{Err}
use Prim.Native.Nat.{ℕ, ◌+◌, ◌≤◌, ◌<◌}
use mathlib.Core.Bool.{Bool, false, ◌&&◌, and-true, and-false}
use mathlib.Core.Path.{◌≡◌, sym, ap, ◌∙◌}
use mathlib.Core.List.{List}
use mathlib.Core.Logic.{◌⊎◌, inl, inr, ⊎_elim}
use native.Mathlib.Omega.{arith}
use borrow.Author.Tests.{lt-ltb, le-ltb, eq-eqb, ne_eqb, eqb-true}
use lib.Dec.{ltb, eqb}
use lib.ListN.{length, get_or, take, length-take}
use lib.Seq.{take_all}
use Rattle.answer.specs.declared.Refusal.TheVariants.{Incomplete}
use Rattle.answer.specs.Choice.{pick}
use Rattle.answer.proofs.Tests.{only_false, order}
use Rattle.octets.specs.Big.{Bytes}
use Rattle.varint.specs.Numbers.{limit}
use Rattle.state.specs.State.{store_at}
use Rattle.stream.specs.Store.{sound_store}
use Rattle.stream.specs.Feeding.{kept_size, remembered_by, store_in}
use Rattle.stream.specs.Inner.{is_open, Judged}
use Rattle.stream.proofs.StoreLaws.{remembered-sound, remembered-broken}
use Rattle.stream.proofs.StepLaws.{store_open, open_within}

-- a number that no refusal has
pub remembered-none : (n : ℕ) → (n ≡ 0 → ⊥) → (n ≡ 2 → ⊥) → (n ≡ 3 → ⊥) → (n ≡ 4 → ⊥) → (n ≡ 5 → ⊥) → (n ≡ 6 → ⊥) → (n ≡ 7 → ⊥)
    → Err Incomplete ≡ remembered_by n
remembered-none n a b c d e f g =
    sym (rw (ne_eqb n 0 a, ne_eqb n 2 b, ne_eqb n 3 c, ne_eqb n 4 d, ne_eqb n 5 e, ne_eqb n 6 f, ne_eqb n 7 g))

-- ---- the test
module _ (w held : List ℕ) where
  abbrev kept : List ℕ
  kept = take (get_or w store_at 0) held

  abbrev rules : Bool
  rules = pick (eqb (get_or w (store_at + 1) 0) 0) (is_open kept) (eqb (length kept) 0 && ltb (get_or w (store_at + 1) 0) limit)

  refused : false ≡ sound_store (store_in w held) → Judged w held false
  refused e = record { answer = e; within = λ h. let y : ◌≡◌ {A = ℕ} 0 1 = cc in absurd (omega arith) }

  bad-number : (get_or w (store_at + 2) 0 ≡ 1) ⊎ (7 < get_or w (store_at + 2) 0) → Judged w held false
  unfolding sound_store
  bad-number e = refused (sym (ap (λ (b : Bool). rules && b) (remembered-broken (get_or w (store_at + 2) 0) e) ∙ and-false rules))

  pub judged-one : get_or w (store_at + 2) 0 ≡ 1 → Judged w held false
  judged-one e = bad-number (inl e)

  pub judged-over : 7 < get_or w (store_at + 2) 0 → Judged w held false
  judged-over h = bad-number (inr h)

  module _ (room : length held ≡ kept_size) (one : get_or w (store_at + 2) 0 ≡ 1 → ⊥) (most : get_or w (store_at + 2) 0 ≤ 7) where
    by_rules : {r : Bool} → r ≡ rules → r ≡ sound_store (store_in w held)
    unfolding sound_store
    by_rules e =
        e ∙ sym (ap (λ (b : Bool). rules && b) (remembered-sound (get_or w (store_at + 2) 0) most one) ∙ and-true rules)

    module _ (some : 0 < get_or w (store_at + 1) 0) where
      skips : rules ≡ (eqb (length kept) 0 && ltb (get_or w (store_at + 1) 0) limit)
      skips = rw (ne_eqb (get_or w (store_at + 1) 0) 0 (λ z. omega arith))

      pub judged_far : limit ≤ get_or w (store_at + 1) 0 → Judged w held false
      judged_far h =
          refused (by_rules (sym (skips ∙ rw (le-ltb (get_or w (store_at + 1) 0) limit h) (and-false (eqb (length kept) 0)))))

      pub judged-skip : get_or w (store_at + 1) 0 < limit → Judged w held (eqb (get_or w store_at 0) 0)
      judged-skip h =
          record {
            answer =
                by_rules
                (⊎_elim
                (λ (p : 0 < get_or w store_at 0).
                let l : 0 < length kept = rw (length-take (get_or w store_at 0) held) (omega arith) in
                ne_eqb (get_or w store_at 0) 0 (λ z. omega arith)
                ∙ sym (skips ∙ rw (ne_eqb (length kept) 0 (λ z. omega arith))))
                (λ (p : get_or w store_at 0 ≤ 0).
                let z : get_or w store_at 0 ≡ 0 = omega arith in
                let l : length kept ≡ 0 = rw z in
                eq-eqb (get_or w store_at 0) 0 z ∙ sym (skips ∙ rw (eq-eqb (length kept) 0 l) (lt-ltb (get_or w (store_at + 1) 0) limit h)))
                (order 0 (get_or w store_at 0)));
            within = λ e. let z = eqb-true (get_or w store_at 0) 0 e in omega arith;
          }

    module _ (none : get_or w (store_at + 1) 0 ≤ 0) where
      opens : rules ≡ is_open kept
      opens = rw (eq-eqb (get_or w (store_at + 1) 0) 0 (omega arith))

      -- an open capsule keeps fewer bytes
      pub judged-full : Bytes held → kept_size ≤ get_or w store_at 0 → Judged w held false
      judged-full h l =
          refused
          (sym
          (only_false (sound_store (store_in w held))
          (λ e.
          let q : take (get_or w store_at 0) held ≡ held = take_all (get_or w store_at 0) held (omega arith) in
          let b : Bytes kept = rw q h in
          let p = open_within (store_in w held) (store_open (store_in w held) e) b in
          let z : length kept ≡ length held = ap length q in
          omega arith)))

      pub judged_open : {r : Bool} → get_or w store_at 0 < kept_size → r ≡ is_open kept → Judged w held r
      judged_open h e = record { answer = by_rules (e ∙ sym opens); within = λ z. h }
