-- The store in the words of a state and in the lent bytes: what is stored is read back, and the lists and templates mean what they meant.
-- Assumes nothing.
use Rattle.std.proofs.Common.{Result, Ok, Err}
use Prim.Native.Nat.{ℕ, zero, suc, ◌+◌, ◌≤◌, ◌<◌}
use mathlib.Core.Bool.{true, false}
use mathlib.Core.Path.{◌≡◌, refl, sym, ap, ◌∙◌}
use mathlib.Core.List.{List, [], ◌∷◌, ◌++◌, append_assoc}
use mathlib.Core.Logic.{◌⊎◌, inl, inr, ⊎_elim}
use native.Mathlib.Omega.{arith}
use borrow.Author.Tests.{le-leb, leb-true, ne_eqb}
use lib.Dec.{lit<, leb}
use lib.ListN.{length, get_or, take, drop, take-append-drop}
use lib.Seq.{length-take-le, drop-cons, get_or-take, get_or-drop, take-add, get_or-append-add, take-append_seam}
use Rattle.answer.specs.declared.Refusal.{Refusal}
use Rattle.answer.specs.Number.{number_of, number_of_injective, number_of_positive, verdict_number}
use Rattle.answer.proofs.Tests.{order, and_both}
use Rattle.octets.specs.Parts.{part, with_part}
use Rattle.octets.proofs.Parts.{length_with_part}
use Rattle.state.specs.State.{store_at, store_words, state_words, state_in}
use Rattle.state.proofs.StoreLaws.{store-put}
use Rattle.stream.specs.Store.{Store, sound_stop}
use Rattle.stream.specs.Feeding.{remembered_by, store_in, store_words_of}

-- ---- the refusal that is remembered, by its number

by_number : (n : ℕ) → n ≤ 7 → (n ≡ 1 → ⊥) → verdict_number (remembered_by n) ≡ n
by_number zero h k = refl
by_number (suc zero) h k = absurd (k refl)
by_number (suc (suc zero)) h k = refl
by_number (suc (suc (suc zero))) h k = refl
by_number (suc (suc (suc (suc zero)))) h k = refl
by_number (suc (suc (suc (suc (suc zero))))) h k = refl
by_number (suc (suc (suc (suc (suc (suc zero)))))) h k = refl
by_number (suc (suc (suc (suc (suc (suc (suc zero))))))) h k = refl
by_number (suc (suc (suc (suc (suc (suc (suc (suc n)))))))) h k = absurd (omega arith)

same_number : (a b : Result Unit Refusal) → verdict_number a ≡ verdict_number b → a ≡ b
same_number (Ok _) (Ok _) e = refl
same_number (Ok _) (Err r) e = absurd (omega (arith, number_of_positive r))
same_number (Err r) (Ok _) e = absurd (omega (arith, number_of_positive r))
same_number (Err q) (Err r) e = ap Err (number_of_injective q r e)

stop-number : (v : Result Unit Refusal) → sound_stop v ≡ true → (verdict_number v ≤ 7) × (verdict_number v ≡ 1 → ⊥)
stop-number (Ok _) h = (omega arith, λ e. omega arith)
stop-number (Err r) h =
    let p = and_both (leb 2 (number_of r)) (leb (number_of r) 7) h in
    let a = leb-true 2 (number_of r) p.0 in
    (leb-true (number_of r) 7 p.1, λ e. omega arith)

number-stop : (v : Result Unit Refusal) → verdict_number v ≤ 7 → (verdict_number v ≡ 1 → ⊥) → sound_stop v ≡ true
number-stop (Ok _) h k = refl
number-stop (Err r) h k =
    let a : 2 ≤ number_of r = ⊎_elim (λ l. absurd (k (omega (arith, number_of_positive r)))) (λ l. l) (order (number_of r) 2) in
    rw (le-leb 2 (number_of r) a, le-leb (number_of r) 7 h)

-- the word of a refusal that may be remembered stands for it
pub remembered-back : (v : Result Unit Refusal) → sound_stop v ≡ true → remembered_by (verdict_number v) ≡ v
remembered-back v h = let p = stop-number v h in same_number (remembered_by (verdict_number v)) v (by_number (verdict_number v) p.0 p.1)

-- 0 and 2 to 7 may be remembered, and no other number
pub remembered-sound : (n : ℕ) → n ≤ 7 → (n ≡ 1 → ⊥) → sound_stop (remembered_by n) ≡ true
remembered-sound n h k =
    let e = by_number n h k in
    number-stop (remembered_by n) (omega arith) (λ z. k (sym e ∙ z))

pub remembered-broken : (n : ℕ) → (n ≡ 1) ⊎ (7 < n) → sound_stop (remembered_by n) ≡ false
remembered-broken n (inl e) = rw e
remembered-broken n (inr h) =
    rw (
      ne_eqb n 0 (λ z. omega arith),
      ne_eqb n 2 (λ z. omega arith),
      ne_eqb n 3 (λ z. omega arith),
      ne_eqb n 4 (λ z. omega arith),
      ne_eqb n 5 (λ z. omega arith),
      ne_eqb n 6 (λ z. omega arith),
      ne_eqb n 7 (λ z. omega arith),
    )

pub remembered-number : (n : ℕ) → sound_stop (remembered_by n) ≡ true → verdict_number (remembered_by n) ≡ n
remembered-number n h =
    ⊎_elim (λ l. absurd (broken (inr l)))
    (λ l. by_number n l (λ e. broken (inl e)))
    (order 7 n)
  where
    broken : (n ≡ 1) ⊎ (7 < n) → ⊥
    broken x =
        let z : true ≡ false = sym h ∙ remembered-broken n x in
        let y : ◌≡◌ {A = ℕ} 0 1 = cc in omega arith

-- ---- the store's words

abbrev pub stored : List ℕ → Store → List ℕ
stored w k = with_part w store_at state_words (store_words_of k)

module _ (w : List ℕ) (k : Store) (h : length w ≡ state_words) where
  word-stored : (i : ℕ) → get_or (stored w k) (store_at + i) 0 ≡ get_or (store_words_of k ++ drop state_words w) i 0
  word-stored i =
      let e : length (take store_at w) ≡ store_at = length-take-le store_at w (omega arith) in
      ap (λ (n : ℕ). get_or (stored w k) (n + i) 0) (sym e) ∙ get_or-append-add (take store_at w) (store_words_of k ++ drop state_words w) i 0

  pub length_stored : length (stored w k) ≡ state_words
  length_stored = length_with_part w store_at store_words (store_words_of k) refl (omega arith) ∙ h

  pub state-stored : state_in (stored w k) ≡ state_in w
  state-stored = store-put w (store_words_of k) (omega arith) refl

  pub store_stored : (held : List ℕ) → sound_stop k.stopped ≡ true → store_in (stored w k) (k.kept ++ drop (length k.kept) held) ≡ k
  store_stored held s =
      let a : get_or (stored w k) store_at 0 ≡ length k.kept = word-stored 0 in
      let b : get_or (stored w k) (store_at + 1) 0 ≡ k.skip = word-stored 1 in
      let c : get_or (stored w k) (store_at + 2) 0 ≡ verdict_number k.stopped = word-stored 2 in
      rw (a, b, c, take-append_seam k.kept (drop (length k.kept) held), remembered-back k.stopped s)

-- ---- words that stay
module _ (w : List ℕ) (h : length w ≡ state_words) where
  last-words : drop store_at w ≡ get_or w store_at 0 ∷ get_or w (store_at + 1) 0 ∷ get_or w (store_at + 2) 0 ∷ drop state_words w
  last-words =
      drop-cons w store_at 0 (omega arith)
      ∙ ap (λ (l : List ℕ). get_or w store_at 0 ∷ l) (drop-cons w (store_at + 1) 0 (omega arith))
      ∙ ap (λ (l : List ℕ). get_or w store_at 0 ∷ get_or w (store_at + 1) 0 ∷ l) (drop-cons w (store_at + 2) 0 (omega arith))

  module _ (k : Store) (a : length k.kept ≡ get_or w store_at 0) (b : k.skip ≡ get_or w (store_at + 1) 0) where
    -- a store that the words hold already
    pub stored_same : verdict_number k.stopped ≡ get_or w (store_at + 2) 0 → stored w k ≡ w
    stored_same c = rw (a, b, c) (ap (λ (l : List ℕ). take store_at w ++ l) (sym last-words) ∙ take-append-drop store_at w)

    -- and all but the refusal
    pub stored-stop : stored w k ≡ with_part w (store_at + 2) state_words (verdict_number k.stopped ∷ [])
    stored-stop =
        let e : take (store_at + 2) w ≡ take store_at w ++ (get_or w store_at 0 ∷ get_or w (store_at + 1) 0 ∷ []) =
        take-add store_at 2 w ∙ ap (λ (l : List ℕ). take store_at w ++ take 2 l) last-words in
        rw (a, b, e) (sym (append_assoc (take store_at w) (get_or w store_at 0 ∷ get_or w (store_at + 1) 0 ∷ []) (verdict_number k.stopped ∷ drop state_words w)))

-- ---- the store by its part of the words

word-part : (w : List ℕ) (i : ℕ) → i < store_words → get_or w (store_at + i) 0 ≡ get_or (part w store_at store_words) i 0
word-part w i h = sym (get_or-take store_words (drop store_at w) i 0 h ∙ get_or-drop store_at w i 0)

-- it is all that the store is read from
pub store-part : (w v held : List ℕ) → part w store_at store_words ≡ part v store_at store_words → store_in w held ≡ store_in v held
store-part w v held e = rw (same 0 (lit< tt), same 1 (lit< tt), same 2 (lit< tt))
  where
    same : (i : ℕ) → i < store_words → get_or w (store_at + i) 0 ≡ get_or v (store_at + i) 0
    same i h = word-part w i h ∙ ap (λ (l : List ℕ). get_or l i 0) e ∙ sym (word-part v i h)
