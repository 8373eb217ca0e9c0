-- The store's three words in the state, written one at a time. Assumes nothing.
use Prim.Native.Nat.{ℕ, zero, suc, ◌+◌}
use mathlib.Core.Path.{◌≡◌, refl, sym, ap, ◌∙◌}
use mathlib.Core.List.{List, [], ◌∷◌}
use native.Mathlib.Omega.{arith}
use lib.ListN.{length, get_or, set, drop}
use lib.Dec.{lit<}
use lib.Seq.{set-get_or, get_or-set_other, get_or-take, get_or-drop}
use Rattle.answer.specs.declared.Refusal.{Refusal}
use Rattle.answer.specs.Number.{number_of}
use Rattle.octets.specs.Parts.{part, with_part}
use Rattle.octets.proofs.Parts.{part-after}
use Rattle.lists.specs.Words.{address_words, route_words, pack_entries, pack_ranges}
use Rattle.lists.proofs.Packing.{length_pack_entries, length_pack_ranges}
use Rattle.capsule.specs.Capsules.{Capsule, datagram, assign, request, advertise, unknown}
use Rattle.state.specs.State.{received_at, store_at, state_words}
use Rattle.exchange.specs.Reading.{receive_addresses, receive_routes, taken}
use Rattle.stream.specs.Inner.{stopped_by, Live}

-- the last three words of a list
set_three : (n : ℕ) (w : List ℕ) → length w ≡ n + 3 → (a b c : ℕ) → with_part w n (n + 3) (a ∷ b ∷ c ∷ []) ≡ set (set (set w n a) (n + 1) b) (n + 2) c
set_three zero [] l a b c = absurd (omega arith)
set_three zero (x ∷ []) l a b c = absurd (omega arith)
set_three zero (x ∷ y ∷ []) l a b c = absurd (omega arith)
set_three zero (x ∷ y ∷ z ∷ []) l a b c = refl
set_three zero (x ∷ y ∷ z ∷ u ∷ w) l a b c = absurd (omega arith)
set_three (suc n) [] l a b c = absurd (omega arith)
set_three (suc n) (x ∷ w) l a b c =
    let p : suc n + 1 ≡ suc (n + 1) = omega arith in
    let q : suc n + 2 ≡ suc (n + 2) = omega arith in
    let r : suc n + 3 ≡ suc (n + 3) = omega arith in
    rw (p, q, r) (ap (λ (t : List ℕ). x ∷ t) (set_three n w (omega arith) a b c))

module _ (w : List ℕ) (l : length w ≡ state_words) where
  -- all three
  words_set : (a b c : ℕ) → set (set (set w store_at a) (store_at + 1) b) (store_at + 2) c ≡ with_part w store_at state_words (a ∷ b ∷ c ∷ [])
  words_set a b c = sym (set_three store_at w l a b c)

  -- a refusal is remembered
  pub words-stopped : (r : Refusal) (a b : ℕ) → get_or w store_at 0 ≡ a → get_or w (store_at + 1) 0 ≡ b → stopped_by r w ≡ with_part w store_at state_words (a ∷ b ∷ number_of r ∷ [])
  words-stopped r a b p q =
      sym
      (ap (λ (x : List ℕ). set (set x (store_at + 1) b) (store_at + 2) (number_of r)) (ap (set w store_at) (sym p) ∙ set-get_or w store_at 0)
      ∙ ap (λ (x : List ℕ). set x (store_at + 2) (number_of r)) (ap (set w (store_at + 1)) (sym q) ∙ set-get_or w (store_at + 1) 0))
      ∙ words_set a b (number_of r)

  -- bytes to skip, and nothing kept
  pub words-skip : get_or w (store_at + 2) 0 ≡ 0 → (n : ℕ) → set (set w store_at 0) (store_at + 1) n ≡ with_part w store_at state_words (0 ∷ n ∷ 0 ∷ [])
  words-skip h n =
      let e : get_or (set (set w store_at 0) (store_at + 1) n) (store_at + 2) 0 ≡ 0 =
      get_or-set_other (set w store_at 0) (store_at + 1) (store_at + 2) n 0 (λ q. omega arith)
      ∙ get_or-set_other w store_at (store_at + 2) 0 0 (λ q. omega arith)
      ∙ h in
      sym
      (ap (set (set (set w store_at 0) (store_at + 1) n) (store_at + 2)) (sym e) ∙ set-get_or (set (set w store_at 0) (store_at + 1) n) (store_at + 2) 0)
      ∙ words_set 0 n 0

-- so many bytes are kept
pub words-kept : (w : List ℕ) → Live w → (n : ℕ) → set w store_at n ≡ with_part w store_at state_words (n ∷ 0 ∷ 0 ∷ [])
words-kept w h n =
    let p : get_or (set w store_at n) (store_at + 1) 0 ≡ 0 = get_or-set_other w store_at (store_at + 1) n 0 (λ q. omega arith) ∙ h.skip in
    let q : get_or (set w store_at n) (store_at + 2) 0 ≡ 0 = get_or-set_other w store_at (store_at + 2) n 0 (λ q. omega arith) ∙ h.stopped in
    sym
    (ap (λ (x : List ℕ). set x (store_at + 2) 0) (ap (set (set w store_at n) (store_at + 1)) (sym p) ∙ set-get_or (set w store_at n) (store_at + 1) 0)
    ∙ ap (set (set w store_at n) (store_at + 2)) (sym q)
    ∙ set-get_or (set w store_at n) (store_at + 2) 0)
    ∙ words_set w h.size n 0 0

-- ---- a list that was received leaves the store's words
module _ (w : List ℕ) (l : length w ≡ state_words) where
  word-part : (v : List ℕ) → get_or v (store_at + 2) 0 ≡ get_or (part v (store_at + 2) 1) 0 0
  word-part v = sym (get_or-take 1 (drop (store_at + 2) v) 0 0 (lit< tt) ∙ get_or-drop (store_at + 2) v 0 0)

  pub taken-stopped : (c : Capsule) → get_or (taken w c) (store_at + 2) 0 ≡ get_or w (store_at + 2) 0
  taken-stopped (datagram v) = refl
  taken-stopped (assign es) =
      word-part (receive_addresses w (pack_entries es))
      ∙ ap (λ (x : List ℕ). get_or x 0 0) (part-after w received_at address_words (pack_entries es) (length_pack_entries es) (omega arith) (store_at + 2) 1 (omega arith))
      ∙ sym (word-part w)
  taken-stopped (request es) = refl
  taken-stopped (advertise rs) =
      word-part (receive_routes w (pack_ranges rs))
      ∙ ap (λ (x : List ℕ). get_or x 0 0) (part-after w (received_at + address_words) route_words (pack_ranges rs) (length_pack_ranges rs) (omega arith) (store_at + 2) 1 (omega arith))
      ∙ sym (word-part w)
  taken-stopped unknown = refl
