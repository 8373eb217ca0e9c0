-- A word put into a list, and the sums of a list with a word put into it. Assumes nothing.
use mathlib.Core.Path.{◌≡◌, refl, sym, ap, ◌∙◌}
use mathlib.Core.Logic.{◌≢◌}
use mathlib.Core.Bool.{Bool, true, false}
use mathlib.Core.List.{List, [], ◌∷◌, ◌++◌}
use Prim.Native.Nat.{ℕ, zero, suc, ◌+◌, ◌-◌, ◌/◌, ◌%◌, ◌≤◌, ◌<◌}
use native.Mathlib.Nat.{add_assoc}
use native.Mathlib.Omega.{arith}
use native.Mathlib.Numerals.{add-one}
use lib.ListN.{length, get_or, take, drop, set, length-set}
use lib.Seq.{set-set, set_comm, set-get_or, get_or-set_same, get_or-set_other, take-set-lt, drop-set-lt, drop-set-add, set-append_left}
use lib.Dec.{eqb}
use borrow.Author.Tests.{eqb-true, eqb-false, eq-eqb}
use Rattle.answer.proofs.Tests.{and_both, only_false}
use Rattle.inet.specs.Sum.{words, fold}
use Rattle.inet.specs.SumLaws.{fold_completes}
use Rattle.inet.specs.Packet.{put16}
use Rattle.inet.specs.Transport.{set_field, field_of, field_is}

-- the rest of a list with a word put in it
module _ (l : List ℕ) (i v : ℕ) where
  pub put_length : length (put16 l i v) ≡ length l
  unfolding put16
  put_length = simp length-set

  pub put_other : (j : ℕ) → j ≢ i → j ≢ i + 1 → get_or (put16 l i v) j 0 ≡ get_or l j 0
  unfolding put16
  put_other j h k = rw (get_or-set_other, get_or-set_other)

  pub put_take : (n : ℕ) → i + 1 < n → take n (put16 l i v) ≡ put16 (take n l) i v
  unfolding put16
  put_take n h = let k : i < n = omega arith in rw (take-set-lt, take-set-lt)

  pub put_drop : (n : ℕ) → i + 1 < n → drop n (put16 l i v) ≡ drop n l
  unfolding put16
  put_drop n h = let k : i < n = omega arith in rw (drop-set-lt, drop-set-lt)

  pub put_append : (r : List ℕ) → i + 1 < length l → put16 (l ++ r) i v ≡ put16 l i v ++ r
  unfolding put16
  put_append r h =
      ap (λ (x : List ℕ). set x (i + 1) (v % 256)) (set-append_left l r i (v / 256) (omega arith))
      ∙ set-append_left (set l i (v / 256)) r (i + 1) (v % 256) (omega (arith, length-set l i (v / 256)))

-- a word put past n, in the list from n on
pub drop_put : (l : List ℕ) (n i v : ℕ) → drop n (put16 l (n + i) v) ≡ put16 (drop n l) i v
unfolding put16
drop_put l n i v = rw (add_assoc n i 1, drop-set-add, drop-set-add)

pub drop_put_from : (l : List ℕ) (n i v : ℕ) → n ≤ i → drop n (put16 l i v) ≡ put16 (drop n l) (i - n) v
drop_put_from l n i v h =
    let e : i ≡ n + (i - n) = omega arith in
    ap (λ (j : ℕ). drop n (put16 l j v)) e ∙ drop_put l n (i - n) v

-- a second word at a place takes the first's
pub put-put : (l : List ℕ) (i v w : ℕ) → put16 (put16 l i v) i w ≡ put16 l i w
unfolding put16
put-put l i v w =
    rw (set_comm (set l i (v / 256)) (i + 1) i (v % 256) (w / 256) (omega arith), set-set l i (v / 256) (w / 256), set-set (set l i (w / 256)) (i + 1) (v % 256) (w % 256))

-- a word put where its two bytes stand changes nothing
pub put_same : (l : List ℕ) (i v : ℕ) → get_or l i 0 ≡ v / 256 → get_or l (i + 1) 0 ≡ v % 256 → put16 l i v ≡ l
unfolding put16
put_same l i v h k = rw (← h, ← k, set-get_or, set-get_or)

-- a word whose low byte stands there already is put by its high byte
pub put-high : (l : List ℕ) (i v : ℕ) → get_or l (i + 1) 0 ≡ v % 256 → put16 l i v ≡ set l i (v / 256)
unfolding put16
put-high l i v e =
    let k : get_or (set l i (v / 256)) (i + 1) 0 ≡ v % 256 = get_or-set_other l i (i + 1) (v / 256) 0 (omega arith) ∙ e in
    rw (← k) (set-get_or (set l i (v / 256)) (i + 1) 0)

-- a word that was put is what stands there
pub field_put : (l : List ℕ) (i v : ℕ) → i + 1 < length l → field_of i (put16 l i v) ≡ v
unfolding put16
field_put l i v h =
    let k : length (set l i (v / 256)) ≡ length l = length-set l i (v / 256) in
    let hi : get_or (set (set l i (v / 256)) (i + 1) (v % 256)) i 0 ≡ v / 256 =
    get_or-set_other (set l i (v / 256)) (i + 1) i (v % 256) 0 (omega arith) ∙ get_or-set_same l i (v / 256) 0 (omega arith)
    in
    let lo : get_or (set (set l i (v / 256)) (i + 1) (v % 256)) (i + 1) 0 ≡ v % 256 = get_or-set_same (set l i (v / 256)) (i + 1) (v % 256) 0 (omega arith) in
    omega arith

put_suc : (l : List ℕ) (i v : ℕ) → i % 2 ≡ 0 → suc i < length l → words (set (set l i (v / 256)) (suc i) (v % 256)) ≡ words (set (set l i 0) (suc i) 0) + v
unfolding words
put_suc [] i v e h = omega arith
put_suc (a ∷ []) i v e h = omega arith
put_suc (a ∷ b ∷ r) zero v e h = omega arith
put_suc (a ∷ b ∷ r) (suc zero) v e h = omega arith
put_suc (a ∷ b ∷ r) (suc (suc i)) v e h = omega (arith, put_suc r i v (omega arith) (omega arith))

-- a word put at an even place counts as itself
pub words-put : (l : List ℕ) (i v : ℕ) → i % 2 ≡ 0 → i + 1 < length l → words (put16 l i v) ≡ words (put16 l i 0) + v
unfolding put16
words-put l i v e h = rw add-one (put_suc l i v e (omega arith))

-- a word that stands at an even place counts as itself
pub words-field : (l : List ℕ) (i : ℕ) → i % 2 ≡ 0 → i + 1 < length l → get_or l (i + 1) 0 < 256 → words l ≡ words (put16 l i 0) + field_of i l
words-field l i e h b = sym (ap words (put_same l i (field_of i l) (omega arith) (omega arith))) ∙ words-put l i (field_of i l) e h

-- the complement of a sum, put where the sum took 0, completes it
pub put_completes : (l : List ℕ) (i : ℕ) → i % 2 ≡ 0 → i + 1 < length l → 0 < words (put16 l i 0) → fold (words (put16 l i (65535 - fold (words (put16 l i 0))))) ≡ 65535
put_completes l i e h z = ap fold (words-put l i _ e h) ∙ fold_completes (words (put16 l i 0)) z

pub field_is_facts : (field v : ℕ) (p : List ℕ) → field_is field v p ≡ true → (get_or p field 0 ≡ v / 256) × (get_or p (field + 1) 0 ≡ v % 256)
unfolding field_is
field_is_facts field v p e = let f = and_both _ _ e in (eqb-true _ _ f.0, eqb-true _ _ f.1)

pub facts_field_is : (field v : ℕ) (p : List ℕ) → get_or p field 0 ≡ v / 256 → get_or p (field + 1) 0 ≡ v % 256 → field_is field v p ≡ true
unfolding field_is
facts_field_is field v p h k = simp (eq-eqb _ _ h, eq-eqb _ _ k)

pub field_is_fails : (field v : ℕ) (p : List ℕ) → ((get_or p field 0 ≡ v / 256) × (get_or p (field + 1) 0 ≡ v % 256) → ⊥) → field_is field v p ≡ false
field_is_fails field v p n = only_false (field_is field v p) (λ e. n (field_is_facts field v p e))

-- a value that stands in the field, set back into it
pub field_is-back : (field v x : ℕ) (p : List ℕ) → field_is field v p ≡ true → set_field field v (set_field field x p) ≡ p
field_is-back field v x p e = let f = field_is_facts field v p e in put-put p field x v ∙ put_same p field v f.0 f.1

-- of bytes, `field_is` says what stands in the field
pub field_is_field_of : (field v : ℕ) (p : List ℕ) → get_or p (field + 1) 0 < 256 → field_is field v p ≡ eqb (field_of field p) v
field_is_field_of field v p h = go (eqb (field_of field p) v) refl
  where
    go : (b : Bool) → eqb (field_of field p) v ≡ b → field_is field v p ≡ eqb (field_of field p) v
    go true e = let f : field_of field p ≡ v = eqb-true (field_of field p) v e in facts_field_is field v p (omega arith) (omega arith) ∙ sym e
    go false e = field_is_fails field v p (λ f. eqb-false (field_of field p) v e (omega arith)) ∙ sym e

-- a field that is set keeps the length
pub set_field_length : (field v : ℕ) (p : List ℕ) → length (set_field field v p) ≡ length p
set_field_length field v p = put_length p field v
