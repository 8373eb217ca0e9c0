-- `read_number` by its two cases, and what a whole reading says. Assumes nothing.
use Rattle.std.proofs.Common.{Option, Some, None}
use Prim.Native.Nat.{ℕ, zero, suc, ◌+◌, ◌-◌, ◌*◌, ◌/◌, ◌%◌, ◌^◌, ◌<◌, ◌≤◌}
use mathlib.Core.Path.{◌≡◌, refl, sym, ap, ◌∙◌}
use mathlib.Core.List.{List, [], ◌∷◌, ◌++◌}
use mathlib.Core.Logic.{◌⊎◌, inl, inr, ⊎_elim}
use mathlib.Core.Bool.{Bool, true, false}
use native.Mathlib.Nat.{pow-le-pow_right, mul-le-mul, mul-le-mul_left, lt_of_lt_of_le}
use native.Mathlib.Numerals.{sub-one}
use native.Mathlib.Omega.{arith}
use borrow.Author.Tests.{le-leb, lt-leb, leb-true}
use lib.Dec.{leb, lit<}
use lib.Pow.{pow_pos}
use lib.ListN.{length, get_or, take, drop, length-take, length-append}
use lib.Seq.{get_or-take, take-append-le, take-nil}
use Rattle.answer.specs.Choice.{pick}
use Rattle.answer.proofs.Tests.{order}
use Rattle.octets.specs.Big.{big_from, Bytes}
use Rattle.octets.proofs.BigLaws as Big
use Rattle.varint.specs.Numbers.{limit, form_size, read_number, number, value_in}
use Rattle.varint.specs.declared.Number.{Number}

-- the value that a form of n bytes holds
abbrev pub value_of : ℕ → List ℕ → ℕ
value_of n s = big_from (get_or s 0 0 % 64) (take (n - 1) (drop 1 s))

pub cut : (s : List ℕ) → length s < form_size s → None ≡ read_number s
unfolding read_number
cut s h = simp (lt-leb _ _ h)

pub whole : (s : List ℕ) (n v : ℕ) → n ≡ form_size s → n ≤ length s → v ≡ value_of n s → Some (number v n) ≡ read_number s
unfolding read_number
whole s n v e h f =
    let g : form_size s ≤ length s = omega arith in
    simp (le-leb _ _ g) (rw (f, e))

-- what a whole reading says
pub record Taken (s : List ℕ) (v n : ℕ) : Type 0 where
  pub form : n ≡ form_size s
  pub within : n ≤ length s
  pub some : 1 ≤ n
  pub value : v ≡ value_of n s

-- how many bytes a reading took, 0 where there is none
abbrev pub size_in : Option Number → ℕ
size_in (Some q) = q.size
size_in None = 0

picked : (t : Bool) (a b v n : ℕ) → pick t (Some (number a b)) None ≡ Some (number v n) → (t ≡ true) × (a ≡ v) × (b ≡ n)
picked true a b v n e = (refl, ap value_in e, ap size_in e)
picked false a b v n e = let z : ◌≡◌ {A = ℕ} 0 1 = cc in absurd (omega arith)

pub taken : (s : List ℕ) (v n : ℕ) → read_number s ≡ Some (number v n) → Taken s v n
unfolding read_number
taken s v n e =
    let p = picked (leb (form_size s) (length s)) (value_of (form_size s) s) (form_size s) v n e in
    let l = leb-true (form_size s) (length s) p.0 in
    record {
      form = sym p.2;
      within = omega (arith, l, p.2);
      some = omega (arith, pow_pos (get_or s 0 0 / 64), p.2);
      value = sym p.1 ∙ ap (λ (m : ℕ). value_of m s) p.2;
    }

-- of bytes the size is 1, 2, 4 or 8: the form is below 4
pub form-below : (s : List ℕ) → Bytes s → get_or s 0 0 / 64 < 4
form-below s h = omega (arith, h 0)

pub size_cases : (s : List ℕ) (v n : ℕ) → Bytes s → read_number s ≡ Some (number v n) → (n ≡ 1) ⊎ ((n ≡ 2) ⊎ ((n ≡ 4) ⊎ (n ≡ 8)))
size_cases s v n h e =
    let t = taken s v n e in
    let f = form-below s h in
    let k = get_or s 0 0 / 64 in
    ⊎_elim (λ a. let z : k ≡ 0 = omega arith in inl (rw z at t.form))
    (λ a.
    ⊎_elim (λ b. let z : k ≡ 1 = omega arith in inr (inl (rw z at t.form)))
    (λ b.
    ⊎_elim (λ d. let z : k ≡ 2 = omega arith in inr (inr (inl (rw z at t.form))))
    (λ d. let z : k ≡ 3 = omega arith in inr (inr (inr (rw z at t.form))))
    (order k 3))
    (order k 2))
    (order k 1)

-- a form of n bytes holds 6 bits and n - 1 bytes
pub value-fits : (s : List ℕ) (n : ℕ) → Bytes s → value_of n s < 64 * 256 ^ (n - 1)
value-fits s n h =
    let t = take (n - 1) (drop 1 s) in
    let m : length t ≤ n - 1 = simp length-take (omega arith) in
    let p : 256 ^ length t ≤ 256 ^ (n - 1) = pow-le-pow_right (lit< tt) m in
    let b = Big.bound (get_or s 0 0 % 64) t (Big.bytes_take (n - 1) (drop 1 s) (Big.bytes_drop 1 s h)) in
    let q : (get_or s 0 0 % 64 + 1) * 256 ^ length t ≤ 64 * 256 ^ (n - 1) = mul-le-mul {n₂ = 64} (omega arith) p in
    lt_of_lt_of_le b q

-- a form of at most 8 bytes holds less than the limit
pub value-bound : (s : List ℕ) (n : ℕ) → Bytes s → n ≤ 8 → value_of n s < limit
value-bound s n h l =
    let p : 256 ^ (n - 1) ≤ 256 ^ 7 = pow-le-pow_right (lit< tt) {j = 7} (omega arith) in
    lt_of_lt_of_le (value-fits s n h) (mul-le-mul_left 64 p)

pub size-most : (s : List ℕ) (v n : ℕ) → Bytes s → read_number s ≡ Some (number v n) → n ≤ 8
size-most s v n h e =
    ⊎_elim (λ a. omega arith) (λ a. ⊎_elim (λ b. omega arith) (λ b. ⊎_elim (λ d. omega arith) (λ d. omega arith) b) a) (size_cases s v n h e)

-- values are below the limit
pub value-below : (s : List ℕ) (v n : ℕ) → Bytes s → read_number s ≡ Some (number v n) → v < limit
value-below s v n h e =
    let t = taken s v n e in
    let b = value-bound s n h (size-most s v n h e) in
    omega (arith, t.value, b)

-- a number that is cut has fewer than 8 bytes
pub cut_short : (s : List ℕ) → Bytes s → read_number s ≡ None → length s < 8
cut_short s h e =
    ⊎_elim (λ l. let p : 2 ^ (get_or s 0 0 / 64) ≤ 2 ^ 3 = pow-le-pow_right (lit< tt) {j = 3} (omega (arith, form-below s h)) in omega arith)
    (λ l.
    let w = whole s (form_size s) (value_of (form_size s) s) refl l refl in
    let y : ◌≡◌ {A = ℕ} 0 1 = cc in absurd (omega arith))
    (order (length s) (form_size s))

drop_one : (n : ℕ) (s : List ℕ) → drop 1 (take n s) ≡ take (n - 1) (drop 1 s)
drop_one zero s = refl
drop_one (suc n) [] = sym (take-nil (suc n - 1))
drop_one (suc n) (x ∷ s) = rw sub-one

-- a reading depends only on the bytes that it takes
pub read-front : (s t : List ℕ) (v n : ℕ) → read_number s ≡ Some (number v n) → take n t ≡ take n s → n ≤ length t → read_number t ≡ Some (number v n)
read-front s t v n e f l =
    let k = taken s v n e in
    let some : 0 < n = k.some in
    let a : get_or t 0 0 ≡ get_or s 0 0 = sym (get_or-take n t 0 0 some) ∙ ap (λ (x : List ℕ). get_or x 0 0) f ∙ get_or-take n s 0 0 some in
    let b : take (n - 1) (drop 1 t) ≡ take (n - 1) (drop 1 s) = sym (drop_one n t) ∙ ap (drop 1) f ∙ drop_one n s in
    sym (whole t n v (k.form ∙ rw a) l (k.value ∙ rw (a, b)))

pub read_append : (s t : List ℕ) (v n : ℕ) → read_number s ≡ Some (number v n) → read_number (s ++ t) ≡ Some (number v n)
read_append s t v n e =
    let k = taken s v n e in
    let w : n ≤ length s = k.within in
    read-front s (s ++ t) v n e (take-append-le n s t w) (rw length-append (omega arith))
