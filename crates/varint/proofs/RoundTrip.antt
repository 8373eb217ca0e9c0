-- Reading what `encode` writes gives the value back, and a reading of shortest size is what `encode` writes. Assumes nothing.
use Rattle.std.proofs.Common.{Some}
use Prim.Native.Nat.{ℕ, suc, ◌+◌, ◌-◌, ◌*◌, ◌/◌, ◌%◌, ◌^◌, ◌<◌}
use mathlib.Core.Path.{◌≡◌, sym, ap, ◌∙◌}
use mathlib.Core.List.{List, ◌∷◌, ◌++◌}
use mathlib.Core.Logic.{⊎_elim}
use native.Mathlib.Nat.{add-mul, add_assoc}
use native.Mathlib.Omega.{arith}
use lib.ListN.{length, drop, get_or, take, length-take, length-drop, take-append-drop}
use lib.Seq.{drop-cons}
use Rattle.answer.proofs.Tests.{order}
use Rattle.octets.specs.Big.{big_from, digits, Bytes}
use Rattle.octets.proofs.BigLaws as Big
use Rattle.varint.specs.Numbers.{limit, encode, encoded_size, read_number, number, value_in}
use Rattle.varint.proofs.Reading as Reading
use Rattle.varint.proofs.Encoding as Encoding

one : (v : ℕ) (rest : List ℕ) → v < 2 ^ 6 → read_number (digits 1 v ++ rest) ≡ Some (number v 1)
one v rest h =
    let e : v % 256 / 64 ≡ 0 = omega arith in
    sym (Reading.whole (digits 1 v ++ rest) 1 v (rw e) (omega arith) (omega arith))

two : (v : ℕ) (rest : List ℕ) → v < 2 ^ 14 → read_number (digits 2 (2 ^ 14 + v) ++ rest) ≡ Some (number v 2)
two v rest h =
    let l = digits 2 (2 ^ 14 + v) ++ rest in
    let e : get_or l 0 0 / 64 ≡ 1 = omega arith in
    sym (Reading.whole l 2 v (rw e) (omega arith) (omega arith))

four : (v : ℕ) (rest : List ℕ) → v < 2 ^ 30 → read_number (digits 4 (2 ^ 31 + v) ++ rest) ≡ Some (number v 4)
four v rest h =
    let l = digits 4 (2 ^ 31 + v) ++ rest in
    let e : get_or l 0 0 / 64 ≡ 2 = omega arith in
    sym (Reading.whole l 4 v (rw e) (omega arith) (omega arith))

eight : (v : ℕ) (rest : List ℕ) → v < 2 ^ 62 → read_number (digits 8 (3 * 2 ^ 62 + v) ++ rest) ≡ Some (number v 8)
eight v rest h =
    let l = digits 8 (3 * 2 ^ 62 + v) ++ rest in
    let e : get_or l 0 0 / 64 ≡ 3 = omega arith in
    sym (Reading.whole l 8 v (rw e) (omega arith) (omega arith))

-- what `encode` writes, with anything after it, reads as the value and as many bytes as were written
pub read-encode : (v : ℕ) (rest : List ℕ) → v < limit → read_number (encode v ++ rest) ≡ Some (number v (encoded_size v))
read-encode v rest h =
    ⊎_elim (λ a. rw (Encoding.size-one v a, Encoding.one v a) (one v rest a))
    (λ a.
    ⊎_elim (λ b. rw (Encoding.size-two v a b, Encoding.two v a b) (two v rest b))
    (λ b.
    ⊎_elim (λ d. rw (Encoding.size-four v a b d, Encoding.four v a b d) (four v rest d))
    (λ d. rw (Encoding.size-eight v a b d, Encoding.eight v a b d) (eight v rest h))
    (order v (2 ^ 30)))
    (order v (2 ^ 14)))
    (order v (2 ^ 6))

-- no shortest form is a proper prefix of another
pub encode-prefix : (v w : ℕ) (x y : List ℕ) → v < limit → w < limit → encode v ++ x ≡ encode w ++ y → v ≡ w
encode-prefix v w x y h k e =
    let a = read-encode v x h in
    let b = read-encode w y k in
    let d : Some (number v (encoded_size v)) ≡ Some (number w (encoded_size w)) = sym a ∙ ap read_number e ∙ b in
    ap value_in d

-- the bytes of a form are the digits of its value with the form's two bits in front
module _ (s : List ℕ) (h : Bytes s) (k m : ℕ) (form : get_or s 0 0 / 64 ≡ k) (long : m < length s) where
  form-digits : digits (suc m) (64 * k * 256 ^ m + big_from (get_or s 0 0 % 64) (take m (drop 1 s))) ≡ take (suc m) s
  form-digits =
      let t = take m (drop 1 s) in
      let a = get_or s 0 0 in
      let len : length t ≡ m = simp (length-take, length-drop) (omega arith) in
      let ha : a < 256 = h 0 in
      let first : a ≡ 64 * k + a % 64 = omega arith in
      let v : big_from a t ≡ 64 * k * 256 ^ m + big_from (a % 64) t =
      Big.shift a t ∙ ap (λ (n : ℕ). n * 256 ^ length t + big_from 0 t) first ∙ rw (len, add-mul, add_assoc) (ap (λ (n : ℕ). 64 * k * 256 ^ m + n) (sym (rw len at (Big.shift (a % 64) t))))
      in
      let d : digits (1 + length t) (big_from a t) ≡ a % 256 ∷ t = Big.digits-big 1 a t (Big.bytes_take m (drop 1 s) (Big.bytes_drop 1 s h)) in
      let e : 1 + length t ≡ suc m = omega arith in
      let f : a % 256 ≡ a = omega arith in
      let g : s ≡ a ∷ drop 1 s = drop-cons s 0 0 (omega arith) in
      let w : take (suc m) s ≡ a ∷ t = ap (take (suc m)) g in
      rw (← v, w) (rw (e, f) at d)

-- the bytes that a reading of n bytes takes, where its form is k and its value's shortest form has the same two bits in front
module _ (s : List ℕ) (h : Bytes s) (v k m : ℕ) (t : Reading.Taken s v (suc m)) (form : get_or s 0 0 / 64 ≡ k) where
  taken-digits : take (suc m) s ≡ digits (suc m) (64 * k * 256 ^ m + v)
  taken-digits =
      let e : suc m - 1 ≡ m = omega arith in
      let w : v ≡ big_from (get_or s 0 0 % 64) (take m (drop 1 s)) = rw e at t.value in
      sym (form-digits s h k m form t.within) ∙ ap (λ (x : ℕ). digits (suc m) (64 * k * 256 ^ m + x)) (sym w)

module _ (s : List ℕ) (v : ℕ) (h : Bytes s) where
  short1 : Reading.Taken s v 1 → 1 ≡ encoded_size v → get_or s 0 0 / 64 ≡ 0 → take 1 s ≡ encode v
  short1 t z f = taken-digits s h v 0 0 t f ∙ ap (digits 1) (omega arith) ∙ sym (Encoding.of-size_one v (sym z))

  short2 : Reading.Taken s v 2 → 2 ≡ encoded_size v → get_or s 0 0 / 64 ≡ 1 → take 2 s ≡ encode v
  short2 t z f = taken-digits s h v 1 1 t f ∙ sym (Encoding.of-size_two v (sym z) (omega (arith, t.value, Reading.value-fits s 2 h)))

  short4 : Reading.Taken s v 4 → 4 ≡ encoded_size v → get_or s 0 0 / 64 ≡ 2 → take 4 s ≡ encode v
  short4 t z f = taken-digits s h v 2 3 t f ∙ sym (Encoding.of-size_four v (sym z) (omega (arith, t.value, Reading.value-fits s 4 h)))

  short8 : Reading.Taken s v 8 → 8 ≡ encoded_size v → get_or s 0 0 / 64 ≡ 3 → take 8 s ≡ encode v
  short8 t z f = taken-digits s h v 3 7 t f ∙ sym (Encoding.of-size_eight v (sym z))

  shortest-front : (n : ℕ) → Reading.Taken s v n → n ≡ encoded_size v → take n s ≡ encode v
  shortest-front n t z =
      let k = get_or s 0 0 / 64 in
      let f = Reading.form-below s h in
      ⊎_elim
      (λ a. let e : k ≡ 0 = omega arith in let q : n ≡ 1 = rw e at t.form in rw q (short1 (rw q at t) (rw q at z) e))
      (λ a.
      ⊎_elim
      (λ b. let e : k ≡ 1 = omega arith in let q : n ≡ 2 = rw e at t.form in rw q (short2 (rw q at t) (rw q at z) e))
      (λ b.
      ⊎_elim
      (λ d. let e : k ≡ 2 = omega arith in let q : n ≡ 4 = rw e at t.form in rw q (short4 (rw q at t) (rw q at z) e))
      (λ d. let e : k ≡ 3 = omega arith in let q : n ≡ 8 = rw e at t.form in rw q (short8 (rw q at t) (rw q at z) e))
      (order k 3))
      (order k 2))
      (order k 1)

-- a whole reading whose size is the shortest is `encode` of its value followed by the rest
pub read-shortest : (s : List ℕ) (v n : ℕ) → Bytes s → read_number s ≡ Some (number v n) → n ≡ encoded_size v → s ≡ encode v ++ drop n s
read-shortest s v n h e z =
    sym (take-append-drop n s) ∙ ap (λ (x : List ℕ). x ++ drop n s) (shortest-front s v h n (Reading.taken s v n e) z)
