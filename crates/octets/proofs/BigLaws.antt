-- Laws of `big_from`: one more byte, the end, the bounds, and two lists one after the other. Assumes nothing.
use Prim.Native.Nat.{ℕ, zero, suc, ◌+◌, ◌-◌, ◌*◌, ◌/◌, ◌%◌, ◌^◌, ◌<◌, ◌≤◌}
use mathlib.Core.Path.{◌≡◌, refl, sym, ap, ◌∙◌}
use mathlib.Core.List.{List, [], ◌∷◌, ◌++◌, append-nil}
use native.Mathlib.Nat.{pow-suc, pow-le-pow_right, lt_of_lt_of_le, one-le-pow, mul_assoc, mul_comm, mul-one, add-mul, add-zero, add_assoc, one-mul, mul-le-mul_right}
use native.Mathlib.Numerals.{add-one}
use native.Mathlib.Omega.{arith}
use lib.Dec.{lit<}
use lib.ListN.{length, get_or, take, drop, drop_of_length-le, length-take, length-drop, length-append}
use lib.Seq.{drop-cons, get_or-drop, append_snoc, take-append_seam, drop-append_seam}
use Rattle.octets.specs.Big.{big_from, big_at, digits, Bytes}

pub step : (acc i : ℕ) (s : List ℕ) (v : ℕ) → i < length s → big_from acc (drop i s) ≡ v
    → big_from (acc * 256 + get_or s i 0) (drop (i + 1) s) ≡ v
step acc i s v h e = rw add-one (rw (drop-cons s i 0) at e)

pub end : (acc i : ℕ) (s : List ℕ) (v : ℕ) → length s ≤ i → big_from acc (drop i s) ≡ v → acc ≡ v
end acc i s v h e = rw (drop_of_length-le s h) at e

pub grows : (k acc b : ℕ) → acc < 256 ^ k → b < 256 → acc * 256 + b < 256 ^ (k + 1)
grows k acc b h l = rw (add-one, pow-suc) (omega arith)

pub fits : (k acc b : ℕ) → k < 8 → acc < 256 ^ k → b < 256 → acc * 256 + b < 2 ^ 64
fits k acc b g h l =
    let m : 256 ^ (k + 1) ≤ 256 ^ 8 = pow-le-pow_right (lit< tt) {j = 8} (omega arith) in
    lt_of_lt_of_le (grows k acc b h l) m

pub room : (start l : ℕ) → start < 256 → l ≤ 7 → start < 256 ^ (8 - l)
room start l h g =
    let m : 256 ^ 1 ≤ 256 ^ (8 - l) = pow-le-pow_right (lit< tt) {i = 1} (omega arith) in
    lt_of_lt_of_le h m

-- what `big_from` requires at a start of 0
pub from_zero : (m k : ℕ) (t : List ℕ) → m ≤ 8
    → (length (take m (drop k t)) ≤ 8) × (0 < 256 ^ (8 - length (take m (drop k t))))
from_zero m k t h = (simp length-take (omega arith), one-le-pow _ 256 (lit< tt))

-- one more byte under a bound that grows with it
pub bound-step : (n i acc b : ℕ) → acc < n * 256 ^ i → b < 256 → acc * 256 + b < n * 256 ^ (i + 1)
bound-step n i acc b h l =
    let e : n * 256 ^ (i + 1) ≡ n * 256 ^ i * 256 = rw (add-one, pow-suc) (sym (mul_assoc n (256 ^ i) 256)) in
    omega arith

-- the values of two lists, one after the other
pub append : (acc : ℕ) (xs ys : List ℕ) → big_from acc (xs ++ ys) ≡ big_from (big_from acc xs) ys
append acc [] ys = refl
append acc (x ∷ xs) ys = append (acc * 256 + x) xs ys

-- the digits in front count by the length of what follows
pub shift : (acc : ℕ) (ys : List ℕ) → big_from acc ys ≡ acc * 256 ^ length ys + big_from 0 ys
shift acc [] = simp (mul-one, add-zero)
shift acc (y ∷ ys) =
    let p = 256 ^ length ys in
    let z : 0 * 256 + y ≡ y = omega arith in
    let d : acc * 256 * p ≡ acc * 256 ^ suc (length ys) =
    mul_assoc acc 256 p ∙ ap (λ (n : ℕ). acc * n) (mul_comm 256 p ∙ sym (pow-suc 256 (length ys)))
    in shift (acc * 256 + y) ys ∙ rw (add-mul, add_assoc, d, z) (ap (λ (n : ℕ). acc * 256 ^ suc (length ys) + n) (sym (shift y ys)))

-- the value of the n bytes at a place, and its bound
pub part : (at n m r : ℕ) (s : List ℕ) → m ≡ n → at + n ≤ length s
    → (r ≡ big_from 0 (take m (drop at s))) × (r < (0 + 1) * 256 ^ length (take m (drop at s)))
    → (r ≡ big_at at n s) × (r < 256 ^ n)
part at n m r s e h f =
    let l : length (take n (drop at s)) ≡ n = simp (length-take, length-drop) (omega arith) in
    let g : r < 1 * 256 ^ n = rw (e, l) at f.1 in
    (rw e at f.0, rw one-mul at g)

-- the value of bytes is below its bound
pub bound : (acc : ℕ) (s : List ℕ) → Bytes s → big_from acc s < (acc + 1) * 256 ^ length s
bound acc [] h = rw mul-one (omega arith)
bound acc (b ∷ s) h =
    let l : b < 256 = h 0 in
    let e : (acc * 256 + 256) * 256 ^ length s ≡ (acc + 1) * 256 ^ suc (length s) =
    rw pow-suc (ap (λ (n : ℕ). n * 256 ^ length s) (omega arith) ∙ mul_assoc (acc + 1) 256 (256 ^ length s) ∙ ap (λ (n : ℕ). (acc + 1) * n) (mul_comm 256 (256 ^ length s)))
    in
    let m : (acc * 256 + b + 1) * 256 ^ length s ≤ (acc * 256 + 256) * 256 ^ length s = mul-le-mul_right (256 ^ length s) (omega arith) in
    rw (← e) (lt_of_lt_of_le (bound (acc * 256 + b) s (λ i. h (suc i))) m)

-- bytes are the digits of their value, after the digits in front
pub digits-big : (k acc : ℕ) (s : List ℕ) → Bytes s → digits (k + length s) (big_from acc s) ≡ digits k acc ++ s
digits-big k acc [] h = rw (add-zero, append-nil)
digits-big k acc (b ∷ s) h =
    let l : b < 256 = h 0 in
    let q : (acc * 256 + b) / 256 ≡ acc = omega arith in
    let r : (acc * 256 + b) % 256 ≡ b = omega arith in
    let e : k + suc (length s) ≡ suc k + length s = omega arith in
    rw e (digits-big (suc k) (acc * 256 + b) s (λ i. h (suc i)) ∙ rw (q, r, append_snoc))

pub length_digits : (n v : ℕ) → length (digits n v) ≡ n
length_digits zero v = refl
length_digits (suc n) v = rw (length-append, length_digits n (v / 256)) (omega arith)

pub bytes_take : (n : ℕ) (s : List ℕ) → Bytes s → Bytes (take n s)
bytes_take zero s h i = lit< tt
bytes_take (suc n) [] h i = lit< tt
bytes_take (suc n) (b ∷ s) h zero = h 0
bytes_take (suc n) (b ∷ s) h (suc i) = bytes_take n s (λ j. h (suc j)) i

pub bytes_drop : (n : ℕ) (s : List ℕ) → Bytes s → Bytes (drop n s)
bytes_drop n s h i = rw get_or-drop (h (n + i))

-- bytes one after the other
pub bytes-front : (xs ys : List ℕ) → Bytes (xs ++ ys) → Bytes xs
bytes-front xs ys h = rw (take-append_seam xs ys) at (bytes_take (length xs) (xs ++ ys) h)

pub bytes-behind : (xs ys : List ℕ) → Bytes (xs ++ ys) → Bytes ys
bytes-behind xs ys h = rw (drop-append_seam xs ys) at (bytes_drop (length xs) (xs ++ ys) h)

pub bytes_append : (xs ys : List ℕ) → Bytes xs → Bytes ys → Bytes (xs ++ ys)
bytes_append [] ys h g i = g i
bytes_append (x ∷ xs) ys h g zero = h 0
bytes_append (x ∷ xs) ys h g (suc i) = bytes_append xs ys (λ j. h (suc j)) g i
