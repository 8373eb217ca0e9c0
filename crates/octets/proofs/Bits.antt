-- Whether the lowest bits of a number, and of a number of two words, are 0. Assumes nothing.
use Prim.Native.Nat.{ℕ, ◌+◌, ◌-◌, ◌*◌, ◌/◌, ◌%◌, ◌^◌, ◌<◌, ◌≤◌}
use mathlib.Core.Path.{◌≡◌, sym, ap, ◌∙◌}
use mathlib.Core.Bool.{false}
use mathlib.Core.Logic.{⊎_elim}
use native.Mathlib.Nat.{mod-eq_of_lt, lt_of_lt_of_le, mul_assoc, mul-add-mod_self_right, eq-zero-or-pos}
use native.Mathlib.Omega.{arith}
use borrow.Author.Tests.{eq-eqb, ne_eqb}
use lib.Arith.{mod-mul}
use lib.Dec.{eqb}
use lib.Pow.{pow_mono, pow_pos, pow-add}
use lib.Pow as Pow
use Rattle.octets.specs.Wide.{low_zero}

pub same_test : (a b : ℕ) → (a ≡ 0 → b ≡ 0) → (b ≡ 0 → a ≡ 0) → eqb a 0 ≡ eqb b 0
same_test a b f g =
    ⊎_elim (λ e. eq-eqb a 0 e ∙ sym (eq-eqb b 0 (f e)))
    (λ h. ne_eqb a 0 (λ e. omega arith) ∙ sym (ne_eqb b 0 (λ e. omega (arith, g e))))
    (eq-zero-or-pos a)

-- a word has 64 bits
pub whole : (k x : ℕ) → x < 2 ^ 64 → 64 ≤ k → eqb x 0 ≡ low_zero k x
whole k x h g = ap (λ (n : ℕ). eqb n 0) (sym (mod-eq_of_lt (lt_of_lt_of_le h (pow_mono {i = 64} g))))

-- bits of the low word alone
pub low : (k hi lo : ℕ) → k ≤ 64 → low_zero k lo ≡ low_zero k (hi * 2 ^ 64 + lo)
low k hi lo h =
    let s : 64 ≡ 64 - k + k = omega arith in
    let e : 2 ^ 64 ≡ 2 ^ (64 - k) * 2 ^ k = ap (λ (n : ℕ). 2 ^ n) s ∙ pow-add 2 (64 - k) k in
    ap (λ (n : ℕ). eqb n 0)
    (sym
    (ap (λ (n : ℕ). (hi * n + lo) % 2 ^ k) e ∙ ap (λ (n : ℕ). (n + lo) % 2 ^ k) (sym (mul_assoc hi (2 ^ (64 - k)) (2 ^ k)))
    ∙ mul-add-mod_self_right (hi * 2 ^ (64 - k)) (2 ^ k) lo))

-- all of the low word, and bits of the high word
split : (j hi lo : ℕ) → lo < 2 ^ 64 → (hi * 2 ^ 64 + lo) % 2 ^ (j + 64) ≡ hi % 2 ^ j * 2 ^ 64 + lo
split j hi lo h =
    let d : (hi * 2 ^ 64 + lo) / 2 ^ 64 ≡ hi = omega arith in
    let m : (hi * 2 ^ 64 + lo) % 2 ^ 64 ≡ lo = omega arith in
    ap (λ (n : ℕ). (hi * 2 ^ 64 + lo) % n) (pow-add 2 j 64)
    ∙ mod-mul (hi * 2 ^ 64 + lo) {m = 2 ^ j} {c = 2 ^ 64} (pow_pos j) (pow_pos 64) ∙ rw (d, m)

pub high : (j hi lo : ℕ) → lo ≡ 0 → low_zero j hi ≡ low_zero (j + 64) (hi * 2 ^ 64 + lo)
high j hi lo z =
    same_test (hi % 2 ^ j) ((hi * 2 ^ 64 + lo) % 2 ^ (j + 64)) (λ e. omega (arith, split j hi lo (omega arith)))
    (λ e. omega (arith, split j hi lo (omega arith)))

pub low_set : (j hi lo : ℕ) → lo < 2 ^ 64 → (lo ≡ 0 → ⊥) → false ≡ low_zero (j + 64) (hi * 2 ^ 64 + lo)
low_set j hi lo h z = sym (ne_eqb ((hi * 2 ^ 64 + lo) % 2 ^ (j + 64)) 0 (λ e. z (omega (arith, split j hi lo h))))

-- shifted down and up again, a word is the same where its lowest bits are 0
pub shifted : (k x : ℕ) → x < 2 ^ 64 → eqb (x / 2 ^ k * 2 ^ k % 2 ^ 64) x ≡ low_zero k x
shifted k x h =
    let s : x / 2 ^ k * 2 ^ k + x % 2 ^ k ≡ x = Pow.split x k in
    let m : x / 2 ^ k * 2 ^ k % 2 ^ 64 ≡ x / 2 ^ k * 2 ^ k = mod-eq_of_lt (omega arith) in
    rw m
    (⊎_elim (λ e. eq-eqb (x / 2 ^ k * 2 ^ k) x (omega arith) ∙ sym (eq-eqb (x % 2 ^ k) 0 e))
    (λ g. ne_eqb (x / 2 ^ k * 2 ^ k) x (λ e. omega arith) ∙ sym (ne_eqb (x % 2 ^ k) 0 (λ e. omega arith)))
    (eq-zero-or-pos (x % 2 ^ k)))
