-- The high bits of numbers of two words: below 64 the low words lose bits, from 64 on the high words, and past 128 none are left. Assumes nothing.
use Prim.Native.Nat.{ℕ, ◌+◌, ◌-◌, ◌*◌, ◌/◌, ◌^◌, ◌<◌, ◌≤◌}
use mathlib.Core.Bool.{Bool, true, false}
use mathlib.Core.Path.{◌≡◌, refl, sym, ap, ◌∙◌}
use native.Mathlib.Nat.{div-eq_of_lt, lt_of_lt_of_le, mul_assoc, mul-add-div_right}
use native.Mathlib.Omega.{arith}
use borrow.Author.Tests.{eq-eqb, ne_eqb, eqb-true, eqb-false}
use lib.Dec.{eqb}
use lib.Pow.{pow_pos, pow_mono, pow-add, shr-shr}
use lib.Pow as Pow
use Rattle.octets.specs.Wide.{wide}
use Rattle.policy.specs.Granted.{high_bits}

-- two tests are equal where each fact gives the other
eqb_same : (a b c d : ℕ) → (a ≡ b → c ≡ d) → (c ≡ d → a ≡ b) → eqb a b ≡ eqb c d
eqb_same a b c d f g = go (eqb c d) refl (eqb a b) refl
  where
    go : (t : Bool) → eqb c d ≡ t → (u : Bool) → eqb a b ≡ u → eqb a b ≡ eqb c d
    go true e u q = eq-eqb a b (g (eqb-true c d e)) ∙ sym e
    go false e false q = q ∙ sym e
    go false e true q = absurd (eqb-false c d e (f (eqb-true a b q)))

add_cancel : (m x y : ℕ) → m + x ≡ m + y → x ≡ y
add_cancel m x y e = omega arith

-- the high bits of one number
module _ (k hi lo : ℕ) where
  pub high-low : k ≤ 64 → high_bits k (wide hi lo) ≡ hi * 2 ^ (64 - k) + high_bits k lo
  high-low h =
      let s : 64 ≡ 64 - k + k = omega arith in
      let e : 2 ^ 64 ≡ 2 ^ (64 - k) * 2 ^ k = ap (λ (n : ℕ). 2 ^ n) s ∙ pow-add 2 (64 - k) k in
      ap (λ (n : ℕ). (hi * n + lo) / 2 ^ k) e
      ∙ ap (λ (n : ℕ). (n + lo) / 2 ^ k) (sym (mul_assoc hi (2 ^ (64 - k)) (2 ^ k)))
      ∙ mul-add-div_right (pow_pos k) (hi * 2 ^ (64 - k)) lo

  pub high_top : k ≤ 64 → lo < 2 ^ 64 → high_bits (64 - k) (high_bits k (wide hi lo)) ≡ hi
  high_top h l =
      let s : k + (64 - k) ≡ 64 = omega arith in
      shr-shr (wide hi lo) k (64 - k) ∙ ap (λ (n : ℕ). wide hi lo / 2 ^ n) s ∙ Pow.high hi 64 l

  pub high-high : 64 ≤ k → lo < 2 ^ 64 → high_bits k (wide hi lo) ≡ high_bits (k - 64) hi
  high-high h l =
      let s : k ≡ 64 + (k - 64) = omega arith in
      ap (λ (n : ℕ). wide hi lo / 2 ^ n) s ∙ sym (shr-shr (wide hi lo) 64 (k - 64))
      ∙ ap (λ (n : ℕ). n / 2 ^ (k - 64)) (Pow.high hi 64 l)

  pub high-none : 128 ≤ k → hi < 2 ^ 64 → lo < 2 ^ 64 → high_bits k (wide hi lo) ≡ 0
  high-none h g l =
      high-high (omega arith) l ∙ div-eq_of_lt (lt_of_lt_of_le g (pow_mono {i = 64} (omega arith)))

-- whether those of two numbers are equal
module _ (k ah al bh bl : ℕ) where
  pub high-differ : k ≤ 64 → al < 2 ^ 64 → bl < 2 ^ 64 → (ah ≡ bh → ⊥) → false ≡ eqb (high_bits k (wide ah al)) (high_bits k (wide bh bl))
  high-differ h a b n =
      sym
      (ne_eqb (high_bits k (wide ah al)) (high_bits k (wide bh bl))
      (λ e. n (sym (high_top k ah al h a) ∙ ap (λ (m : ℕ). m / 2 ^ (64 - k)) e ∙ high_top k bh bl h b)))

  pub high_same_low : k ≤ 64 → ah ≡ bh → eqb (high_bits k al) (high_bits k bl) ≡ eqb (high_bits k (wide ah al)) (high_bits k (wide bh bl))
  high_same_low h q =
      rw (q, high-low k bh al h, high-low k bh bl h)
      (eqb_same (high_bits k al) (high_bits k bl) (bh * 2 ^ (64 - k) + high_bits k al) (bh * 2 ^ (64 - k) + high_bits k bl)
      (λ e. ap (λ (m : ℕ). bh * 2 ^ (64 - k) + m) e)
      (λ e. add_cancel (bh * 2 ^ (64 - k)) (high_bits k al) (high_bits k bl) e))

  pub high_same_high : 64 ≤ k → al < 2 ^ 64 → bl < 2 ^ 64
      → eqb (high_bits (k - 64) ah) (high_bits (k - 64) bh) ≡ eqb (high_bits k (wide ah al)) (high_bits k (wide bh bl))
  high_same_high h a b = rw (high-high k ah al h a, high-high k bh bl h b)

  pub high_same_none : 128 ≤ k → ah < 2 ^ 64 → al < 2 ^ 64 → bh < 2 ^ 64 → bl < 2 ^ 64
      → true ≡ eqb (high_bits k (wide ah al)) (high_bits k (wide bh bl))
  high_same_none h f a g b = rw (high-none k ah al h f a, high-none k bh bl h g b)
