-- The four forms of `encode`, and its size. Assumes nothing.
use Prim.Native.Nat.{ℕ, ◌+◌, ◌*◌, ◌^◌, ◌<◌, ◌≤◌}
use mathlib.Core.Path.{◌≡◌, refl, ap}
use mathlib.Core.Logic.{◌⊎◌, inl, inr, ⊎_elim}
use native.Mathlib.Omega.{arith}
use borrow.Author.Tests.{lt-ltb, le-ltb}
use lib.ListN.{length}
use Rattle.octets.specs.Big.{digits}
use Rattle.answer.proofs.Tests.{order}
use Rattle.varint.specs.Numbers.{encode, encoded_size}

module _ (v : ℕ) where
  pub one : v < 2 ^ 6 → encode v ≡ digits 1 v
  unfolding encode
  one h = simp (lt-ltb _ _ h)

  pub two : 2 ^ 6 ≤ v → v < 2 ^ 14 → encode v ≡ digits 2 (2 ^ 14 + v)
  unfolding encode
  two g h = simp (le-ltb _ _ g, lt-ltb _ _ h)

  pub four : 2 ^ 6 ≤ v → 2 ^ 14 ≤ v → v < 2 ^ 30 → encode v ≡ digits 4 (2 ^ 31 + v)
  unfolding encode
  four f g h = simp (le-ltb _ _ f, le-ltb _ _ g, lt-ltb _ _ h)

  pub eight : 2 ^ 6 ≤ v → 2 ^ 14 ≤ v → 2 ^ 30 ≤ v → encode v ≡ digits 8 (3 * 2 ^ 62 + v)
  unfolding encode
  eight f g h = simp (le-ltb _ _ f, le-ltb _ _ g, le-ltb _ _ h)

-- the size in each range
module _ (v : ℕ) where
  pub size-one : v < 2 ^ 6 → encoded_size v ≡ 1
  unfolding encoded_size
  size-one h = ap length (one v h)

  pub size-two : 2 ^ 6 ≤ v → v < 2 ^ 14 → encoded_size v ≡ 2
  unfolding encoded_size
  size-two g h = ap length (two v g h)

  pub size-four : 2 ^ 6 ≤ v → 2 ^ 14 ≤ v → v < 2 ^ 30 → encoded_size v ≡ 4
  unfolding encoded_size
  size-four f g h = ap length (four v f g h)

  pub size-eight : 2 ^ 6 ≤ v → 2 ^ 14 ≤ v → 2 ^ 30 ≤ v → encoded_size v ≡ 8
  unfolding encoded_size
  size-eight f g h = ap length (eight v f g h)

-- the size is 1, 2, 4 or 8
pub size_cases : (v : ℕ) → (encoded_size v ≡ 1) ⊎ ((encoded_size v ≡ 2) ⊎ ((encoded_size v ≡ 4) ⊎ (encoded_size v ≡ 8)))
size_cases v =
    ⊎_elim (λ a. inl (size-one v a))
    (λ a.
    ⊎_elim (λ b. inr (inl (size-two v a b)))
    (λ b. ⊎_elim (λ d. inr (inr (inl (size-four v a b d)))) (λ d. inr (inr (inr (size-eight v a b d)))) (order v (2 ^ 30)))
    (order v (2 ^ 14)))
    (order v (2 ^ 6))

pub size-bounds : (v : ℕ) → (1 ≤ encoded_size v) × (encoded_size v ≤ 8)
size-bounds v =
    ⊎_elim (λ a. (omega arith, omega arith))
    (λ a. ⊎_elim (λ b. (omega arith, omega arith)) (λ b. ⊎_elim (λ d. (omega arith, omega arith)) (λ d. (omega arith, omega arith)) b) a)
    (size_cases v)

pub size_small : (v : ℕ) → v < 2 ^ 30 → encoded_size v ≤ 4
size_small v h =
    ⊎_elim (λ a. omega (arith, size-one v a))
    (λ a. ⊎_elim (λ b. omega (arith, size-two v a b)) (λ b. omega (arith, size-four v a b h)) (order v (2 ^ 14)))
    (order v (2 ^ 6))

pub length_encode : (v : ℕ) → length (encode v) ≡ encoded_size v
unfolding encoded_size
length_encode v = refl

-- the form by the size
module _ (v : ℕ) where
  pub of-size_one : encoded_size v ≡ 1 → encode v ≡ digits 1 v
  of-size_one e =
      ⊎_elim (λ a. one v a)
      (λ a.
      absurd (⊎_elim (λ b. omega (arith, size-two v a b))
      (λ b. ⊎_elim (λ d. omega (arith, size-four v a b d)) (λ d. omega (arith, size-eight v a b d)) (order v (2 ^ 30)))
      (order v (2 ^ 14))))
      (order v (2 ^ 6))

  pub of-size_two : encoded_size v ≡ 2 → v < 2 ^ 14 → encode v ≡ digits 2 (2 ^ 14 + v)
  of-size_two e h = ⊎_elim (λ a. absurd (omega (arith, size-one v a))) (λ a. two v a h) (order v (2 ^ 6))

  pub of-size_four : encoded_size v ≡ 4 → v < 2 ^ 30 → encode v ≡ digits 4 (2 ^ 31 + v)
  of-size_four e h =
      ⊎_elim (λ a. absurd (omega (arith, size-one v a)))
      (λ a. ⊎_elim (λ b. absurd (omega (arith, size-two v a b))) (λ b. four v a b h) (order v (2 ^ 14)))
      (order v (2 ^ 6))

  pub of-size_eight : encoded_size v ≡ 8 → encode v ≡ digits 8 (3 * 2 ^ 62 + v)
  of-size_eight e =
      ⊎_elim (λ a. absurd (omega (arith, size-one v a)))
      (λ a.
      ⊎_elim (λ b. absurd (omega (arith, size-two v a b)))
      (λ b. ⊎_elim (λ d. absurd (omega (arith, size-four v a b d))) (λ d. eight v a b d) (order v (2 ^ 30)))
      (order v (2 ^ 14)))
      (order v (2 ^ 6))
