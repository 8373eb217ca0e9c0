-- The decimal digits of a number: how many there are. Assumes nothing.
use Prim.Native.Nat.{ℕ, zero, suc, ◌+◌, ◌/◌, ◌%◌, ◌^◌, ◌≤◌, ◌<◌}
use mathlib.Core.List.{[], ◌∷◌}
use mathlib.Core.Logic.{⊎_elim}
use native.Mathlib.Nat.{pow-suc}
use native.Mathlib.Omega.{arith}
use borrow.Author.Tests.{lt-ltb, le-ltb}
use lib.ListN.{length, length-append}
use Rattle.answer.proofs.Tests.{order}
use Rattle.plan_show.specs.Text.{max_digits, digits_of, decimal}

length_digits : (most k n : ℕ) → n < 10 ^ suc k → length (digits_of most n) ≤ suc k
length_digits zero k n h = omega arith
length_digits (suc most) zero n h = rw (lt-ltb n 10 (omega (arith, h))) (omega arith)
length_digits (suc most) (suc k) n h =
    let r = length_digits most k (n / 10) (omega (arith, h, pow-suc 10 (suc k))) in
    ⊎_elim (λ b. rw (lt-ltb n 10 b) (omega arith))
    (λ b. rw (le-ltb n 10 b) (omega (arith, r, length-append (digits_of most (n / 10)) ((48 + n % 10) ∷ []))))
    (order n 10)

-- a number below 10^k has at most k digits
pub length_decimal : (k n : ℕ) → 0 < k → n < 10 ^ k → length (decimal n) ≤ k
unfolding decimal
length_decimal zero n p h = absurd (omega arith)
length_decimal (suc k) n p h = length_digits max_digits k n h
