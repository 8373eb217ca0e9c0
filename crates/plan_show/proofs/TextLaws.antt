-- `decimal` is right: it has digits only, they read back as the number, and only 0 starts with a 0. Assumes nothing.
use Rattle.std.specs.Prelude.{ℕ, zero, suc, ◌+◌, ◌-◌, ◌*◌, ◌/◌, ◌%◌, ◌^◌, ◌<◌, true, ◌≡◌, refl, List, [], ◌∷◌, ◌++◌, get_or}
use Rattle.std.proofs.Common.{◌∙◌, ⊎_elim, pow-suc, arith, lt-ltb, le-ltb, le-leb}
use Rattle.answer.proofs.Tests.{order}
use Rattle.octets.specs.Scan.{all_of}
use Rattle.octets.proofs.Scans.{all_append}
use Rattle.plan_show.specs.Text.{max_digits, digits_of, decimal}
use Rattle.plan_show.specs.TextLaws.{value_from, is_digit}

value_append : (acc : ℕ) (xs : List ℕ) (d : ℕ) → value_from acc (xs ++ (d ∷ [])) ≡ value_from acc xs * 10 + (d - 48)
value_append acc [] d = refl
value_append acc (x ∷ xs) d = value_append (acc * 10 + (x - 48)) xs d

value-digits : (most n : ℕ) → n < 10 ^ suc most → value_from 0 (digits_of (suc most) n) ≡ n
value-digits zero n h = rw (lt-ltb n 10 (omega (arith, h))) (omega arith)
value-digits (suc most) n h =
    let r = value-digits most (n / 10) (omega (arith, h, pow-suc 10 (suc most))) in
    ⊎_elim (λ b. rw (lt-ltb n 10 b) (omega arith))
    (λ b. rw (le-ltb n 10 b) (value_append 0 (digits_of (suc most) (n / 10)) (48 + n % 10) ∙ rw r (omega arith)))
    (order n 10)

pub decimal-value : (n : ℕ) → n < 10 ^ max_digits → value_from 0 (decimal n) ≡ n
unfolding decimal
decimal-value n h = value-digits (max_digits - 1) n h

-- ---- digits only

digit_last : (n : ℕ) → all_of is_digit ((48 + n % 10) ∷ []) ≡ true
digit_last n = rw (le-leb 48 (48 + n % 10) (omega arith), le-leb (48 + n % 10) 57 (omega arith))

all_digits : (most n : ℕ) → all_of is_digit (digits_of most n) ≡ true
all_digits zero n = refl
all_digits (suc most) n =
    ⊎_elim (λ b. rw (lt-ltb n 10 b) (digit_last n))
    (λ b. rw (le-ltb n 10 b) (all_append is_digit (digits_of most (n / 10)) ((48 + n % 10) ∷ []) ∙ rw (all_digits most (n / 10)) (digit_last n)))
    (order n 10)

pub decimal-digits : (n : ℕ) → all_of is_digit (decimal n) ≡ true
unfolding decimal
decimal-digits n = all_digits max_digits n

-- ---- no leading zero

lead_append : (xs ys : List ℕ) → 48 < get_or xs 0 0 → 48 < get_or (xs ++ ys) 0 0
lead_append [] ys h = absurd (omega arith)
lead_append (x ∷ xs) ys h = h

lead_digits : (most n : ℕ) → 0 < n → n < 10 ^ suc most → 48 < get_or (digits_of (suc most) n) 0 0
lead_digits zero n p h = rw (lt-ltb n 10 (omega (arith, h))) (omega arith)
lead_digits (suc most) n p h =
    ⊎_elim (λ b. rw (lt-ltb n 10 b) (omega arith))
    (λ b. rw (le-ltb n 10 b) (lead_append (digits_of (suc most) (n / 10)) ((48 + n % 10) ∷ []) (lead_digits most (n / 10) (omega arith) (omega (arith, h, pow-suc 10 (suc most))))))
    (order n 10)

pub decimal_lead : (n : ℕ) → 0 < n → n < 10 ^ max_digits → 48 < get_or (decimal n) 0 0
unfolding decimal
decimal_lead n p h = lead_digits (max_digits - 1) n p h
