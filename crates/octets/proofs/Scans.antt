-- Scans of a list that is read by its indices: the invariants of the loops that look for one element, or test them all. Assumes nothing.
use Prim.Native.Nat.{ℕ, zero, suc, ◌+◌, ◌-◌, ◌≤◌, ◌<◌}
use mathlib.Core.Bool.{Bool, true, false, ◌&&◌, ◌||◌, and_assoc, or_assoc}
use mathlib.Core.Path.{◌≡◌, refl, sym, ap}
use mathlib.Core.List.{List, [], ◌∷◌, ◌++◌}
use native.Mathlib.Nat.{sub-zero}
use native.Mathlib.Numerals.{add-one}
use native.Mathlib.Omega.{arith}
use lib.ListN.{length}
use Rattle.octets.specs.Scan.{from, any_of, all_of}

module _ {A : Type 0} where
  -- what is left at i, where the list has n elements
  pub from_more : (f : ℕ → A) (i n : ℕ) → i < n → from f i (n - i) ≡ f i ∷ from f (i + 1) (n - (i + 1))
  from_more f i n h = let k : n - i ≡ suc (n - (i + 1)) = omega arith in rw (k, add-one)

  pub from_end : (f : ℕ → A) (i n : ℕ) → n ≤ i → from f i (n - i) ≡ []
  from_end f i n h = let k : n - i ≡ 0 = omega arith in rw k

  pub from_suc : (f : ℕ → A) (i n : ℕ) → from f (suc i) n ≡ from (λ k. f (suc k)) i n
  from_suc f i zero = refl
  from_suc f i (suc n) = ap (λ (l : List A). f (suc i) ∷ l) (from_suc f (suc i) n)

  pub length_from : (f : ℕ → A) (i n : ℕ) → length (from f i n) ≡ n
  length_from f i zero = refl
  length_from f i (suc n) = ap suc (length_from f (suc i) n)

  pub from-same : (f g : ℕ → A) → ((k : ℕ) → f k ≡ g k) → (i n : ℕ) → from f i n ≡ from g i n
  from-same f g e i zero = refl
  from-same f g e i (suc n) = rw (e i, from-same f g e (suc i) n)

-- a test over two lists, one after the other
module _ {A : Type 0} (p : A → Bool) where
  pub any_append : (xs ys : List A) → any_of p (xs ++ ys) ≡ (any_of p xs || any_of p ys)
  any_append [] ys = refl
  any_append (x ∷ xs) ys = rw (any_append xs ys) (sym (or_assoc (p x) (any_of p xs) (any_of p ys)))

  pub all_append : (xs ys : List A) → all_of p (xs ++ ys) ≡ (all_of p xs && all_of p ys)
  all_append [] ys = refl
  all_append (x ∷ xs) ys = rw (all_append xs ys) (sym (and_assoc (p x) (all_of p xs) (all_of p ys)))

-- no element before i passes the test p: what those from i on say is the answer b
pub record Seeking {A : Type 0} (p : A → Bool) (f : ℕ → A) (n : ℕ) (b : Bool) (i : ℕ) : Type 0 where
  pub within : i ≤ n
  pub rest : any_of p (from f i (n - i)) ≡ b

module _ {A : Type 0} {p : A → Bool} {f : ℕ → A} {n : ℕ} {b : Bool} where
  pub any_start : any_of p (from f 0 n) ≡ b → Seeking p f n b 0
  any_start e = record { within = omega arith; rest = rw sub-zero e }

  module _ {i : ℕ} (s : Seeking p f n b i) where
    pub any_hit : {x : A} → i < n → x ≡ f i → p x ≡ true → true ≡ b
    any_hit h q e = rw (from_more f i n h, ← q, e) at s.rest

    pub any_miss : {x : A} → i < n → x ≡ f i → p x ≡ false → Seeking p f n b (i + 1)
    any_miss h q e = record { within = omega arith; rest = rw (from_more f i n h, ← q, e) at s.rest }

    pub any_end : n ≤ i → false ≡ b
    any_end h = rw (from_end f i n h) at s.rest

-- every element before i passes the test p: what those from i on say is the answer b
pub record Checking {A : Type 0} (p : A → Bool) (f : ℕ → A) (n : ℕ) (b : Bool) (i : ℕ) : Type 0 where
  pub within : i ≤ n
  pub rest : all_of p (from f i (n - i)) ≡ b

module _ {A : Type 0} {p : A → Bool} {f : ℕ → A} {n : ℕ} {b : Bool} where
  pub all_start : all_of p (from f 0 n) ≡ b → Checking p f n b 0
  all_start e = record { within = omega arith; rest = rw sub-zero e }

  module _ {i : ℕ} (s : Checking p f n b i) where
    pub all_fail : {x : A} → i < n → x ≡ f i → p x ≡ false → false ≡ b
    all_fail h q e = rw (from_more f i n h, ← q, e) at s.rest

    pub all_pass : {x : A} → i < n → x ≡ f i → p x ≡ true → Checking p f n b (i + 1)
    all_pass h q e = record { within = omega arith; rest = rw (from_more f i n h, ← q, e) at s.rest }

    pub all_end : n ≤ i → true ≡ b
    all_end h = rw (from_end f i n h) at s.rest
