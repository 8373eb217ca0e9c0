-- A turn of a loop that reads elements of any kind: one element more before what is left to parse, or the first fault. Assumes nothing.
use Rattle.std.proofs.Common.{Ok, Err}
use Prim.Native.Nat.{ℕ, suc, ◌+◌, ◌-◌, ◌≤◌, ◌<◌}
use mathlib.Core.Bool.{Bool, true, false}
use mathlib.Core.Path.{◌≡◌, refl, sym, ◌∙◌}
use mathlib.Core.List.{List, [], ◌∷◌, ◌++◌, append_assoc, append-nil}
use native.Mathlib.Nat.{not-suc-le-zero, sub-zero}
use native.Mathlib.Omega.{arith}
use borrow.Author.Tests.{le-leb, lt-leb}
use lib.ListN.{length, drop, length-drop, length-append}
use lib.Seq.{drop-drop}
use Rattle.answer.specs.declared.Refusal.{Refusal}
use Rattle.answer.specs.declared.Refusal.TheVariants.{BadRequestId, TooMany}
use Rattle.capsule.specs.Elements.{element, broken, Format, Parsed, fault, all, before, parse, settled, elements_in}

module _ {A : Type 0} (f : Format A) (fuel : ℕ) (earlier : List A) where
  -- one element, and what follows it
  pub parse-next : (s : List ℕ) (a : A) (n : ℕ) → 0 < length s → f.read s ≡ element a n → f.follows earlier a ≡ Ok tt
      → parse f (suc fuel) earlier s ≡ before (a ∷ []) (parse f fuel (a ∷ earlier) (drop n s))
  unfolding parse
  parse-next [] a n h q g = absurd (not-suc-le-zero h)
  parse-next (b ∷ s) a n h q g = rw (q, g)

  pub parse-stop : (s : List ℕ) (a : A) (n : ℕ) (r : Refusal) → 0 < length s → f.read s ≡ element a n → f.follows earlier a ≡ Err r
      → parse f (suc fuel) earlier s ≡ fault r
  unfolding parse
  parse-stop [] a n r h q g = absurd (not-suc-le-zero h)
  parse-stop (b ∷ s) a n r h q g = rw (q, g)

  pub parse-broken : (s : List ℕ) → 0 < length s → f.read s ≡ broken → parse f (suc fuel) earlier s ≡ fault f.wrong
  unfolding parse
  parse-broken [] h q = absurd (not-suc-le-zero h)
  parse-broken (b ∷ s) h q = rw q

  pub parse-end : (s : List ℕ) → length s ≤ 0 → parse f (suc fuel) earlier s ≡ all []
  unfolding parse
  parse-end [] h = refl
  parse-end (b ∷ s) h = absurd (not-suc-le-zero h)

module _ {A : Type 0} where
  pub before-before : (xs : List A) (a : A) (p : Parsed A) → before xs (before (a ∷ []) p) ≡ before (xs ++ (a ∷ [])) p
  before-before xs a (fault r) = refl
  before-before xs a (all bs) = rw append_assoc

  before-none : (p : Parsed A) → before [] p ≡ p
  before-none (fault r) = refl
  before-none (all xs) = refl

  -- the refusals of a whole list
  pub settled-empty : (asked : Bool) (limit : ℕ) (xs : List A) → length xs ≡ 0 → asked ≡ true → settled asked limit (all xs) ≡ fault BadRequestId
  settled-empty asked limit xs h e = rw (h, e)

  pub settled-many : (asked : Bool) (limit : ℕ) (xs : List A) → limit < length xs → settled asked limit (all xs) ≡ fault TooMany
  settled-many asked limit [] h = absurd (not-suc-le-zero h)
  settled-many asked limit (x ∷ xs) h = rw (lt-leb (suc (length xs)) limit h)

  pub settled-fine : (asked : Bool) (limit : ℕ) (xs : List A) → length xs ≤ limit → (length xs ≡ 0 → asked ≡ false) → settled asked limit (all xs) ≡ all xs
  settled-fine asked limit [] h e = rw (e refl)
  settled-fine asked limit (x ∷ xs) h e = rw (le-leb (suc (length xs)) limit h)

-- the loops' invariant: xs were read before `at`, and what is left, after the earlier elements, gives the whole answer
pub record Reading {A : Type 0} (f : Format A) (asked : Bool) (limit : ℕ) (s : List ℕ) (xs earlier : List A) (at : ℕ) : Type 0 where
  pub within : at ≤ length s
  pub behind : length xs ≤ at
  pub rest : settled asked limit (before xs (parse f (suc (length s - length xs)) earlier (drop at s))) ≡ elements_in f asked limit s

pub start : {A : Type 0} (f : Format A) (asked : Bool) (limit : ℕ) (s : List ℕ) → Reading f asked limit s [] [] 0
unfolding elements_in
start f asked limit s = record { within = omega arith; behind = omega arith; rest = rw (sub-zero, before-none) }

module _ {A : Type 0} {f : Format A} {asked : Bool} {limit : ℕ} {s : List ℕ} {xs earlier : List A} {at : ℕ} (i : Reading f asked limit s xs earlier at) where
  module _ (g : at < length s) where
    more : 0 < length (drop at s)
    more = simp length-drop (omega arith)

    module _ (a : A) (n : ℕ) (q : f.read (drop at s) ≡ element a n) where
      pub next : 1 ≤ n → n ≤ length (drop at s) → f.follows earlier a ≡ Ok tt → Reading f asked limit s (xs ++ (a ∷ [])) (a ∷ earlier) (at + n)
      next h w o =
          let l : length (xs ++ (a ∷ [])) ≡ length xs + 1 = length-append xs (a ∷ []) in
          let b : length xs ≤ at = i.behind in
          let k : length s - length xs ≡ suc (length s - (length xs + 1)) = omega arith in
          record {
            within = omega (arith, w, length-drop at s);
            behind = omega (arith, l);
            rest =
                rw (l, ← drop-drop n at s, ← before-before)
                (rw (k, parse-next f (suc (length s - (length xs + 1))) earlier (drop at s) a n more q o) at i.rest);
          }

      pub fault-rule : (r : Refusal) → f.follows earlier a ≡ Err r → fault r ≡ elements_in f asked limit s
      fault-rule r o = rw (parse-stop f (length s - length xs) earlier (drop at s) a n r more q o) at i.rest

    pub fault_layout : f.read (drop at s) ≡ broken → fault f.wrong ≡ elements_in f asked limit s
    fault_layout q = rw (parse-broken f (length s - length xs) earlier (drop at s) more q) at i.rest

  module _ (g : length s ≤ at) where
    none : length (drop at s) ≤ 0
    none = simp length-drop (omega arith)

    pub ended : settled asked limit (all xs) ≡ elements_in f asked limit s
    ended = rw (parse-end f (length s - length xs) earlier (drop at s) none, append-nil) at i.rest

    pub empty : length xs ≡ 0 → asked ≡ true → fault BadRequestId ≡ elements_in f asked limit s
    empty h e = sym (settled-empty asked limit xs h e) ∙ ended

    pub many : limit < length xs → fault TooMany ≡ elements_in f asked limit s
    many h = sym (settled-many asked limit xs h) ∙ ended

    pub fine : length xs ≤ limit → (length xs ≡ 0 → asked ≡ false) → all xs ≡ elements_in f asked limit s
    fine h e = sym (settled-fine asked limit xs h e) ∙ ended
