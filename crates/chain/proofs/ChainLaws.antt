-- The chain of IPv6 headers, step by step: the count of `walk` is never used up. Assumes nothing.
use mathlib.Core.Path.{◌≡◌, refl, sym, ap, ◌∙◌}
use mathlib.Core.Bool.{Bool, true, false, not}
use mathlib.Core.List.{List, ◌++◌}
use Prim.Native.Nat.{ℕ, zero, suc, ◌+◌, ◌-◌, ◌*◌, ◌≤◌, ◌<◌}
use native.Mathlib.Nat.{add-zero}
use native.Mathlib.Omega.{arith}
use lib.ListN.{length, get_or, drop, length-drop, length-append, get_or-append, get_or-eq_default}
use lib.Seq.{get_or-drop, drop-drop, get_or-append-add}
use lib.Dec.{ltb, leb, eqb}
use borrow.Author.Tests.{ltb-false, leb-true, leb-false, lt-ltb, le-ltb, eq-eqb, ne_eqb}
use Rattle.answer.specs.Choice.{pick}
use Rattle.std.specs.Prelude.{Option, Some, None}
use Rattle.chain.specs.Chain.{plain, fragment, class_of, size_of, offset_of, later, onward, behind, walk, chain}

-- a header has 8 bytes at least
pub size-least : (c : ℕ) (l : List ℕ) → 8 ≤ size_of c l
unfolding size_of
size-least c l = go (eqb c fragment)
  where
    go : (b : Bool) → 8 ≤ pick b 8 (8 + c * get_or l 1 0)
    go true = omega arith
    go false = omega arith

-- what lies behind a header counts where that is there whole
onward-same : (n : ℕ) (l : List ℕ) {r s : Option ℕ} → (size_of (class_of n) l ≤ length l → r ≡ s) → onward n l r ≡ onward n l s
unfolding onward
onward-same n l {r} {s} f = go (eqb (class_of n) plain) (ltb (length l) (size_of (class_of n) l)) (later (class_of n) l) (λ e. f (ltb-false _ _ e))
  where
    go : (a b c : Bool) → (b ≡ false → r ≡ s) → pick a (Some n) (pick b None (pick c (Some n) r)) ≡ pick a (Some n) (pick b None (pick c (Some n) s))
    go true b c g = refl
    go false true c g = refl
    go false false true g = refl
    go false false false g = g refl

-- what lies behind a header that is there whole is 8 bytes shorter at least
pub behind-shorter : (n : ℕ) (l : List ℕ) → size_of (class_of n) l ≤ length l → length (behind n l) + 8 ≤ length l
behind-shorter n l h = omega (arith, length-drop (size_of (class_of n) l) l, size-least (class_of n) l)

-- any two counts that are large enough
walk-enough : (k j n : ℕ) (l : List ℕ) → length l < k → length l < j → walk k n l ≡ walk j n l
unfolding walk
walk-enough zero j n l h m = absurd (omega arith)
walk-enough (suc k) zero n l h m = absurd (omega arith)
walk-enough (suc k) (suc j) n l h m =
    onward-same n l (λ w.
    let b = behind-shorter n l w in
    walk-enough k j (get_or l 0 0) (behind n l) (omega arith) (omega arith))

module _ (n : ℕ) (l : List ℕ) where
  -- a header, and the chain behind it
  pub chain-step : chain n l ≡ onward n l (chain (get_or l 0 0) (behind n l))
  unfolding chain walk
  chain-step =
      onward-same n l (λ w.
      let b = behind-shorter n l w in
      walk-enough (length l) (suc (length (behind n l))) (get_or l 0 0) (behind n l) (omega arith) (omega arith))

  pub chain-plain : class_of n ≡ plain → chain n l ≡ Some n
  unfolding onward
  chain-plain e = rw (chain-step, eq-eqb _ _ e)

  module _ (x : class_of n ≡ plain → ⊥) where
    pub chain-past : length l < size_of (class_of n) l → chain n l ≡ None
    unfolding onward
    chain-past h = rw (chain-step, ne_eqb _ _ x, lt-ltb _ _ h)

    module _ (h : size_of (class_of n) l ≤ length l) where
      pub chain-later : later (class_of n) l ≡ true → chain n l ≡ Some n
      unfolding onward
      chain-later e = rw (chain-step, ne_eqb _ _ x, le-ltb _ _ h, e)

      pub chain_next : later (class_of n) l ≡ false → chain n l ≡ chain (get_or l 0 0) (behind n l)
      unfolding onward
      chain_next e = rw (chain-step, ne_eqb _ _ x, le-ltb _ _ h, e)

-- ---- the steps by which the code reads a header

module _ (c : ℕ) (l : List ℕ) where
  pub size-fragment : c ≡ fragment → 8 ≡ size_of c l
  unfolding size_of
  size-fragment e = rw (eq-eqb c fragment e)

  pub size-counted : (c ≡ fragment → ⊥) → 8 + c * get_or l 1 0 ≡ size_of c l
  unfolding size_of
  size-counted x = rw (ne_eqb c fragment x)

  pub later-other : (c ≡ fragment → ⊥) → false ≡ later c l
  unfolding later
  later-other x = rw (ne_eqb c fragment x)

  module _ (e : c ≡ fragment) where
    pub later-high : (get_or l 2 0 ≡ 0 → ⊥) → true ≡ later c l
    unfolding later
    later-high x = rw (eq-eqb c fragment e, ne_eqb (offset_of l) 0 (λ z. x (omega arith)))

    pub later-low : get_or l 2 0 ≡ 0 → leb 8 (get_or l 3 0) ≡ later c l
    unfolding later
    later-low z = rw (eq-eqb c fragment e) (go (leb 8 (get_or l 3 0)) refl)
      where
        go : (b : Bool) → leb 8 (get_or l 3 0) ≡ b → leb 8 (get_or l 3 0) ≡ not (eqb (offset_of l) 0)
        go true h = let k = leb-true 8 (get_or l 3 0) h in rw (h, ne_eqb (offset_of l) 0 (λ o. omega arith))
        go false h = let k = leb-false 8 (get_or l 3 0) h in rw (h, eq-eqb (offset_of l) 0 (omega arith))

-- the byte of a packet in two parts, 0 past its end
module _ (front tail : List ℕ) where
  pub in_front : (i : ℕ) → i < length front → get_or front i 0 ≡ get_or (front ++ tail) i 0
  in_front i h = sym (get_or-append front tail 0 i h)

  pub in_tail : (i : ℕ) → length front ≤ i → get_or tail (i - length front) 0 ≡ get_or (front ++ tail) i 0
  in_tail i h =
      sym (get_or-append-add front tail (i - length front) 0)
      ∙ ap (λ (k : ℕ). get_or (front ++ tail) k 0) (let e : length front + (i - length front) ≡ i = omega arith in e)

  pub in_neither : (i : ℕ) → length front + length tail ≤ i → 0 ≡ get_or (front ++ tail) i 0
  in_neither i h = sym (get_or-eq_default (front ++ tail) 0 (omega (arith, length-append front tail)))

first_byte : (at : ℕ) (p : List ℕ) → get_or (drop at p) 0 0 ≡ get_or p at 0
first_byte at p = get_or-drop at p 0 0 ∙ ap (λ (i : ℕ). get_or p i 0) (add-zero at)

-- the turn at a header: number, at and class are where the walk over p stands, and what is left of the chain is all of it
pub record Walking (p : List ℕ) (first number at class : ℕ) : Type 0 where
  pub within : at ≤ length p
  pub named : class ≡ class_of number
  pub rest : chain number (drop at p) ≡ chain first (drop 40 p)

module _ (p : List ℕ) (first : ℕ) where
  pub walk-starts : 40 ≤ length p → {c : ℕ} → c ≡ class_of first → Walking p first first 40 c
  walk-starts h e = record { within = h; named = e; rest = refl }

  module _ {number at class : ℕ} (w : Walking p first number at class) where
    left : length (drop at p) ≡ length p - at
    left = length-drop at p

    pub walk-plain : class ≡ plain → Some number ≡ chain first (drop 40 p)
    walk-plain e = sym (chain-plain number (drop at p) (sym w.named ∙ e)) ∙ w.rest

    module _ (x : class ≡ plain → ⊥) where
      named : class_of number ≡ plain → ⊥
      named e = x (w.named ∙ e)

      pub walk-past : length p - at < size_of class (drop at p) → None ≡ chain first (drop 40 p)
      walk-past h = sym (chain-past number (drop at p) named (rw (sym w.named) (omega (arith, left)))) ∙ w.rest

      module _ (h : size_of class (drop at p) ≤ length p - at) where
        fits : size_of (class_of number) (drop at p) ≤ length (drop at p)
        fits = rw (sym w.named) (omega (arith, left))

        pub walk-later : later class (drop at p) ≡ true → Some number ≡ chain first (drop 40 p)
        walk-later e = sym (chain-later number (drop at p) named fits (rw (sym w.named) e)) ∙ w.rest

        pub walk-next : later class (drop at p) ≡ false → {n s c : ℕ} → n ≡ get_or p at 0 → s ≡ size_of class (drop at p) → c ≡ class_of n
            → Walking p first n (at + s) c
        walk-next e {n = n} f g k =
            record {
              within = omega (arith, w.within);
              named = k;
              rest =
                  ap (λ (i : ℕ). chain n (drop (at + i) p)) (g ∙ ap (λ (x : ℕ). size_of x (drop at p)) w.named)
                  ∙ ap (chain n) (sym (drop-drop (size_of (class_of number) (drop at p)) at p))
                  ∙ ap (λ (x : ℕ). chain x (behind number (drop at p))) (f ∙ sym (first_byte at p))
                  ∙ sym (chain_next number (drop at p) named fits (rw (sym w.named) e))
                  ∙ w.rest;
            }

-- a header that says how long it is and lies in the front of a packet
module _ (front tail : List ℕ) (first : ℕ) {number at class : ℕ} (w : Walking (front ++ tail) first number at class) (e : fragment < class)
    (h : at + (8 + class * get_or front (at + 1) 0) ≤ length front) where
  counted-size : 8 + class * get_or front (at + 1) 0 ≡ size_of class (drop at (front ++ tail))
  counted-size =
      ap (λ (n : ℕ). 8 + class * n) (in_front front tail (at + 1) (omega arith) ∙ sym (get_or-drop at (front ++ tail) 1 0))
      ∙ size-counted class (drop at (front ++ tail)) (λ f. omega arith)

  pub walk-counted : {c m : ℕ} → c ≡ class_of (get_or front at 0) → m ≡ at + (8 + class * get_or front (at + 1) 0) → Walking (front ++ tail) first (get_or front at 0) m c
  walk-counted k q =
      rw q
      (walk-next (front ++ tail) first w (λ f. omega arith) (omega (arith, counted-size, length-append front tail))
      (sym (later-other class (drop at (front ++ tail)) (λ f. omega arith))) (in_front front tail at (omega arith)) counted-size k)
