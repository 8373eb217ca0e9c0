-- A range that holds an address and allows a protocol, by its cases in the code's order; what single words tell: of an IPv4 address the low ones,
-- of any other those of the end. Assumes nothing.
use Prim.Native.Nat.{ℕ, zero, suc, ◌+◌, ◌*◌, ◌^◌, ◌≤◌, ◌<◌}
use mathlib.Core.Bool.{Bool, true, false, ◌&&◌, and-false}
use mathlib.Core.Path.{◌≡◌, refl, sym}
use mathlib.Core.List.{List}
use native.Mathlib.Omega.{arith}
use borrow.Author.Tests.{eq-eqb, ne_eqb, eqb-true, eqb-false, lt-leb}
use lib.Dec.{leb, eqb}
use lib.ListN.{get_or}
use Rattle.answer.proofs.Tests.{and_both}
use Rattle.octets.specs.Scan.{from}
use Rattle.inet.specs.declared.Address.{Address}
use Rattle.lists.specs.declared.RouteRange.{RouteRange}
use Rattle.lists.specs.Rules.{start_of, end_of, sound_range, in_order, before_all, sound_after}
use Rattle.lists.specs.Words.{words_per_range, count_of, range_at, ranges_of, sound_routes}
use Rattle.lists.proofs.RangeRule.{range_facts}
use Rattle.lists.proofs.ListScans.{routes_facts}
use Rattle.policy.specs.Granted.{address_value, holds, allows, admits}

module _ (a : Address) (p : ℕ) (icmp : Bool) (r : RouteRange) where
  pub admits-other_version : (r.version ≡ a.version → ⊥) → false ≡ admits a p icmp r
  unfolding admits
  admits-other_version n = simp (ne_eqb r.version a.version n)

  pub admits-before : r.version ≡ a.version → leb (start_of r) (address_value a) ≡ false → false ≡ admits a p icmp r
  unfolding admits
  admits-before v s = rw (eq-eqb r.version a.version v, s)

  pub admits-past : leb (address_value a) (end_of r) ≡ false → false ≡ admits a p icmp r
  unfolding admits
  admits-past t = simp (t, and-false)

  pub admits-not_held : holds a r ≡ false → false ≡ admits a p icmp r
  unfolding admits
  admits-not_held e = rw e

  -- a range that holds the address and names no protocol allows every one
  pub admits_every : r.version ≡ a.version → leb (start_of r) (address_value a) ≡ true → leb (address_value a) (end_of r) ≡ true → r.protocol ≡ 0
      → true ≡ admits a p icmp r
  unfolding admits
  admits_every v s t z = rw (eq-eqb r.version a.version v, s, t, eq-eqb r.protocol 0 z)

  pub admits_held : holds a r ≡ true → {t : Bool} → t ≡ allows p icmp r → t ≡ admits a p icmp r
  unfolding admits
  admits_held e q = rw e q

  -- of an IPv4 address and a sound range the low words alone tell that it is not held: a range of its version has no high words
  module _ (s : sound_range r ≡ true) (four : a.version ≡ 4) where
    of-version : (r.version ≡ a.version → admits a p icmp r ≡ false) → admits a p icmp r ≡ false
    of-version f = go (eqb r.version a.version) refl
      where
        go : (t : Bool) → eqb r.version a.version ≡ t → admits a p icmp r ≡ false
        go true q = f (eqb-true r.version a.version q)
        go false q = sym (admits-other_version (eqb-false r.version a.version q))

    pub admits_low_past : r.end_lo < a.lo → admits a p icmp r ≡ false
    admits_low_past h =
        of-version
        (λ v.
        let e : end_of r < 2 ^ 32 = (range_facts r s).version.ipv4 (omega arith) in
        sym (admits-past (lt-leb (address_value a) (end_of r) (omega arith))))

    pub admits_low_before : a.lo < r.start_lo → admits a p icmp r ≡ false
    admits_low_before h =
        of-version
        (λ v.
        let f = range_facts r s in
        let e : end_of r < 2 ^ 32 = f.version.ipv4 (omega arith) in
        let b : start_of r ≤ end_of r = f.ends in
        go v e b (eqb a.hi 0) refl)
      where
        go : r.version ≡ a.version → end_of r < 2 ^ 32 → start_of r ≤ end_of r → (t : Bool) → eqb a.hi 0 ≡ t → admits a p icmp r ≡ false
        go v e b true q =
            let z : a.hi ≡ 0 = eqb-true a.hi 0 q in
            sym (admits-before v (lt-leb (start_of r) (address_value a) (omega arith)))
        go v e b false q =
            let n : a.hi ≡ 0 → ⊥ = eqb-false a.hi 0 q in
            sym (admits-past (lt-leb (address_value a) (end_of r) (omega (arith, n))))

-- the words of range i that the search of any other address looks at first
module _ (w : List ℕ) (i : ℕ) (a : Address) (p : ℕ) (icmp : Bool) where
  pub skip-high : get_or w (i * words_per_range + 5) 0 < 2 ^ 64 → get_or w (i * words_per_range + 4) 0 < a.hi → admits a p icmp (range_at w i) ≡ false
  unfolding range_at
  skip-high f h = sym (admits-past a p icmp (range_at w i) (lt-leb (address_value a) (end_of (range_at w i)) (omega arith)))

  pub skip-low : get_or w (i * words_per_range + 4) 0 ≤ a.hi → get_or w (i * words_per_range + 5) 0 < a.lo → admits a p icmp (range_at w i) ≡ false
  unfolding range_at
  skip-low f h = sym (admits-past a p icmp (range_at w i) (lt-leb (address_value a) (end_of (range_at w i)) (omega arith)))

-- ---- a sound list

-- each of its ranges is sound
after-each : (f : ℕ → RouteRange) (b : RouteRange) (i n k : ℕ) → sound_after b (from f i n) ≡ true → i ≤ k → k < i + n → sound_range (f k) ≡ true
after-each f b i zero k s l u = absurd (omega arith)
after-each f b i (suc n) k s l u =
    let first = and_both (sound_range (f i)) (in_order b (f i) && sound_after (f i) (from f (suc i) n)) s in
    let rest = (and_both (in_order b (f i)) (sound_after (f i) (from f (suc i) n)) first.1).1 in
    go first.0 (λ h. after-each f (f i) (suc i) n k rest h (omega arith)) (eqb i k) refl
  where
    go : sound_range (f i) ≡ true → (suc i ≤ k → sound_range (f k) ≡ true) → (t : Bool) → eqb i k ≡ t → sound_range (f k) ≡ true
    go e later true z = rw (← eqb-true i k z) e
    go e later false z = let m : i ≡ k → ⊥ = eqb-false i k z in later (omega (arith, m))

module _ (w : List ℕ) (s : sound_routes (ranges_of w) ≡ true) (i : ℕ) (h : i < count_of w) where
  each-sound : sound_range (range_at w i) ≡ true
  unfolding ranges_of
  each-sound = after-each (range_at w) before_all 0 (count_of w) i (routes_facts (ranges_of w) s).1 (omega arith) (omega arith)

  -- the words of range i that the search of an IPv4 address looks at first
  module _ (a : Address) (p : ℕ) (icmp : Bool) (four : a.version ≡ 4) where
    pub skip-past : get_or w (i * words_per_range + 5) 0 < a.lo → admits a p icmp (range_at w i) ≡ false
    unfolding range_at
    skip-past = admits_low_past a p icmp (range_at w i) each-sound four

    pub skip-before : a.lo < get_or w (i * words_per_range + 3) 0 → admits a p icmp (range_at w i) ≡ false
    unfolding range_at
    skip-before = admits_low_before a p icmp (range_at w i) each-sound four
