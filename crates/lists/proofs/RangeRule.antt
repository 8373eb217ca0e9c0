-- The rules of a range and of neighbours as facts, and by their cases in the code's order. Assumes nothing.
use Prim.Native.Nat.{ℕ, ◌^◌, ◌≤◌, ◌<◌}
use mathlib.Core.Bool.{Bool, true, false, ◌&&◌, ◌||◌, and-true, or-false}
use mathlib.Core.Path.{◌≡◌, refl}
use mathlib.Core.List.{List, [], ◌∷◌, ◌++◌}
use mathlib.Core.Logic.{◌⊎◌, inl, inr, ⊎_elim}
use native.Mathlib.Omega.{arith}
use borrow.Author.Tests.{lt-ltb, le-ltb, le-leb, eq-eqb, ne_eqb, ltb-true, leb-true, eqb-true}
use lib.Dec.{leb, ltb, eqb}
use Rattle.answer.proofs.Tests.{and_both, only_false}
use Rattle.lists.specs.declared.RouteRange.{RouteRange}
use Rattle.lists.specs.Rules.{of_version, start_of, end_of, sound_range, in_order, sound_after}
use Rattle.lists.proofs.VersionRule.{OfVersion, version_facts, facts_version, version_byte}

-- ---- a range

-- what the rule says
pub record RangeFacts (r : RouteRange) : Type 0 where
  pub ends : start_of r ≤ end_of r
  pub version : OfVersion r.version (end_of r)
  pub protocol : r.protocol < 256

module _ (r : RouteRange) where
  pub range_facts : sound_range r ≡ true → RangeFacts r
  unfolding sound_range
  range_facts h =
      let v = of_version r.version (end_of r) in
      let p = ltb r.protocol 256 in
      let first = and_both (leb (start_of r) (end_of r)) (v && p) h in
      let second = and_both v p first.1 in
      record {
        ends = leb-true (start_of r) (end_of r) first.0;
        version = version_facts r.version (end_of r) second.0;
        protocol = ltb-true r.protocol 256 second.1;
      }

  module _ (f : RangeFacts r) where
    pub facts_range : sound_range r ≡ true
    unfolding sound_range
    facts_range =
        rw (le-leb (start_of r) (end_of r) f.ends, facts_version r.version (end_of r) f.version)
        (lt-ltb r.protocol 256 f.protocol)

    pub version-small : r.version < 256
    version-small = version_byte r.version (end_of r) f.version

  pub range_fails : (RangeFacts r → ⊥) → sound_range r ≡ false
  range_fails n = only_false (sound_range r) (λ h. n (range_facts h))

  -- the code's tests
  pub reversed : leb (start_of r) (end_of r) ≡ false → false ≡ sound_range r
  unfolding sound_range
  reversed h = simp h

  module _ (h : leb (start_of r) (end_of r) ≡ true) where
    pub ipv6_in_order : r.version ≡ 6 → r.protocol < 256 → true ≡ sound_range r
    unfolding sound_range
    ipv6_in_order q p = simp (h, q, lt-ltb r.protocol 256 p)

    pub not_ipv4 : (r.version ≡ 4 → ⊥) → r.protocol < 256 → eqb r.version 6 ≡ sound_range r
    unfolding sound_range
    not_ipv4 f p = simp (h, ne_eqb r.version 4 f, lt-ltb r.protocol 256 p, and-true, or-false)

    pub ipv4_end_below : r.version ≡ 4 → r.protocol < 256 → ltb (end_of r) (2 ^ 32) ≡ sound_range r
    unfolding sound_range
    ipv4_end_below q p = simp (h, q, lt-ltb r.protocol 256 p, and-true)

-- ---- neighbours

-- what the rule says
abbrev pub OrderFacts : RouteRange → RouteRange → Type 0
OrderFacts a b =
    (a.version < b.version)
    ⊎ ((a.version ≡ b.version) × ((a.protocol < b.protocol) ⊎ ((a.protocol ≡ b.protocol) × (end_of a < start_of b))))

eq_ltb : (m n : ℕ) → m ≡ n → ltb m n ≡ false
eq_ltb m n e = le-ltb m n (omega arith)

-- less, or equal and then a test: the two steps of the order
less_or_equal : (m n : ℕ) (t : Bool) → (ltb m n || (eqb m n && t)) ≡ true → (m < n) ⊎ ((m ≡ n) × (t ≡ true))
less_or_equal m n t h = go (ltb m n) refl h
  where
    go : (u : Bool) → ltb m n ≡ u → (u || (eqb m n && t)) ≡ true → (m < n) ⊎ ((m ≡ n) × (t ≡ true))
    go true e q = inl (ltb-true m n e)
    go false e q = let z = and_both (eqb m n) t q in inr (eqb-true m n z.0, z.1)

module _ (a b : RouteRange) where
  pub order_facts : in_order a b ≡ true → OrderFacts a b
  unfolding in_order
  order_facts h =
      let t = ltb (end_of a) (start_of b) in
      let u = ltb a.protocol b.protocol || (eqb a.protocol b.protocol && t) in
      ⊎_elim inl
      (λ v.
      inr (
        v.0,
        ⊎_elim inl (λ p. inr (p.0, ltb-true (end_of a) (start_of b) p.1)) (less_or_equal a.protocol b.protocol t v.1),
      ))
      (less_or_equal a.version b.version u h)

  -- the code's tests
  pub by-version : (a.version ≡ b.version → ⊥) → ltb a.version b.version ≡ in_order a b
  unfolding in_order
  by-version f = simp (ne_eqb a.version b.version f, or-false)

  module _ (v : a.version ≡ b.version) where
    pub by-protocol : (a.protocol ≡ b.protocol → ⊥) → ltb a.protocol b.protocol ≡ in_order a b
    unfolding in_order
    by-protocol f =
        simp (eq_ltb a.version b.version v, eq-eqb a.version b.version v, ne_eqb a.protocol b.protocol f, or-false)

    pub by_address : a.protocol ≡ b.protocol → ltb (end_of a) (start_of b) ≡ in_order a b
    unfolding in_order
    by_address p =
        simp (
          eq_ltb a.version b.version v,
          eq-eqb a.version b.version v,
          eq_ltb a.protocol b.protocol p,
          eq-eqb a.protocol b.protocol p,
        )

-- ---- one more range

-- the last range of a list that follows a
abbrev pub last_of : RouteRange → List RouteRange → RouteRange
last_of a [] = a
last_of a (r ∷ rs) = last_of r rs

pub last_more : (a : RouteRange) (rs : List RouteRange) (r : RouteRange) → last_of a (rs ++ (r ∷ [])) ≡ r
last_more a [] r = refl
last_more a (x ∷ rs) r = last_more x rs r

pub sound_more : (a : RouteRange) (rs : List RouteRange) (r : RouteRange) → sound_after a rs ≡ true → sound_range r ≡ true
    → in_order (last_of a rs) r ≡ true → sound_after a (rs ++ (r ∷ [])) ≡ true
sound_more a [] r s h o = rw (h, o)
sound_more a (x ∷ rs) r s h o =
    let first = and_both (sound_range x) (in_order a x && sound_after x rs) s in
    let second = and_both (in_order a x) (sound_after x rs) first.1 in
    rw (first.0, second.0) (sound_more x rs r second.1 h o)
