-- Runs of ranges of one tag: what is left to test where version and protocol are those of the range before. Assumes nothing.
use Prim.Native.Nat.{ℕ, ◌+◌, ◌-◌, ◌*◌, ◌/◌, ◌%◌, ◌^◌, ◌≤◌, ◌<◌}
use mathlib.Core.Bool.{true, false, ◌&&◌, true≢false}
use mathlib.Core.Path.{◌≡◌, refl, sym, ap, ◌∙◌}
use mathlib.Core.List.{List}
use mathlib.Core.Logic.{◌⊎◌, inl, inr, ⊎_elim}
use Rattle.std.specs.Prelude.{Option, Some, None, cond}
use Rattle.std.proofs.lemmas.Option.{none-some, same_Some}
use native.Mathlib.Omega.{arith}
use borrow.Author.Tests.{lt-ltb, le-ltb, ltb-true}
use lib.Bits.{bit_or, or_add_and, and_le_l, and_le_r}
use lib.Dec.{leb, ltb}
use Rattle.answer.proofs.Tests.{and_both, only_false, order}
use Rattle.octets.specs.Wide.{wide}
use Rattle.octets.proofs.Scans.{from_more}
use Rattle.lists.specs.declared.RouteRange.{RouteRange}
use Rattle.lists.specs.Rules.{start_of, end_of, sound_range, in_order}
use Rattle.lists.specs.Words.{word, range_at}
use Rattle.lists.specs.Runs.{sound_past, Ran}
use Rattle.lists.proofs.RangeRule as Range

-- ---- the bits of three words

pub bits_of_three : (a b c : ℕ)
    → (a ≤ bit_or (bit_or a b) c) × (b ≤ bit_or (bit_or a b) c) × (c ≤ bit_or (bit_or a b) c) × (bit_or (bit_or a b) c ≤ a + b + c)
bits_of_three a b c =
    let x = or_add_and a b in
    let y = and_le_l a b in
    let z = and_le_r a b in
    let u = or_add_and (bit_or a b) c in
    let v = and_le_l (bit_or a b) c in
    let t = and_le_r (bit_or a b) c in
    (omega (arith, x, y, z, u, v, t), omega (arith, x, y, z, u, v, t), omega (arith, x, y, z, u, v, t), omega (arith, x, y, z, u, v, t))

-- ---- neighbours of one version and protocol

-- what is left to test of IPv4
pub record Follows4 (a r : RouteRange) : Type 0 where
  pub start : r.start_hi ≡ 0
  pub end : r.end_hi ≡ 0
  pub small : r.end_lo < 2 ^ 32
  pub ends : r.start_lo ≤ r.end_lo
  pub after : a.end_lo < r.start_lo

module _ (a r : RouteRange) (v : a.version ≡ r.version) (p : a.protocol ≡ r.protocol) where
  in_order_same : in_order a r ≡ true → end_of a < start_of r
  in_order_same o = ltb-true (end_of a) (start_of r) (Range.by_address a r v p ∙ o)

  same_in_order : end_of a < start_of r → in_order a r ≡ true
  same_in_order h = sym (Range.by_address a r v p) ∙ lt-ltb (end_of a) (start_of r) h

  module _ (four : a.version ≡ 4) (z : a.end_hi ≡ 0) where
    pub follows4 : sound_range r ≡ true → in_order a r ≡ true → Follows4 a r
    follows4 s o =
        let f = Range.range_facts r s in
        let e = f.version.ipv4 (sym v ∙ four) in
        let l = f.ends in
        let g = in_order_same o in
        record { start = omega arith; end = omega arith; small = omega arith; ends = omega arith; after = omega arith }

    pub follows4-sound : r.protocol < 256 → Follows4 a r → sound_range r ≡ true
    follows4-sound q f =
        let s = f.start in
        let e = f.end in
        let m = f.small in
        let n = f.ends in
        Range.facts_range r
        (record {
          ends = omega arith;
          version = record { known = inl (sym v ∙ four); ipv4 = λ x. omega arith };
          protocol = q;
        })

    pub follows4-order : Follows4 a r → in_order a r ≡ true
    follows4-order f =
        let s = f.start in
        let n = f.after in
        same_in_order (omega arith)

  -- what is left to test of IPv6
  module _ (six : a.version ≡ 6) where
    pub follows6_sound : r.protocol < 256 → leb (start_of r) (end_of r) ≡ true → sound_range r ≡ true
    follows6_sound q h = sym (Range.ipv6_in_order r h (sym v ∙ six) q)

  pub follows6_order : ltb (end_of a) (start_of r) ≡ in_order a r
  follows6_order = Range.by_address a r v p

-- ---- one more range

module _ (w : List ℕ) (n i : ℕ) (h : i + 1 < n) where
  past_more : sound_past w n i ≡ (sound_range (range_at w (i + 1)) && (in_order (range_at w i) (range_at w (i + 1)) && sound_past w n (i + 1)))
  past_more = rw (from_more (range_at w) (i + 1) n h)

  pub past-good : sound_range (range_at w (i + 1)) ≡ true → in_order (range_at w i) (range_at w (i + 1)) ≡ true
      → sound_past w n i ≡ sound_past w n (i + 1)
  past-good s o = rw (past_more, s, o)

  pub past-bad : (sound_range (range_at w (i + 1)) ≡ true → in_order (range_at w i) (range_at w (i + 1)) ≡ true → ⊥) → sound_past w n i ≡ false
  past-bad f =
      past_more
      ∙ only_false (sound_range (range_at w (i + 1)) && (in_order (range_at w i) (range_at w (i + 1)) && sound_past w n (i + 1)))
      (λ e.
      let x = and_both (sound_range (range_at w (i + 1))) (in_order (range_at w i) (range_at w (i + 1)) && sound_past w n (i + 1)) e in
      let y = and_both (in_order (range_at w i) (range_at w (i + 1))) (sound_past w n (i + 1)) x.1 in
      f x.0 y.0)

module _ (w : List ℕ) (i k : ℕ) where
  same_version : word 5 w i 1 ≡ word 5 w k 1 → (range_at w i).version ≡ (range_at w k).version
  unfolding range_at
  same_version e = ap (λ (t : ℕ). t % 256) e

  same-protocol : word 5 w i 1 ≡ word 5 w k 1 → (range_at w i).protocol ≡ (range_at w k).protocol
  unfolding range_at
  same-protocol e = ap (λ (t : ℕ). t / 256 % 256) e

protocol-small : (w : List ℕ) (i : ℕ) → (range_at w i).protocol < 256
unfolding range_at
protocol-small w i = omega arith

pub run_broken : {w : List ℕ} {n j : ℕ} → sound_past w n j ≡ false → Ran w n j None
run_broken e = record { kept = λ k t. absurd (none-some k t); broken = λ t. e }

pub run_kept : {w : List ℕ} {n j last : ℕ} → last < n → j ≤ last → sound_past w n j ≡ sound_past w n last → Ran w n j (Some last)
run_kept {last = last} h l e = record { kept = λ k t. rw (← same_Some last k t) (h, l, e); broken = λ t. absurd (none-some last (sym t)) }

-- ---- a run of IPv4

-- to range i of the run behind j: nothing is broken, or something is, and high and end tell; they only grow, so they still tell at the
-- end of the run
pub record Running4 (w : List ℕ) (n j end high i : ℕ) : Type 0 where
  pub since : j ≤ i
  pub within : i < n
  pub tag : word 5 w i 1 ≡ word 5 w j 1
  pub last : end ≡ word 5 w i 5
  pub state : ((high * 2 ^ 32 + end < 2 ^ 32) × (word 5 w i 4 ≡ 0) × (sound_past w n j ≡ sound_past w n i))
      ⊎ ((2 ^ 32 ≤ high * 2 ^ 32 + end) × (sound_past w n j ≡ false))

module _ {w : List ℕ} {n j : ℕ} where
  pub run4_start : (range_at w j).version ≡ 4 → j < n → sound_range (range_at w j) ≡ true → Running4 w n j (word 5 w j 5) 0 j
  unfolding range_at
  run4_start four h s =
      let e = (Range.range_facts (range_at w j) s).version.ipv4 four in
      record { since = omega arith; within = h; tag = refl; last = refl; state = inl (omega arith, omega arith, refl) }

  module _ {end high i : ℕ} (r : Running4 w n j end high i) where
    pub run4_done : {a : Option ℕ} → a ≡ cond (ltb (high * 2 ^ 32 + end) (2 ^ 32)) (Some i) None → Ran w n j a
    run4_done {a} e =
        ⊎_elim
        (λ f. let q : a ≡ Some i = rw (lt-ltb (high * 2 ^ 32 + end) (2 ^ 32) f.0) at e in rw q (run_kept r.within r.since f.2))
        (λ f. let q : a ≡ None = rw (le-ltb (high * 2 ^ 32 + end) (2 ^ 32) f.0) at e in rw q (run_broken f.1)) r.state

    -- at the end of the list
    pub run4_last : n ≤ i + 1 → Running4 w n j end high (n - 1)
    run4_last h = let q : n - 1 ≡ i = omega (arith, r.within) in rw q r

    module _ (four : (range_at w j).version ≡ 4) (h : i + 1 < n) (t : word 5 w (i + 1) 1 ≡ word 5 w j 1) where
      same : word 5 w i 1 ≡ word 5 w (i + 1) 1
      same = r.tag ∙ sym t

      -- where the high word of the end is 0, `Follows4` is what is left to test, both ways
      follows_or_not : (z : word 5 w i 4 ≡ 0)
          → (sound_range (range_at w (i + 1)) ≡ true → in_order (range_at w i) (range_at w (i + 1)) ≡ true → Follows4 (range_at w i) (range_at w (i + 1)))
          × (Follows4 (range_at w i) (range_at w (i + 1)) → sound_past w n i ≡ sound_past w n (i + 1))
      unfolding range_at
      follows_or_not z =
          let v = same_version w i (i + 1) same in
          let p = same-protocol w i (i + 1) same in
          let q = same_version w i j r.tag ∙ four in (
            follows4 (range_at w i) (range_at w (i + 1)) v p q z,
            λ f. past-good w n i h (follows4-sound (range_at w i) (range_at w (i + 1)) v p q z (protocol-small w (i + 1)) f)
                (follows4-order (range_at w i) (range_at w (i + 1)) v p q z f),
          )

      pub run4_stop : (word 5 w (i + 1) 3 ≤ end) ⊎ (word 5 w (i + 1) 5 < word 5 w (i + 1) 3) → sound_past w n j ≡ false
      unfolding range_at
      run4_stop b =
          ⊎_elim
          (λ f.
          f.2
          ∙ past-bad w n i h
          (λ s o.
          let g = (follows_or_not f.1).0 s o in
          let x : end < word 5 w (i + 1) 3 = omega (arith, g.after, r.last) in
          let y : word 5 w (i + 1) 3 ≤ word 5 w (i + 1) 5 = g.ends in
          ⊎_elim (λ u. omega (arith, u, x)) (λ u. omega (arith, u, y)) b))
          (λ f. f.1) r.state

      pub run4_next : {more : ℕ} → end < word 5 w (i + 1) 3 → word 5 w (i + 1) 3 ≤ word 5 w (i + 1) 5
          → (high ≤ more) × (word 5 w (i + 1) 2 ≤ more) × (word 5 w (i + 1) 4 ≤ more) × (more ≤ high + word 5 w (i + 1) 2 + word 5 w (i + 1) 4)
          → Running4 w n j (word 5 w (i + 1) 5) more (i + 1)
      unfolding range_at
      run4_next {more} x y m =
          record {
            since = omega (arith, r.since);
            within = h;
            tag = t;
            last = refl;
            state =
                ⊎_elim
                (λ f.
                ⊎_elim
                (λ u.
                inl (
                  u,
                  omega (arith, u, m.2),
                  f.2 ∙ (follows_or_not f.1).1 (record {
                    start = omega (arith, u, m.1);
                    end = omega (arith, u, m.2);
                    small = omega (arith, u);
                    ends = y;
                    after = omega (arith, x, r.last);
                  }),
                ))
                (λ u.
                inr (
                  u,
                  f.2
                      ∙ past-bad w n i h
                      (λ s o.
                      let g = (follows_or_not f.1).0 s o in
                      let s0 = g.start in
                      let e0 = g.end in
                      let l0 = g.small in
                      omega (arith, u, m.3, f.0, s0, e0, l0)),
                ))
                (order (more * 2 ^ 32 + word 5 w (i + 1) 5) (2 ^ 32)))
                (λ f. inr (omega (arith, f.0, m.0, x, y), f.1)) r.state;
          }

-- ---- a run of IPv6

-- to range i of the run behind j: nothing is broken
pub record Running6 (w : List ℕ) (n j hi lo i : ℕ) : Type 0 where
  pub since : j ≤ i
  pub within : i < n
  pub tag : word 5 w i 1 ≡ word 5 w j 1
  pub high : hi ≡ word 5 w i 4
  pub low : lo ≡ word 5 w i 5
  pub rest : sound_past w n j ≡ sound_past w n i

module _ {w : List ℕ} {n j : ℕ} where
  pub run6_start : j < n → Running6 w n j (word 5 w j 4) (word 5 w j 5) j
  run6_start h = record { since = omega arith; within = h; tag = refl; high = refl; low = refl; rest = refl }

  module _ {hi lo i : ℕ} (r : Running6 w n j hi lo i) where
    pub run6_done : Ran w n j (Some i)
    run6_done = run_kept r.within r.since r.rest

    -- at the end of the list
    pub run6_last : n ≤ i + 1 → Running6 w n j hi lo (n - 1)
    run6_last h = let q : n - 1 ≡ i = omega (arith, r.within) in rw q r

    module _ (h : i + 1 < n) (t : word 5 w (i + 1) 1 ≡ word 5 w j 1) where
      same6 : word 5 w i 1 ≡ word 5 w (i + 1) 1
      same6 = r.tag ∙ sym t

      order6 : ltb (wide hi lo) (wide (word 5 w (i + 1) 2) (word 5 w (i + 1) 3)) ≡ in_order (range_at w i) (range_at w (i + 1))
      unfolding range_at
      order6 =
          rw (r.high, r.low) (follows6_order (range_at w i) (range_at w (i + 1)) (same_version w i (i + 1) same6) (same-protocol w i (i + 1) same6))

      pub run6_unordered : ltb (wide hi lo) (wide (word 5 w (i + 1) 2) (word 5 w (i + 1) 3)) ≡ false → sound_past w n j ≡ false
      run6_unordered e = r.rest ∙ past-bad w n i h (λ s o. true≢false (sym (sym e ∙ order6 ∙ o)))

      pub run6_reversed : leb (wide (word 5 w (i + 1) 2) (word 5 w (i + 1) 3)) (wide (word 5 w (i + 1) 4) (word 5 w (i + 1) 5)) ≡ false
          → sound_past w n j ≡ false
      unfolding range_at
      run6_reversed e =
          r.rest ∙ past-bad w n i h (λ s o. true≢false (sym (Range.reversed (range_at w (i + 1)) e ∙ s)))

      pub run6_next : (range_at w j).version ≡ 6 → ltb (wide hi lo) (wide (word 5 w (i + 1) 2) (word 5 w (i + 1) 3)) ≡ true
          → leb (wide (word 5 w (i + 1) 2) (word 5 w (i + 1) 3)) (wide (word 5 w (i + 1) 4) (word 5 w (i + 1) 5)) ≡ true
          → Running6 w n j (word 5 w (i + 1) 4) (word 5 w (i + 1) 5) (i + 1)
      unfolding range_at
      run6_next six o e =
          record {
            since = omega (arith, r.since);
            within = h;
            tag = t;
            high = refl;
            low = refl;
            rest =
                r.rest
                ∙ past-good w n i h
                (follows6_sound (range_at w i) (range_at w (i + 1)) (same_version w i (i + 1) same6) (same-protocol w i (i + 1) same6)
                (same_version w i j r.tag ∙ six) (protocol-small w (i + 1)) e)
                (sym order6 ∙ o);
          }

-- ---- of either version

pub not_four : (r : RouteRange) (v : ℕ) → sound_range r ≡ true → r.version ≡ v → (v ≡ 4 → ⊥) → r.version ≡ 6
not_four r v s e f = ⊎_elim (λ h. absurd (f (sym e ∙ h))) (λ h. h) (Range.range_facts r s).version.known
