-- A range at the front of some bytes, by the code's cases, and what a reading of one says. Assumes nothing.
use Rattle.std.proofs.Common.{Some, None}
use Rattle.std.proofs.lemmas.Option.{same_Some}
use Prim.Native.Nat.{ℕ, ◌≤◌, ◌<◌}
use mathlib.Core.Bool.{Bool, true, ◌&&◌}
use mathlib.Core.Path.{◌≡◌, sym, ap}
use mathlib.Core.List.{List}
use mathlib.Core.Logic.{⊎_elim}
use native.Mathlib.Omega.{arith}
use borrow.Author.Tests.{le-leb, lt-leb, ne_eqb, leb-true, eqb-true}
use lib.Dec.{leb, eqb}
use lib.ListN.{length, get_or}
use Rattle.answer.specs.Choice.{pick}
use Rattle.answer.proofs.Tests.{and_both}
use Rattle.lists.specs.declared.RouteRange.{RouteRange}
use Rattle.lists.specs.Rules.{sound_range}
use Rattle.capsule.specs.declared.element.RangeRead.{RangeRead}
use Rattle.capsule.specs.Entries.{range_read, range4, range6, whole_range, read_range}
use Rattle.capsule.proofs.Picks.{pick_same, pick_case}

module _ (s : List ℕ) where
  pub short : length s < 10 → None ≡ read_range s
  unfolding read_range
  short h =
      let g : length s < 34 = omega arith in
      simp (lt-leb 10 (length s) h, lt-leb 34 (length s) g, pick_same)

  pub short6 : get_or s 0 0 ≡ 6 → length s < 34 → None ≡ read_range s
  unfolding read_range
  short6 v h = rw v (simp (lt-leb 34 (length s) h))

  pub other : (get_or s 0 0 ≡ 4 → ⊥) → (get_or s 0 0 ≡ 6 → ⊥) → None ≡ read_range s
  unfolding read_range
  other f g = simp (ne_eqb (get_or s 0 0) 4 f, ne_eqb (get_or s 0 0) 6 g)

  pub case4 : (b : Bool) (r : RouteRange) → get_or s 0 0 ≡ 4 → 10 ≤ length s → r ≡ range4 s → sound_range r ≡ b → pick b (Some (range_read r 10)) None ≡ read_range s
  unfolding read_range
  case4 b r v h q t = rw v (simp (le-leb 10 (length s) h, ← q, t))

  pub case6 : (b : Bool) (r : RouteRange) → get_or s 0 0 ≡ 6 → 34 ≤ length s → r ≡ range6 s → sound_range r ≡ b → pick b (Some (range_read r 34)) None ≡ read_range s
  unfolding read_range
  case6 b r v h q t = rw v (simp (le-leb 34 (length s) h, ← q, t))

-- ---- what a reading says
pub record Whole (m : ℕ) (s : List ℕ) (r : RouteRange) (size : ℕ) : Type 0 where
  pub long : m ≤ length s
  pub sound : sound_range r ≡ true
  pub taken : size ≡ m

whole : (m : ℕ) (s : List ℕ) (d r : RouteRange) (size : ℕ) → whole_range m s d ≡ Some (range_read r size) → (d ≡ r) × (Whole m s r size)
whole m s d r size h =
    ⊎_elim
    (λ p.
    let q = and_both (leb m (length s)) (sound_range d) p.0 in
    let g = same_Some _ _ p.1 in
    let w : d ≡ r = ap (λ (x : RangeRead). x.range) g in
    (w, record { long = leb-true m (length s) q.0; sound = rw w at q.1; taken = sym (ap (λ (x : RangeRead). x.size) g) }))
    (λ p. let g = p.1 in let z : ◌≡◌ {A = ℕ} 0 1 = cc in absurd (omega arith))
    (pick_case (leb m (length s) && sound_range d) _ _ _ h)

-- a range of version 4, or of version 6
pub data Taken (s : List ℕ) (r : RouteRange) (size : ℕ) : Type 0 where
  ipv4 : get_or s 0 0 ≡ 4 → range4 s ≡ r → Whole 10 s r size → Taken s r size
  ipv6 : get_or s 0 0 ≡ 6 → range6 s ≡ r → Whole 34 s r size → Taken s r size

module _ (s : List ℕ) (r : RouteRange) (n : ℕ) where
  pub taken : read_range s ≡ Some (range_read r n) → Taken s r n
  unfolding read_range
  taken h =
      ⊎_elim (λ p. let w = whole 10 s (range4 s) r n p.1 in ipv4 (eqb-true (get_or s 0 0) 4 p.0) w.0 w.1)
      (λ p.
      ⊎_elim (λ q. let w = whole 34 s (range6 s) r n q.1 in ipv6 (eqb-true (get_or s 0 0) 6 q.0) w.0 w.1)
      (λ q. let g = q.1 in let z : ◌≡◌ {A = ℕ} 0 1 = cc in absurd (omega arith))
      (pick_case (eqb (get_or s 0 0) 6) _ _ _ p.1))
      (pick_case (eqb (get_or s 0 0) 4) _ _ _ h)

  sized : Taken s r n → (1 ≤ n) × (n ≤ length s)
  sized (ipv4 v e w) = (omega (arith, w.taken), omega (arith, w.taken, w.long))
  sized (ipv6 v e w) = (omega (arith, w.taken), omega (arith, w.taken, w.long))

  pub size : read_range s ≡ Some (range_read r n) → (1 ≤ n) × (n ≤ length s)
  size h = sized (taken h)

  kept : Taken s r n → sound_range r ≡ true
  kept (ipv4 v e w) = w.sound
  kept (ipv6 v e w) = w.sound

  pub sound : read_range s ≡ Some (range_read r n) → sound_range r ≡ true
  sound h = kept (taken h)

  by-version : Taken s r n → n ≡ pick (eqb r.version 4) 10 34
  by-version (ipv4 v e w) = rw (← e) w.taken
  by-version (ipv6 v e w) = rw (← e) w.taken

  -- its size is told by its version
  pub size-version : read_range s ≡ Some (range_read r n) → n ≡ pick (eqb r.version 4) 10 34
  size-version h = by-version (taken h)
