-- The refusals of reading: 1 is of the frame alone, and every other is 2 to 7. Assumes nothing.
use Rattle.std.proofs.Common.{Result, Ok, Err}
use Prim.Native.Nat.{ℕ, zero, suc, ◌+◌, ◌≤◌}
use mathlib.Core.Bool.{Bool, true, false, not, ◌&&◌, ◌||◌}
use mathlib.Core.Path.{◌≡◌, refl, sym, ap, ◌∙◌}
use mathlib.Core.List.{List, [], ◌∷◌}
use mathlib.Core.Logic.{◌⊎◌, inl, inr, ⊎_elim}
use native.Mathlib.Omega.{arith}
use lib.Dec.{leb, eqb}
use lib.ListN.{length, take, drop}
use Rattle.answer.specs.declared.Refusal.{Refusal}
use Rattle.answer.specs.declared.Refusal.TheVariants.{Incomplete, TooLong, RangesOutOfOrder, BadRequestId, TooMany}
use Rattle.answer.specs.Verdict.{stop_if}
use Rattle.answer.specs.Number.{number_of}
use Rattle.octets.specs.Scan.{any_of}
use Rattle.lists.specs.declared.AddressEntry.{AddressEntry}
use Rattle.lists.specs.declared.RouteRange.{RouteRange}
use Rattle.lists.specs.Rules.{id_of, in_order}
use Rattle.lists.specs.Words.{max_addresses, max_ranges}
use Rattle.capsule.specs.declared.FrameRead.{FrameRead}
use Rattle.capsule.specs.Elements.{Element, element, broken, Format, Parsed, fault, all, before, passing, after_element, parse, count_verdict, settled, elements_in}
use Rattle.capsule.specs.Entries.{entry_follows, newest, range_follows, entry_format, range_format}
use Rattle.capsule.specs.Capsules.{Capsule, datagram, assign, request, advertise, unknown, refused, capsule, listed, read_value, in_frame, frame_of, read_capsule}
use Rattle.capsule.proofs.Picks.{pick_case}
use Rattle.capsule.proofs.FrameCases as Frames

-- the refusals other than 1 that a capsule earns
abbrev pub Faulty : Refusal → Type 0
Faulty r = (2 ≤ number_of r) × (number_of r ≤ 7)

as_faulty : (a r : Refusal) → Faulty a → a ≡ r → Faulty r
as_faulty a r h e = rw e at h

stopped : (b : Bool) (a r : Refusal) → stop_if b a (Ok tt) ≡ Err r → Faulty a → Faulty r
stopped true a r e h = as_faulty a r h (cc)
stopped false a r e h = let y : ◌≡◌ {A = ℕ} 0 1 = cc in absurd (omega arith)

count_faulty : (asked : Bool) (limit n : ℕ) (r : Refusal) → count_verdict asked limit n ≡ Err r → Faulty r
count_faulty asked limit zero r e = stopped asked BadRequestId r e (omega arith, omega arith)
count_faulty asked limit (suc n) r e = stopped (not (leb (suc n) limit)) TooMany r e (omega arith, omega arith)

module _ {A : Type 0} where
  of-before : (xs : List A) (p : Parsed A) (r : Refusal) → before xs p ≡ fault r → p ≡ fault r
  of-before xs (fault q) r e = e
  of-before xs (all ys) r e = let y : ◌≡◌ {A = ℕ} 0 1 = cc in absurd (omega arith)

  of-passing : (v : Result Unit Refusal) (p : Parsed A) (r : Refusal) → passing v p ≡ fault r → (v ≡ Err r) ⊎ (p ≡ fault r)
  of-passing (Ok _) p r e = inr e
  of-passing (Err q) p r e = let z : q ≡ r = cc in inl (ap Err z)

  module _ (f : Format A) (w : Faulty f.wrong) (v : (earlier : List A) (a : A) (r : Refusal) → f.follows earlier a ≡ Err r → Faulty r) where
    parse_faulty : (fuel : ℕ) (earlier : List A) (s : List ℕ) (r : Refusal) → parse f fuel earlier s ≡ fault r → Faulty r
    unfolding parse
    parse_faulty zero earlier s r e = as_faulty f.wrong r w (cc)
    parse_faulty (suc fuel) earlier [] r e = let y : ◌≡◌ {A = ℕ} 0 1 = cc in absurd (omega arith)
    parse_faulty (suc fuel) earlier (b ∷ s) r e = of (f.read (b ∷ s)) e (λ (x : List A) (t : List ℕ). parse_faulty fuel x t r)
      where
        of : (x : Element A) → after_element f (parse f fuel) earlier (b ∷ s) x ≡ fault r → ((x : List A) (t : List ℕ) → parse f fuel x t ≡ fault r → Faulty r) → Faulty r
        of (element a n) e next =
            ⊎_elim (λ h. v earlier a r h) (λ h. next (a ∷ earlier) (drop n (b ∷ s)) (of-before (a ∷ []) (parse f fuel (a ∷ earlier) (drop n (b ∷ s))) r h))
            (of-passing (f.follows earlier a) (before (a ∷ []) (parse f fuel (a ∷ earlier) (drop n (b ∷ s)))) r e)
        of broken e next = as_faulty f.wrong r w (cc)

    elements_faulty : (asked : Bool) (limit : ℕ) (s : List ℕ) (r : Refusal) → elements_in f asked limit s ≡ fault r → Faulty r
    unfolding elements_in
    elements_faulty asked limit s r e = of (parse f (suc (length s)) [] s) refl e
      where
        of : (p : Parsed A) → parse f (suc (length s)) [] s ≡ p → settled asked limit p ≡ fault r → Faulty r
        of (fault q) g e = parse_faulty (suc (length s)) [] s r (g ∙ e)
        of (all xs) g e =
            ⊎_elim (λ h. count_faulty asked limit (length xs) r h) (λ h. let y : ◌≡◌ {A = ℕ} 0 1 = cc in absurd (omega arith))
            (of-passing (count_verdict asked limit (length xs)) (all xs) r e)

entry_faulty : (asked : Bool) (earlier : List AddressEntry) (a : AddressEntry) (r : Refusal) → entry_follows asked earlier a ≡ Err r → Faulty r
unfolding entry_follows
entry_faulty asked earlier a r e = stopped (asked && (eqb (id_of a) 0 || any_of (λ d. eqb (id_of d) (id_of a)) earlier)) BadRequestId r e (omega arith, omega arith)

range_faulty : (earlier : List RouteRange) (a : RouteRange) (r : Refusal) → range_follows earlier a ≡ Err r → Faulty r
unfolding range_follows
range_faulty earlier a r e = stopped (not (in_order (newest earlier) a)) RangesOutOfOrder r e (omega arith, omega arith)

listed_faulty : {A : Type 0} (c : List A → Capsule) (start size : ℕ) (p : Parsed A) (r : Refusal) → listed c start size p ≡ refused r → p ≡ fault r
listed_faulty c start size (fault q) r e = let z : q ≡ r = cc in ap fault z
listed_faulty c start size (all xs) r e = let y : ◌≡◌ {A = ℕ} 0 1 = cc in absurd (omega arith)

module _ (kind : ℕ) (v : List ℕ) (start : ℕ) (r : Refusal) where
  value_faulty : read_value kind v start ≡ refused r → Faulty r
  unfolding read_value
  value_faulty e =
      ⊎_elim (λ p. taken (datagram v) p.1)
      (λ p.
      ⊎_elim (λ q. elements_faulty (entry_format false) (omega arith, omega arith) (entry_faulty false) false max_addresses v r (listed_faulty assign start (start + length v) _ r q.1))
      (λ q.
      ⊎_elim (λ x. elements_faulty (entry_format true) (omega arith, omega arith) (entry_faulty true) true max_addresses v r (listed_faulty request start (start + length v) _ r x.1))
      (λ x.
      ⊎_elim (λ t. elements_faulty range_format (omega arith, omega arith) range_faulty false max_ranges v r (listed_faulty advertise start (start + length v) _ r t.1))
      (λ t. taken unknown t.1)
      (pick_case (eqb kind 3) _ _ _ x.1))
      (pick_case (eqb kind 2) _ _ _ q.1))
      (pick_case (eqb kind 1) _ _ _ p.1))
      (pick_case (eqb kind 0) _ _ _ e)
    where
      taken : (c : Capsule) → capsule c start (start + length v) ≡ refused r → Faulty r
      taken c e = let y : ◌≡◌ {A = ℕ} 0 1 = cc in absurd (omega arith)

module _ (s : List ℕ) (r : Refusal) where
  -- either the frame is not all there, or the refusal is another
  pub refused_cases : read_capsule s ≡ refused r → ((r ≡ Incomplete) × (frame_of s ≡ Err Incomplete)) ⊎ Faulty r
  unfolding read_capsule
  refused_cases e = of (frame_of s) refl (Frames.frame_case s) e
    where
      of : (x : Result FrameRead Refusal) → frame_of s ≡ x → Frames.FrameCase s x → in_frame s x ≡ refused r → ((r ≡ Incomplete) × (frame_of s ≡ Err Incomplete)) ⊎ Faulty r
      of x g (Frames.there {kind} {start} {size} f) e = inr (value_faulty kind (take size (drop start s)) start r e)
      of x g (Frames.long p q h l) e = inr (as_faulty TooLong r (omega arith, omega arith) (cc))
      of x g Frames.lacking e = let z : Incomplete ≡ r = cc in inl (sym z, g)

-- 1 is of the frame: type, length and value are not all there
module _ (s : List ℕ) where
  pub waits-frame : read_capsule s ≡ refused Incomplete → frame_of s ≡ Err Incomplete
  waits-frame e = ⊎_elim (λ p. p.1) (λ p. absurd (omega (arith, p.0))) (refused_cases s Incomplete e)

  pub frame-waits : frame_of s ≡ Err Incomplete → read_capsule s ≡ refused Incomplete
  unfolding read_capsule
  frame-waits e = ap (in_frame s) e
