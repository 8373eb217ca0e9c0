-- What a capsule that was read says: its frame, its value by its type, and its size. Assumes nothing.
use Rattle.std.proofs.Common.{Result}
use Rattle.answer.specs.declared.Refusal.{Refusal}
use Prim.Native.Nat.{ℕ, ◌+◌, ◌<◌}
use mathlib.Core.Bool.{true, false}
use mathlib.Core.Path.{◌≡◌, refl}
use mathlib.Core.List.{List}
use mathlib.Core.Logic.{⊎_elim}
use native.Mathlib.Omega.{arith}
use borrow.Author.Tests.{eqb-true, eqb-false}
use lib.Dec.{eqb}
use lib.ListN.{length, take, drop, length-take, length-drop}
use Rattle.lists.specs.declared.AddressEntry.{AddressEntry}
use Rattle.lists.specs.declared.RouteRange.{RouteRange}
use Rattle.lists.specs.Words.{max_addresses, max_ranges}
use Rattle.capsule.specs.declared.FrameRead.{FrameRead}
use Rattle.capsule.specs.Elements.{Parsed, fault, all, elements_in}
use Rattle.capsule.specs.Entries.{entry_format, range_format}
use Rattle.capsule.specs.Capsules.{Capsule, datagram, assign, request, advertise, unknown, capsule, listed, read_value, in_frame, frame_of, read_capsule}
use Rattle.capsule.proofs.Picks.{pick_case}
use Rattle.capsule.proofs.FrameCases as Frames

-- the capsule of a value v, by its type
pub data Taken (kind : ℕ) (v : List ℕ) : Capsule → Type 0 where
  is-datagram : kind ≡ 0 → Taken kind v (datagram v)
  is-assign : {es : List AddressEntry} → kind ≡ 1 → elements_in (entry_format false) false max_addresses v ≡ all es → Taken kind v (assign es)
  is-request : {es : List AddressEntry} → kind ≡ 2 → elements_in (entry_format true) true max_addresses v ≡ all es → Taken kind v (request es)
  is-advertise : {rs : List RouteRange} → kind ≡ 3 → elements_in range_format false max_ranges v ≡ all rs → Taken kind v (advertise rs)
  is-unknown : 3 < kind → Taken kind v unknown

-- a value that was read: the capsule, and the places handed through
pub record ValueFacts (kind : ℕ) (v : List ℕ) (start : ℕ) (c : Capsule) (a z : ℕ) : Type 0 where
  pub taken : Taken kind v c
  pub starts : a ≡ start
  pub ends : z ≡ start + length v

module _ (kind : ℕ) (v : List ℕ) (start : ℕ) (c : Capsule) (a z : ℕ) where
  made : (d : Capsule) → Taken kind v d → capsule d start (start + length v) ≡ capsule c a z → ValueFacts kind v start c a z
  made d t e = let w : d ≡ c = cc in record { taken = rw w at t; starts = cc; ends = cc }

  of-list : {A : Type 0} (f : List A → Capsule) (p : Parsed A) → ((xs : List A) → p ≡ all xs → Taken kind v (f xs))
      → listed f start (start + length v) p ≡ capsule c a z → ValueFacts kind v start c a z
  of-list f (fault r) t e = let w : ◌≡◌ {A = ℕ} 0 1 = cc in absurd (omega arith)
  of-list f (all xs) t e = made (f xs) (t xs refl) e

  pub value_facts : read_value kind v start ≡ capsule c a z → ValueFacts kind v start c a z
  unfolding read_value
  value_facts e =
      ⊎_elim (λ p. made (datagram v) (is-datagram (eqb-true kind 0 p.0)) p.1)
      (λ p.
      ⊎_elim (λ q. of-list assign (elements_in (entry_format false) false max_addresses v) (λ es g. is-assign (eqb-true kind 1 q.0) g) q.1)
      (λ q.
      ⊎_elim (λ r. of-list request (elements_in (entry_format true) true max_addresses v) (λ es g. is-request (eqb-true kind 2 r.0) g) r.1)
      (λ r.
      ⊎_elim (λ t. of-list advertise (elements_in range_format false max_ranges v) (λ rs g. is-advertise (eqb-true kind 3 t.0) g) t.1)
      (λ t. made unknown (is-unknown (past p.0 q.0 r.0 t.0)) t.1)
      (pick_case (eqb kind 3) _ _ _ r.1))
      (pick_case (eqb kind 2) _ _ _ q.1))
      (pick_case (eqb kind 1) _ _ _ p.1))
      (pick_case (eqb kind 0) _ _ _ e)
    where
      past : eqb kind 0 ≡ false → eqb kind 1 ≡ false → eqb kind 2 ≡ false → eqb kind 3 ≡ false → 3 < kind
      past p q r t = omega (arith, eqb-false kind 0 p, eqb-false kind 1 q, eqb-false kind 2 r, eqb-false kind 3 t)

-- a capsule that was read: type and length in n and m bytes, and the value behind them
pub record Read (s : List ℕ) (c : Capsule) (start size : ℕ) : Type 0 where
  pub kind : ℕ
  pub count : ℕ
  pub framed : Frames.Framed s kind start count
  pub taken : Taken kind (take count (drop start s)) c
  pub ends : size ≡ start + count

module _ (s : List ℕ) (c : Capsule) (a z : ℕ) where
  whole : (kind start size : ℕ) → Frames.Framed s kind start size → read_value kind (take size (drop start s)) start ≡ capsule c a z → Read s c a z
  whole kind start size f e =
      let v = value_facts kind (take size (drop start s)) start c a z e in
      let l : length (take size (drop start s)) ≡ size = simp (length-take, length-drop) (omega (arith, f.there)) in
      record {
        kind = kind;
        count = size;
        framed = rw v.starts f;
        taken = rw v.starts v.taken;
        ends = omega (arith, v.starts, v.ends);
      }

  of-frame : (r : Result FrameRead Refusal) → Frames.FrameCase s r → in_frame s r ≡ capsule c a z → Read s c a z
  of-frame r (Frames.there {kind} {start} {size} f) e = whole kind start size f e
  of-frame r (Frames.long q g h l) e = let w : ◌≡◌ {A = ℕ} 0 1 = cc in absurd (omega arith)
  of-frame r Frames.lacking e = let w : ◌≡◌ {A = ℕ} 0 1 = cc in absurd (omega arith)

  pub read_facts : read_capsule s ≡ capsule c a z → Read s c a z
  unfolding read_capsule
  read_facts e = of-frame (frame_of s) (Frames.frame_case s) e
