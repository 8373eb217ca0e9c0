-- The loop over ranges: the words hold those read so far, and the last of them is the newest. Assumes nothing.
use Rattle.std.proofs.Common.{Some, None, Ok, Err}
use Prim.Native.Nat.{ℕ, ◌+◌, ◌≤◌, ◌<◌}
use mathlib.Core.Bool.{true, false}
use mathlib.Core.Path.{◌≡◌, refl, sym, ap, ◌∙◌}
use mathlib.Core.List.{List, [], ◌∷◌, ◌++◌}
use native.Mathlib.Omega.{arith}
use lib.ListN.{length, drop, set, replicate, length-append}
use Rattle.answer.specs.declared.Refusal.TheVariants.{BadRange, RangesOutOfOrder, TooMany}
use Rattle.lists.specs.declared.RouteRange.{RouteRange}
use Rattle.lists.specs.Rules.{in_order, before_all}
use Rattle.lists.specs.Words.{max_ranges, route_words, range_words, put_range, pack_ranges}
use Rattle.lists.proofs.Packing as Packing
use Rattle.capsule.specs.Elements.{fault, elements_in}
use Rattle.capsule.specs.Entries.{range_read, read_range, range_element, newest, range_follows, range_format}
use Rattle.capsule.specs.Results.{ReadsRanges}
use Rattle.capsule.proofs.RangeCases as Range
use Rattle.capsule.proofs.ListCases.{reads_all}
use Rattle.capsule.proofs.Turn as T

pub follows : (earlier : List RouteRange) (r : RouteRange) → in_order (newest earlier) r ≡ true → range_follows earlier r ≡ Ok tt
unfolding range_follows
follows earlier r o = rw o

pub unordered : (earlier : List RouteRange) (r : RouteRange) → in_order (newest earlier) r ≡ false → range_follows earlier r ≡ Err RangesOutOfOrder
unfolding range_follows
unordered earlier r o = rw o

-- the loop's invariant
pub record Reading (s words : List ℕ) (last : RouteRange) (count at : ℕ) : Type 0 where
  pub rs : List RouteRange
  pub earlier : List RouteRange
  pub reading : T.Reading range_format false max_ranges s rs earlier at
  pub counted : count ≡ length rs
  pub stored : words ≡ 0 ∷ range_words max_ranges rs
  pub ends : last ≡ newest earlier

pub start : (s : List ℕ) (last : RouteRange) {words : List ℕ} → words ≡ replicate route_words 0 → last ≡ before_all → Reading s words last 0 0
start s last f e =
    record { rs = []; earlier = []; reading = T.start range_format false max_ranges s; counted = refl; stored = f; ends = e }

module _ {s words : List ℕ} {last : RouteRange} {count at : ℕ} (i : Reading s words last count at) where
  module _ (g : at < length s) where
    module _ (r : RouteRange) (n : ℕ) (q : read_range (drop at s) ≡ Some (range_read r n)) where
      -- whatever the words are, so long as they hold the ranges
      turn : (w : List ℕ) → w ≡ 0 ∷ range_words max_ranges (i.rs ++ (r ∷ [])) → in_order last r ≡ true → Reading s w r (count + 1) (at + n)
      turn w e o =
          let z = Range.size (drop at s) r n q in
          record {
            rs = i.rs ++ (r ∷ []);
            earlier = r ∷ i.earlier;
            reading = T.next i.reading g r n (ap range_element q) z.0 z.1 (follows i.earlier r (rw i.ends at o));
            counted = omega (arith, i.counted, length-append i.rs (r ∷ []));
            stored = e;
            ends = refl;
          }

      pub next : count < max_ranges → in_order last r ≡ true → Reading s (put_range words count r) r (count + 1) (at + n)
      next h o =
          turn (put_range words count r)
          (rw (i.stored, i.counted) (Packing.put_range_lem 0 max_ranges i.rs r (omega (arith, i.counted))))
          o

      pub next-full : max_ranges ≤ count → in_order last r ≡ true → Reading s words r (count + 1) (at + n)
      next-full h o =
          turn words
          (i.stored ∙ ap (λ (l : List ℕ). 0 ∷ l) (sym (Packing.range_words-full max_ranges i.rs (r ∷ []) (omega (arith, i.counted)))))
          o

      pub fault-order : in_order last r ≡ false → fault RangesOutOfOrder ≡ elements_in range_format false max_ranges s
      fault-order o = T.fault-rule i.reading g r n (ap range_element q) RangesOutOfOrder (unordered i.earlier r (rw i.ends at o))

    pub fault_range : read_range (drop at s) ≡ None → fault BadRange ≡ elements_in range_format false max_ranges s
    fault_range q = T.fault_layout i.reading g (ap range_element q)

  module _ (g : length s ≤ at) where
    pub many : max_ranges < count → fault TooMany ≡ elements_in range_format false max_ranges s
    many h = T.many i.reading g (omega (arith, i.counted))

    pub fine : count ≤ max_ranges
        → ReadsRanges (elements_in range_format false max_ranges s) (Ok tt) (set words 0 count)
    unfolding pack_ranges
    fine h =
        reads_all (T.fine i.reading g (omega (arith, i.counted)) (λ e. refl)) (rw (i.stored, i.counted))
