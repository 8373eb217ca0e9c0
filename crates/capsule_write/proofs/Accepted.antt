-- What an `Ok` says of a list that is to be written, and so of the capsule. Assumes nothing.
use Rattle.std.proofs.Common.{Result, Ok, Err}
use Prim.Native.Nat.{ℕ, zero, suc, ◌*◌, ◌≤◌, min}
use mathlib.Core.Bool.{Bool, true, false, not}
use mathlib.Core.Path.{◌≡◌, refl, sym, ap, ◌∙◌}
use mathlib.Core.List.{List, [], ◌∷◌}
use native.Mathlib.Nat.{mul-suc}
use native.Mathlib.Omega.{arith}
use borrow.Author.Tests.{leb-true, ltb-false, not-false}
use lib.Dec.{leb, ltb}
use lib.ListN.{length, length-append}
use Rattle.answer.specs.declared.Refusal.{Refusal}
use Rattle.answer.specs.declared.Refusal.TheVariants.{NoRoom, TooLong, TooMany, RangesOutOfOrder}
use Rattle.answer.specs.Verdict.{◌then◌}
use Rattle.lists.specs.declared.RouteRange.{RouteRange}
use Rattle.octets.specs.Scan.{from, all_of}
use Rattle.lists.specs.Rules.{sound_entry, sound_range, in_order, before_all, sound_after}
use Rattle.lists.specs.Words.{max_addresses, max_ranges, count_of, entry_at, range_at, entries_of, ranges_of, sound_addresses, sound_routes}
use Rattle.lists.proofs.ListScans.{facts_addresses, facts_routes, length_entries, length_ranges}
use Rattle.capsule.specs.Elements.{Format, judged, count_verdict, written}
use Rattle.capsule.specs.Entries.{entry_format, range_format, range_follows, newest}
use Rattle.capsule.specs.Capsules.{max_value, capsule_bytes, datagram, assign, request, advertise}
use Rattle.capsule_write.specs.Sizes.{max_entry, max_range}
use Rattle.capsule_write.specs.Verdicts.{capsule_room, stored_entries, stored_ranges, with_room, value_limit, list_verdict, entries_verdict, ranges_verdict}
use Rattle.capsule_write.proofs.Lengths.{entry-most, range_most}
use Rattle.capsule_write.proofs.Judging.{if_go}
use Rattle.capsule_write.proofs.Frames.{frame-most, datagram-frame, assign-frame, request-frame, advertise-frame}

-- ---- verdicts

then_go : (a b : Result Unit Refusal) → a then b ≡ Ok tt → (a ≡ Ok tt) × (b ≡ Ok tt)
then_go (Ok _) b e = (refl, e)
then_go (Err r) b e = (e, cc)

count-go : (asked : Bool) (limit n : ℕ) → count_verdict asked limit n ≡ Ok tt → n ≤ limit
count-go asked limit zero e = omega arith
count-go asked limit (suc n) e =
    leb-true (suc n) limit (not-false (leb (suc n) limit) (if_go (not (leb (suc n) limit)) TooMany (Ok tt) e).0)

-- every element of a list without fault is sound
module _ {A : Type 0} (f : Format A) where
  pub judged-sound : (earlier xs : List A) → judged f earlier xs ≡ Ok tt → all_of f.sound xs ≡ true
  judged-sound earlier [] e = refl
  judged-sound earlier (x ∷ xs) e =
      let a = if_go (not (f.sound x)) f.wrong (f.follows earlier x then judged f (x ∷ earlier) xs) e in
      let b = then_go (f.follows earlier x) (judged f (x ∷ earlier) xs) a.1 in
      rw (not-false (f.sound x) a.0) (judged-sound (x ∷ earlier) xs b.1)

  -- elements of at most so many bytes
  pub written-most : (most : ℕ) → ((x : A) → length (f.bytes x) ≤ most) → (xs : List A) → length (written f xs) ≤ most * length xs
  written-most most h [] = omega arith
  written-most most h (x ∷ xs) =
      rw mul-suc (omega (arith, length-append (f.bytes x) (written f xs), h x, written-most most h xs))

-- a list without fault is within its limit, and all of it is judged
pub record ListGo {A : Type 0} (f : Format A) (asked : Bool) (limit : ℕ) (at : ℕ → A) (count : ℕ) : Type 0 where
  pub within : count ≤ limit
  pub stored : from at 0 (min count limit) ≡ from at 0 count
  pub faultless : judged f [] (from at 0 count) ≡ Ok tt
  pub counted : count_verdict asked limit count ≡ Ok tt
  pub sound : all_of f.sound (from at 0 count) ≡ true

module _ {A : Type 0} (f : Format A) (asked : Bool) (limit : ℕ) (at : ℕ → A) (count : ℕ) where
  pub list-go : {v : Result Unit Refusal} → v ≡ list_verdict f asked limit at count → v ≡ Ok tt → ListGo f asked limit at count
  list-go q e =
      let t = then_go (judged f [] (from at 0 (min count limit))) (count_verdict asked limit count) (rw q at e) in
      let h : count ≤ limit = count-go asked limit count t.1 in
      let s : from at 0 (min count limit) ≡ from at 0 count = ap (from at 0) (omega arith) in
      let g : judged f [] (from at 0 count) ≡ (Ok tt) = ap (judged f []) (sym s) ∙ t.0 in
      record { within = h; stored = s; faultless = g; counted = t.1; sound = judged-sound f [] (from at 0 count) g }

-- ranges are in order too
follows-order : (rs : List RouteRange) (r : RouteRange) → range_follows rs r ≡ Ok tt → in_order (newest rs) r ≡ true
unfolding range_follows
follows-order rs r e = not-false (in_order (newest rs) r) (if_go (not (in_order (newest rs) r)) RangesOutOfOrder (Ok tt) e).0

pub judged-order : (earlier rs : List RouteRange) → judged range_format earlier rs ≡ Ok tt → sound_after (newest earlier) rs ≡ true
judged-order earlier [] e = refl
judged-order earlier (r ∷ rs) e =
    let a = if_go (not (sound_range r)) range_format.wrong (range_follows earlier r then judged range_format (r ∷ earlier) rs) e in
    let b = then_go (range_follows earlier r) (judged range_format (r ∷ earlier) rs) a.1 in
    rw (not-false (sound_range r) a.0, follows-order earlier r b.0) (judged-order (r ∷ earlier) rs b.1)

-- ---- address lists

pub record EntriesGo (asked : Bool) (w : List ℕ) : Type 0 where
  pub within : count_of w ≤ max_addresses
  pub stored : stored_entries w ≡ entries_of w
  pub faultless : judged (entry_format asked) [] (entries_of w) ≡ Ok tt
  pub counted : count_verdict asked max_addresses (length (entries_of w)) ≡ Ok tt
  pub entries : all_of sound_entry (entries_of w) ≡ true
  pub sound : sound_addresses (entries_of w) ≡ true
  pub value : length (written (entry_format asked) (entries_of w)) ≤ max_value

module _ (asked : Bool) (w : List ℕ) where
  pub entries-go : entries_verdict asked w ≡ Ok tt → EntriesGo asked w
  unfolding entries_verdict entries_of
  entries-go e =
      let es = entries_of w in
      let go = list-go (entry_format asked) asked max_addresses (entry_at w) (count_of w) refl e in
      let h = go.within in
      let l : length es ≡ count_of w = length_entries w in
      record {
        within = h;
        stored = go.stored;
        faultless = go.faultless;
        counted = ap (count_verdict asked max_addresses) l ∙ go.counted;
        entries = go.sound;
        sound = facts_addresses es (omega (arith, l)) go.sound;
        value = omega (arith, written-most (entry_format asked) max_entry entry-most es, l);
      }

-- ---- route lists

pub record RangesGo (w : List ℕ) : Type 0 where
  pub within : count_of w ≤ max_ranges
  pub stored : stored_ranges w ≡ ranges_of w
  pub faultless : judged range_format [] (ranges_of w) ≡ Ok tt
  pub counted : count_verdict false max_ranges (length (ranges_of w)) ≡ Ok tt
  pub ranges : sound_after before_all (ranges_of w) ≡ true
  pub sound : sound_routes (ranges_of w) ≡ true
  pub value : length (written range_format (ranges_of w)) ≤ max_value

module _ (w : List ℕ) where
  pub ranges-go : ranges_verdict w ≡ Ok tt → RangesGo w
  unfolding ranges_verdict ranges_of
  ranges-go e =
      let rs = ranges_of w in
      let go = list-go range_format false max_ranges (range_at w) (count_of w) refl e in
      let h = go.within in
      let l : length rs ≡ count_of w = length_ranges w in
      let a : sound_after before_all rs ≡ true = judged-order [] rs go.faultless in
      record {
        within = h;
        stored = go.stored;
        faultless = go.faultless;
        counted = ap (count_verdict false max_ranges) l ∙ go.counted;
        ranges = a;
        sound = facts_routes rs (omega (arith, l)) a;
        value = omega (arith, written-most range_format max_range range_most rs, l);
      }

-- ---- the output

pub room_go : (n : ℕ) (v : Result Unit Refusal) → with_room n v ≡ Ok tt → (capsule_room ≤ n) × (v ≡ Ok tt)
unfolding with_room
room_go n v e = let t = if_go (ltb n capsule_room) NoRoom v e in (ltb-false n capsule_room t.0, t.1)

pub limit-go : (v : List ℕ) → value_limit v ≡ Ok tt → length v ≤ max_value
unfolding value_limit
limit-go v e = ltb-false max_value (length v) (if_go (ltb max_value (length v)) TooLong (Ok tt) e).0

-- ---- a capsule that is written fits the least output

pub datagram-most : (v : List ℕ) → value_limit v ≡ Ok tt → length (capsule_bytes (datagram v)) ≤ capsule_room
datagram-most v e = rw (datagram-frame v) at (frame-most 0 v (omega arith) (limit-go v e))

module _ (w : List ℕ) where
  pub assign-most : entries_verdict false w ≡ Ok tt → length (capsule_bytes (assign (entries_of w))) ≤ capsule_room
  assign-most e = rw (assign-frame w) at (frame-most 1 (written (entry_format false) (entries_of w)) (omega arith) (entries-go false w e).value)

  pub request-most : entries_verdict true w ≡ Ok tt → length (capsule_bytes (request (entries_of w))) ≤ capsule_room
  request-most e = rw (request-frame w) at (frame-most 2 (written (entry_format true) (entries_of w)) (omega arith) (entries-go true w e).value)

  pub advertise-most : ranges_verdict w ≡ Ok tt → length (capsule_bytes (advertise (ranges_of w))) ≤ capsule_room
  advertise-most e = rw (advertise-frame w) at (frame-most 3 (written range_format (ranges_of w)) (omega arith) (ranges-go w e).value)
