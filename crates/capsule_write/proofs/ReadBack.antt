-- A capsule that is written keeps the rules of reading, so it is read back as it was, whatever follows it. Assumes nothing.
use Rattle.std.proofs.Common.{Ok}
use Prim.Native.Nat.{ℕ, zero, suc, ◌+◌, ◌*◌, ◌^◌, min}
use mathlib.Core.Bool.{Bool, true, false}
use mathlib.Core.Path.{◌≡◌, refl, ap, ◌∙◌}
use mathlib.Core.List.{List, ◌++◌}
use native.Mathlib.Omega.{arith}
use borrow.Author.Tests.{lt-ltb}
use lib.ListN.{length, get_or}
use Rattle.octets.specs.Scan.{from, all_of}
use Rattle.lists.specs.declared.AddressEntry.{AddressEntry}
use Rattle.lists.specs.declared.RouteRange.{RouteRange}
use Rattle.lists.specs.Words.{max_addresses, max_ranges, count_of, entry_at, range_at, entries_of, ranges_of, pack_entries, pack_ranges}
use Rattle.lists.proofs.Views.{count_pack_entries, count_pack_ranges}
use Rattle.capsule.specs.Capsules.{datagram, assign, request, advertise, capsule, capsule_bytes, read_capsule}
use Rattle.capsule.specs.Entries.{entry_format, range_format}
use Rattle.capsule.specs.Sound.{Ruled, value_start, Sound, sound-datagram, sound-assign, sound-request, sound-advertise, entry_in_words, range_in_words}
use Rattle.capsule.proofs.ReadLaws.{entries-sound, ranges-sound, entries_packed, ranges_packed}
use Rattle.capsule.proofs.RoundTrip.{read-written}
use Rattle.capsule_write.specs.Verdicts.{Words, value_limit, stored_entries, stored_ranges, entries_verdict, ranges_verdict}
use Rattle.capsule_write.proofs.Accepted.{entries-go, ranges-go, limit-go}

-- ---- an `Ok` says that the capsule keeps the rules

pub datagram-sound : (v : List ℕ) → value_limit v ≡ Ok tt → Sound (datagram v)
datagram-sound v e = sound-datagram (limit-go v e)

module _ (w : List ℕ) where
  pub assign-sound : entries_verdict false w ≡ Ok tt → Sound (assign (entries_of w))
  assign-sound e = let g = entries-go false w e in sound-assign (record { elements = g.faultless; number = g.counted })

  pub request-sound : entries_verdict true w ≡ Ok tt → Sound (request (entries_of w))
  request-sound e = let g = entries-go true w e in sound-request (record { elements = g.faultless; number = g.counted })

  pub advertise-sound : ranges_verdict w ≡ Ok tt → Sound (advertise (ranges_of w))
  advertise-sound e = let g = ranges-go w e in sound-advertise (record { elements = g.faultless; number = g.counted })

-- ---- what words hold

all_from : {A : Type 0} (p : A → Bool) (f : ℕ → A) → ((i : ℕ) → p (f i) ≡ true) → (i n : ℕ) → all_of p (from f i n) ≡ true
all_from p f h i zero = refl
all_from p f h i (suc n) = rw (h i) (all_from p f h (suc i) n)

module _ (w : List ℕ) (h : Words w) where
  entry-words : (i : ℕ) → entry_in_words (entry_at w i) ≡ true
  unfolding entry_at
  entry-words i = rw (lt-ltb (get_or w (i * 4 + 3) 0) (2 ^ 64) (h (i * 4 + 3))) (lt-ltb (get_or w (i * 4 + 4) 0) (2 ^ 64) (h (i * 4 + 4)))

  range_words_lem : (i : ℕ) → range_in_words (range_at w i) ≡ true
  unfolding range_at
  range_words_lem i =
      rw (
        lt-ltb (get_or w (i * 5 + 2) 0) (2 ^ 64) (h (i * 5 + 2)),
        lt-ltb (get_or w (i * 5 + 3) 0) (2 ^ 64) (h (i * 5 + 3)),
        lt-ltb (get_or w (i * 5 + 4) 0) (2 ^ 64) (h (i * 5 + 4)),
      )
      (lt-ltb (get_or w (i * 5 + 5) 0) (2 ^ 64) (h (i * 5 + 5)))

  pub entries-words : all_of entry_in_words (entries_of w) ≡ true
  unfolding entries_of
  entries-words = all_from entry_in_words (entry_at w) entry-words 0 (count_of w)

  pub ranges-words : all_of range_in_words (ranges_of w) ≡ true
  unfolding ranges_of
  ranges-words = all_from range_in_words (range_at w) range_words_lem 0 (count_of w)

-- ---- written, and then read

pub read-datagram : (v rest : List ℕ) → value_limit v ≡ Ok tt
    → read_capsule (capsule_bytes (datagram v) ++ rest) ≡ capsule (datagram v) (value_start (datagram v)) (length (capsule_bytes (datagram v)))
read-datagram v rest e =
    read-written (datagram v) rest (datagram-sound v e) refl (λ q. let z : ◌≡◌ {A = ℕ} 0 1 = cc in omega arith)

module _ (w : List ℕ) (h : Words w) (rest : List ℕ) where
  pub read-assign : entries_verdict false w ≡ Ok tt
      → read_capsule (capsule_bytes (assign (entries_of w)) ++ rest)
      ≡ capsule (assign (entries_of w)) (value_start (assign (entries_of w))) (length (capsule_bytes (assign (entries_of w))))
  read-assign e =
      read-written (assign (entries_of w)) rest (assign-sound w e) (entries-words w h) (λ q. let z : ◌≡◌ {A = ℕ} 0 1 = cc in omega arith)

  pub read-request : entries_verdict true w ≡ Ok tt
      → read_capsule (capsule_bytes (request (entries_of w)) ++ rest)
      ≡ capsule (request (entries_of w)) (value_start (request (entries_of w))) (length (capsule_bytes (request (entries_of w))))
  read-request e =
      read-written (request (entries_of w)) rest (request-sound w e) (entries-words w h) (λ q. let z : ◌≡◌ {A = ℕ} 0 1 = cc in omega arith)

  pub read-advertise : ranges_verdict w ≡ Ok tt
      → read_capsule (capsule_bytes (advertise (ranges_of w)) ++ rest)
      ≡ capsule (advertise (ranges_of w)) (value_start (advertise (ranges_of w))) (length (capsule_bytes (advertise (ranges_of w))))
  read-advertise e =
      read-written (advertise (ranges_of w)) rest (advertise-sound w e) (ranges-words w h) (λ q. let z : ◌≡◌ {A = ℕ} 0 1 = cc in omega arith)

-- ---- a list that keeps the rules of reading is written

module _ (asked : Bool) (es : List AddressEntry) (r : Ruled (entry_format asked) asked max_addresses es) where
  stored-entries : stored_entries (pack_entries es) ≡ es
  unfolding entries_of pack_entries
  stored-entries =
      let q : min (length es) max_addresses ≡ length es = omega (arith, (entries-sound asked es r).1) in
      ap (from (entry_at (pack_entries es)) 0) q ∙ entries_packed asked es r

  pub ruled-entries_go : entries_verdict asked (pack_entries es) ≡ Ok tt
  unfolding entries_verdict
  ruled-entries_go = rw (stored-entries, count_pack_entries es, r.elements) r.number

module _ (rs : List RouteRange) (r : Ruled range_format false max_ranges rs) where
  stored-ranges : stored_ranges (pack_ranges rs) ≡ rs
  unfolding ranges_of pack_ranges
  stored-ranges =
      let q : min (length rs) max_ranges ≡ length rs = omega (arith, (ranges-sound rs r).1) in
      ap (from (range_at (pack_ranges rs)) 0) q ∙ ranges_packed rs r

  pub ruled-ranges_go : ranges_verdict (pack_ranges rs) ≡ Ok tt
  unfolding ranges_verdict
  ruled-ranges_go = rw (stored-ranges, count_pack_ranges rs, r.elements) r.number
