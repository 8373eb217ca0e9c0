-- The elements of a packed list are the list, since the two parts of a sound element's tag are bytes; so it is sound. Assumes nothing.
use Prim.Native.Nat.{ℕ, zero, suc, ◌+◌, ◌*◌, ◌/◌, ◌%◌, ◌≤◌, ◌<◌}
use mathlib.Core.Bool.{true, ◌&&◌}
use mathlib.Core.Path.{◌≡◌, refl, ap, ◌∙◌}
use mathlib.Core.List.{List, [], ◌∷◌}
use native.Mathlib.Nat.{not-suc-le-zero}
use native.Mathlib.Omega.{arith}
use lib.ListN.{length, get_or}
use Rattle.answer.proofs.Tests.{and_both}
use Rattle.lists.specs.declared.AddressEntry.{AddressEntry}
use Rattle.lists.specs.declared.RouteRange.{RouteRange}
use Rattle.octets.specs.Scan.{from, all_of}
use Rattle.lists.specs.Rules.{sound_entry, sound_range, in_order, before_all, sound_after}
use Rattle.lists.specs.Words.{max_addresses, max_ranges, count_of, entry_at, range_at, entries_of, ranges_of, sound_addresses, sound_routes}
use Rattle.lists.specs.Words.{entry_words, range_words, pack_entries, pack_ranges, no_addresses, no_routes}
use Rattle.octets.proofs.Scans.{from_suc, from-same}
use Rattle.lists.proofs.ListScans.{facts_addresses, facts_routes}
use Rattle.lists.proofs.EntryRule as Entry
use Rattle.lists.proofs.RangeRule as Range

-- the two parts of a tag
tag-low : (v p : ℕ) → v < 256 → (v + 256 * p) % 256 ≡ v
tag-low v p h = omega arith

tag-high : (v p : ℕ) → v < 256 → p < 256 → (v + 256 * p) / 256 % 256 ≡ p
tag-high v p h g = omega arith

-- ---- entries

-- the entry at the words 4 i to 4 i + 3
abbrev entry_in : List ℕ → ℕ → AddressEntry
entry_in w i =
    record {
      request_id = record { 0 = get_or w (i * 4 + 0) 0 };
      version = get_or w (i * 4 + 1) 0 % 256;
      prefix = get_or w (i * 4 + 1) 0 / 256 % 256;
      hi = get_or w (i * 4 + 2) 0;
      lo = get_or w (i * 4 + 3) 0;
    }

entry_at_cons : (n : ℕ) (w : List ℕ) (i : ℕ) → entry_at (n ∷ w) i ≡ entry_in w i
unfolding entry_at
entry_at_cons n w i =
    let z : i * 4 + 0 ≡ i * 4 = omega arith in
    let a : i * 4 + 1 ≡ suc (i * 4) = omega arith in
    let b : i * 4 + 2 ≡ suc (suc (i * 4)) = omega arith in
    let c : i * 4 + 3 ≡ suc (suc (suc (i * 4))) = omega arith in
    let d : i * 4 + 4 ≡ suc (suc (suc (suc (i * 4)))) = omega arith in
    rw (a, b, c, d, z)

get_d_four : (a b c d : ℕ) (w : List ℕ) (i k : ℕ) → get_or (a ∷ b ∷ c ∷ d ∷ w) (suc i * 4 + k) 0 ≡ get_or w (i * 4 + k) 0
get_d_four a b c d w i k =
    let q : suc i * 4 + k ≡ suc (suc (suc (suc (i * 4 + k)))) = omega arith in
    rw q

entry-later : (k : ℕ) (e : AddressEntry) (es : List AddressEntry) (i : ℕ)
    → entry_in (entry_words (suc k) (e ∷ es)) (suc i) ≡ entry_in (entry_words k es) i
entry-later k e es i = simp get_d_four

entry_first : (k : ℕ) (e : AddressEntry) (es : List AddressEntry) → Entry.EntryFacts e → entry_in (entry_words (suc k) (e ∷ es)) 0 ≡ e
entry_first k e es f =
    let v : e.version < 256 = Entry.version-small e f in
    let p : e.prefix < 256 = omega (arith, Entry.prefix-small e f) in
    rw (tag-low e.version e.prefix v, tag-high e.version e.prefix v p)

entries_in_lem : (k : ℕ) (es : List AddressEntry) → length es ≤ k → all_of sound_entry es ≡ true
    → from (entry_in (entry_words k es)) 0 (length es) ≡ es
entries_in_lem k [] h s = refl
entries_in_lem zero (e ∷ es) h s = absurd (not-suc-le-zero h)
entries_in_lem (suc k) (e ∷ es) h s =
    let b = and_both (sound_entry e) (all_of sound_entry es) s in
    rw (entry_first k e es (Entry.entry_facts e b.0))
    (ap (λ (l : List AddressEntry). e ∷ l)
    (from_suc (entry_in (entry_words (suc k) (e ∷ es))) 0 (length es)
    ∙ from-same (λ i. entry_in (entry_words (suc k) (e ∷ es)) (suc i)) (entry_in (entry_words k es)) (entry-later k e es) 0 (length es)
    ∙ entries_in_lem k es (omega arith) b.1))

-- read by their indices
pub entries_at : (n k : ℕ) (es : List AddressEntry) → length es ≤ k → all_of sound_entry es ≡ true
    → from (entry_at (n ∷ entry_words k es)) 0 (length es) ≡ es
entries_at n k es h s =
    from-same (entry_at (n ∷ entry_words k es)) (entry_in (entry_words k es)) (entry_at_cons n (entry_words k es)) 0 (length es)
    ∙ entries_in_lem k es h s

pub entries_pack : (es : List AddressEntry) → length es ≤ max_addresses → all_of sound_entry es ≡ true
    → entries_of (pack_entries es) ≡ es
unfolding entries_of pack_entries
entries_pack es h s = entries_at (length es) max_addresses es h s

pub count_pack_entries : (es : List AddressEntry) → count_of (pack_entries es) ≡ length es
unfolding pack_entries
count_pack_entries es = refl

pub sound_pack_entries : (es : List AddressEntry) → length es ≤ max_addresses → all_of sound_entry es ≡ true
    → sound_addresses (entries_of (pack_entries es)) ≡ true
sound_pack_entries es h s = rw (entries_pack es h s) (facts_addresses es h s)

-- the empty list
pub entries_none : entries_of no_addresses.words ≡ []
unfolding entries_of
entries_none = refl

pub sound_none_entries : sound_addresses (entries_of no_addresses.words) ≡ true
unfolding sound_addresses entries_of
sound_none_entries = refl

-- ---- ranges

-- the range at the words 5 i to 5 i + 4
abbrev range_in : List ℕ → ℕ → RouteRange
range_in w i =
    record {
      version = get_or w (i * 5 + 0) 0 % 256;
      protocol = get_or w (i * 5 + 0) 0 / 256 % 256;
      start_hi = get_or w (i * 5 + 1) 0;
      start_lo = get_or w (i * 5 + 2) 0;
      end_hi = get_or w (i * 5 + 3) 0;
      end_lo = get_or w (i * 5 + 4) 0;
    }

range_at_cons : (n : ℕ) (w : List ℕ) (i : ℕ) → range_at (n ∷ w) i ≡ range_in w i
unfolding range_at
range_at_cons n w i =
    let z : i * 5 + 0 ≡ i * 5 = omega arith in
    let a : i * 5 + 1 ≡ suc (i * 5) = omega arith in
    let b : i * 5 + 2 ≡ suc (suc (i * 5)) = omega arith in
    let c : i * 5 + 3 ≡ suc (suc (suc (i * 5))) = omega arith in
    let d : i * 5 + 4 ≡ suc (suc (suc (suc (i * 5)))) = omega arith in
    let e : i * 5 + 5 ≡ suc (suc (suc (suc (suc (i * 5))))) = omega arith in
    rw (a, b, c, d, e, z)

get_d_five : (a b c d e : ℕ) (w : List ℕ) (i k : ℕ) → get_or (a ∷ b ∷ c ∷ d ∷ e ∷ w) (suc i * 5 + k) 0 ≡ get_or w (i * 5 + k) 0
get_d_five a b c d e w i k =
    let q : suc i * 5 + k ≡ suc (suc (suc (suc (suc (i * 5 + k))))) = omega arith in
    rw q

range_later : (k : ℕ) (r : RouteRange) (rs : List RouteRange) (i : ℕ)
    → range_in (range_words (suc k) (r ∷ rs)) (suc i) ≡ range_in (range_words k rs) i
range_later k r rs i = simp get_d_five

range_first : (k : ℕ) (r : RouteRange) (rs : List RouteRange) → Range.RangeFacts r → range_in (range_words (suc k) (r ∷ rs)) 0 ≡ r
range_first k r rs f =
    let v : r.version < 256 = Range.version-small r f in
    rw (tag-low r.version r.protocol v, tag-high r.version r.protocol v f.protocol)

ranges_in_lem : (k : ℕ) (a : RouteRange) (rs : List RouteRange) → length rs ≤ k → sound_after a rs ≡ true
    → from (range_in (range_words k rs)) 0 (length rs) ≡ rs
ranges_in_lem k a [] h s = refl
ranges_in_lem zero a (r ∷ rs) h s = absurd (not-suc-le-zero h)
ranges_in_lem (suc k) a (r ∷ rs) h s =
    let b = and_both (sound_range r) (in_order a r && sound_after r rs) s in
    let o = and_both (in_order a r) (sound_after r rs) b.1 in
    rw (range_first k r rs (Range.range_facts r b.0))
    (ap (λ (l : List RouteRange). r ∷ l)
    (from_suc (range_in (range_words (suc k) (r ∷ rs))) 0 (length rs)
    ∙ from-same (λ i. range_in (range_words (suc k) (r ∷ rs)) (suc i)) (range_in (range_words k rs)) (range_later k r rs) 0 (length rs)
    ∙ ranges_in_lem k r rs (omega arith) o.1))

pub ranges-at : (n k : ℕ) (a : RouteRange) (rs : List RouteRange) → length rs ≤ k → sound_after a rs ≡ true
    → from (range_at (n ∷ range_words k rs)) 0 (length rs) ≡ rs
ranges-at n k a rs h s =
    from-same (range_at (n ∷ range_words k rs)) (range_in (range_words k rs)) (range_at_cons n (range_words k rs)) 0 (length rs)
    ∙ ranges_in_lem k a rs h s

pub ranges_pack : (a : RouteRange) (rs : List RouteRange) → length rs ≤ max_ranges → sound_after a rs ≡ true
    → ranges_of (pack_ranges rs) ≡ rs
unfolding ranges_of pack_ranges
ranges_pack a rs h s = ranges-at (length rs) max_ranges a rs h s

pub count_pack_ranges : (rs : List RouteRange) → count_of (pack_ranges rs) ≡ length rs
unfolding pack_ranges
count_pack_ranges rs = refl

pub sound_pack_ranges : (rs : List RouteRange) → length rs ≤ max_ranges → sound_after before_all rs ≡ true
    → sound_routes (ranges_of (pack_ranges rs)) ≡ true
sound_pack_ranges rs h s = rw (ranges_pack before_all rs h s) (facts_routes rs h s)

pub ranges-none : ranges_of no_routes.words ≡ []
unfolding ranges_of
ranges-none = refl

pub sound_none_ranges : sound_routes (ranges_of no_routes.words) ≡ true
unfolding sound_routes ranges_of
sound_none_ranges = refl
