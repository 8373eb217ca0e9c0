-- Laws of reading a capsule: what is taken lies within the bytes, keeps the rules, and does not change when bytes are appended. Assumes nothing.
use Rattle.std.proofs.Common.{Result, Ok, Err}
use Prim.Native.Nat.{ℕ, ◌+◌, ◌≤◌}
use mathlib.Core.Bool.{Bool, true, false}
use mathlib.Core.Path.{◌≡◌, refl, sym, ◌∙◌}
use mathlib.Core.List.{List, [], ◌∷◌, ◌++◌}
use native.Mathlib.Omega.{arith}
use lib.Dec.{ltb}
use lib.ListN.{length, take, drop, length-take, length-drop}
use lib.Seq.{take-append-le, drop-append-le}
use Rattle.answer.specs.declared.Refusal.{Refusal}
use Rattle.answer.specs.declared.Refusal.TheVariants.{Incomplete, TooLong, RangesOutOfOrder}
use Rattle.answer.specs.Choice.{pick}
use Rattle.varint.proofs.Reading as Number
use Rattle.octets.specs.Big.{Bytes}
use Rattle.octets.proofs.BigLaws as Big
use Rattle.lists.specs.declared.AddressEntry.{AddressEntry}
use Rattle.lists.specs.declared.RouteRange.{RouteRange}
use Rattle.lists.specs.declared.WordList.{WordList}
use Rattle.octets.specs.Scan.{all_of}
use Rattle.lists.specs.Rules.{sound_entry, in_order, before_all, sound_after}
use Rattle.lists.specs.Words.{max_addresses, max_ranges, entries_of, ranges_of, sound_addresses, sound_routes, no_addresses, no_routes, pack_entries, pack_ranges, address_words, route_words}
use Rattle.lists.proofs.ListScans.{facts_addresses, facts_routes}
use Rattle.lists.proofs.Views as Views
use Rattle.capsule.specs.declared.FrameRead.{FrameRead}
use Rattle.capsule.specs.Elements.{Parsed, elements_of, judged, fault, all}
use Rattle.capsule.specs.Entries.{entry_format, range_format, range_follows, newest}
use Rattle.capsule.specs.Capsules.{max_value, Capsule, entries_in, ranges_in, Reading, refused, capsule, in_frame, frame_of, read_capsule}
use Rattle.capsule.specs.Results.{entries_result, ranges_result}
use Rattle.capsule.specs.Sound.{Ruled, Sound, sound-datagram, sound-assign, sound-request, sound-advertise, sound-unknown, entry_in_words, range_in_words, in_words}
use Rattle.capsule.proofs.FrameCases as Frames
use Rattle.capsule.proofs.Parsing as Parsing
use Rattle.capsule.proofs.EntryBytes.{entries_lawful}
use Rattle.capsule.proofs.RangeBytes.{ranges_lawful}
use Rattle.capsule.proofs.ReadFacts.{Taken, is-datagram, is-assign, is-request, is-advertise, is-unknown, read_facts}

-- ---- within the bytes: its size is that of type, length and value, of which `read_facts` tells
module _ (s : List ℕ) (c : Capsule) (start size : ℕ) (e : read_capsule s ≡ capsule c start size) where
  pub read-within : (2 ≤ size) × (size ≤ length s)
  read-within =
      let r = read_facts s c start size e in
      let f = r.framed in
      let a = Number.taken s r.kind f.n f.type in
      let b = Number.taken (drop f.n s) r.count f.m f.count in
      (omega (arith, r.ends, f.starts, a.some, b.some), omega (arith, r.ends, f.there))

  pub read-size : size ≡ (read_facts s c start size e).framed.n + (read_facts s c start size e).framed.m + (read_facts s c start size e).count
  read-size = let r = read_facts s c start size e in omega (arith, r.ends, r.framed.starts)

-- ---- the rules
value-sound : (kind : ℕ) (v : List ℕ) (c : Capsule) → (kind ≤ 3 → length v ≤ max_value) → Taken kind v c → Sound c
value-sound kind v c h (is-datagram k) = sound-datagram (h (omega arith))
value-sound kind v c h (is-assign {es} k e) = sound-assign (Parsing.read-ruled (entries_lawful false) false max_addresses v es e)
value-sound kind v c h (is-request {es} k e) = sound-request (Parsing.read-ruled (entries_lawful true) true max_addresses v es e)
value-sound kind v c h (is-advertise {rs} k e) = sound-advertise (Parsing.read-ruled ranges_lawful false max_ranges v rs e)
value-sound kind v c h (is-unknown k) = sound-unknown

value-words : (kind : ℕ) (v : List ℕ) (c : Capsule) → Bytes v → Taken kind v c → in_words c ≡ true
value-words kind v c h (is-datagram k) = refl
value-words kind v c h (is-assign {es} k e) = Parsing.read-words (entries_lawful false) false max_addresses v es h e
value-words kind v c h (is-request {es} k e) = Parsing.read-words (entries_lawful true) true max_addresses v es h e
value-words kind v c h (is-advertise {rs} k e) = Parsing.read-words ranges_lawful false max_ranges v rs h e
value-words kind v c h (is-unknown k) = refl

module _ (s : List ℕ) (c : Capsule) (start size : ℕ) (e : read_capsule s ≡ capsule c start size) where
  pub read-sound : Sound c
  read-sound =
      let r = read_facts s c start size e in
      let l : length (take r.count (drop start s)) ≤ r.count = simp length-take (omega arith) in
      value-sound r.kind (take r.count (drop start s)) c (λ h. omega (arith, r.framed.short h)) r.taken

  pub read-words : Bytes s → in_words c ≡ true
  read-words h =
      let r = read_facts s c start size e in
      value-words r.kind (take r.count (drop start s)) c
      (Big.bytes_take r.count (drop start s) (Big.bytes_drop start s h)) r.taken

-- entries that keep the rules are sound; so are ranges, and in order
judged-entries : (asked : Bool) (earlier es : List AddressEntry) → judged (entry_format asked) earlier es ≡ Ok tt → all_of sound_entry es ≡ true
judged-entries asked earlier [] h = refl
judged-entries asked earlier (e ∷ es) h =
    let g = Parsing.judged-go (entry_format asked) earlier e es h in
    rw g.0 (judged-entries asked (e ∷ earlier) es g.2)

follows-order : (earlier : List RouteRange) (r : RouteRange) → range_follows earlier r ≡ Ok tt → in_order (newest earlier) r ≡ true
unfolding range_follows
follows-order earlier r h = (Parsing.stop-go (in_order (newest earlier) r) RangesOutOfOrder (Ok tt) h).0

judged-ranges : (earlier rs : List RouteRange) → judged range_format earlier rs ≡ Ok tt → sound_after (newest earlier) rs ≡ true
judged-ranges earlier [] h = refl
judged-ranges earlier (r ∷ rs) h =
    let g = Parsing.judged-go range_format earlier r rs h in
    rw (g.0, follows-order earlier r g.1) (judged-ranges (r ∷ earlier) rs g.2)

module _ (asked : Bool) (es : List AddressEntry) (r : Ruled (entry_format asked) asked max_addresses es) where
  pub entries-sound : (all_of sound_entry es ≡ true) × (length es ≤ max_addresses)
  entries-sound = (judged-entries asked [] es r.elements, Parsing.ruled-within r)

  pub addresses-sound : sound_addresses es ≡ true
  addresses-sound = facts_addresses es entries-sound.1 entries-sound.0

  -- the words hold the same entries
  pub entries_packed : entries_of (pack_entries es) ≡ es
  entries_packed = Views.entries_pack es entries-sound.1 entries-sound.0

module _ (rs : List RouteRange) (r : Ruled range_format false max_ranges rs) where
  pub ranges-sound : (sound_after before_all rs ≡ true) × (length rs ≤ max_ranges)
  ranges-sound = (judged-ranges [] rs r.elements, Parsing.ruled-within r)

  pub routes-sound : sound_routes rs ≡ true
  routes-sound = facts_routes rs ranges-sound.1 ranges-sound.0

  pub ranges_packed : ranges_of (pack_ranges rs) ≡ rs
  ranges_packed = Views.ranges_pack before_all rs ranges-sound.1 ranges-sound.0

-- whatever the bytes, the list of a value is sound
within-limit : {A : Type 0} (b : Bool) (p : Parsed A) (xs : List A) → pick b (fault TooLong) p ≡ all xs → p ≡ all xs
within-limit true p xs e = let z : ◌≡◌ {A = ℕ} 0 1 = cc in absurd (omega arith)
within-limit false p xs e = e

module _ (v : List ℕ) where
  module _ (asked : Bool) (es : List AddressEntry) (e : entries_in asked v ≡ all es) where
    pub entries-ruled : Ruled (entry_format asked) asked max_addresses es
    unfolding entries_in
    entries-ruled = Parsing.read-ruled (entries_lawful asked) asked max_addresses v es (within-limit (ltb max_value (length v)) _ es e)

    pub entries_in_words : Bytes v → all_of entry_in_words es ≡ true
    unfolding entries_in
    entries_in_words h = Parsing.read-words (entries_lawful asked) asked max_addresses v es h (within-limit (ltb max_value (length v)) _ es e)

  module _ (rs : List RouteRange) (e : ranges_in v ≡ all rs) where
    pub ranges-ruled : Ruled range_format false max_ranges rs
    unfolding ranges_in
    ranges-ruled = Parsing.read-ruled ranges_lawful false max_ranges v rs (within-limit (ltb max_value (length v)) _ rs e)

    pub ranges_in_words : Bytes v → all_of range_in_words rs ≡ true
    unfolding ranges_in
    ranges_in_words h = Parsing.read-words ranges_lawful false max_ranges v rs h (within-limit (ltb max_value (length v)) _ rs e)

-- the list that is handed back, and with a refusal an empty one
abbrev pub addresses_in : Result (WordList address_words) Refusal → WordList address_words
addresses_in (Ok l) = l
addresses_in (Err r) = no_addresses

abbrev pub routes_in : Result (WordList route_words) Refusal → WordList route_words
routes_in (Ok l) = l
routes_in (Err r) = no_routes

-- it holds what was read and is sound
module _ (v : List ℕ) where
  entries-handed : (asked : Bool) (p : Parsed AddressEntry) → entries_in asked v ≡ p → entries_of (addresses_in (entries_result p)).words ≡ elements_of p
  entries-handed asked (fault r) e = Views.entries_none
  entries-handed asked (all es) e = entries_packed asked es (entries-ruled v asked es e)

  entries-good : (asked : Bool) (p : Parsed AddressEntry) → entries_in asked v ≡ p → sound_addresses (elements_of p) ≡ true
  unfolding sound_addresses
  entries-good asked (fault r) e = refl
  entries-good asked (all es) e = addresses-sound asked es (entries-ruled v asked es e)

  ranges-handed : (p : Parsed RouteRange) → ranges_in v ≡ p → ranges_of (routes_in (ranges_result p)).words ≡ elements_of p
  ranges-handed (fault r) e = Views.ranges-none
  ranges-handed (all rs) e = ranges_packed rs (ranges-ruled v rs e)

  ranges-good : (p : Parsed RouteRange) → ranges_in v ≡ p → sound_routes (elements_of p) ≡ true
  unfolding sound_routes
  ranges-good (fault r) e = refl
  ranges-good (all rs) e = routes-sound rs (ranges-ruled v rs e)

  pub entries-held : (asked : Bool) → entries_of (addresses_in (entries_result (entries_in asked v))).words ≡ elements_of (entries_in asked v)
  entries-held asked = entries-handed asked (entries_in asked v) refl

  pub ranges-held : ranges_of (routes_in (ranges_result (ranges_in v))).words ≡ elements_of (ranges_in v)
  ranges-held = ranges-handed (ranges_in v) refl

  pub lists-sound : ((asked : Bool) → sound_addresses (elements_of (entries_in asked v)) ≡ true) × (sound_routes (elements_of (ranges_in v)) ≡ true)
  lists-sound = (λ asked. entries-good asked (entries_in asked v) refl, ranges-good (ranges_in v) refl)

-- ---- bytes appended
module _ (s t : List ℕ) where
  same-value : (start size : ℕ) → start + size ≤ length s → take size (drop start (s ++ t)) ≡ take size (drop start s)
  same-value start size h =
      let a : start ≤ length s = omega arith in
      let b : size ≤ length (drop start s) = simp length-drop (omega arith) in
      rw (drop-append-le start s t a) (take-append-le size (drop start s) t b)

  more : (r : Result FrameRead Refusal) → Frames.FrameCase s r → (in_frame s r ≡ refused Incomplete → ⊥) → read_capsule (s ++ t) ≡ in_frame s r
  unfolding read_capsule
  more r (Frames.there {kind} {start} {size} f) h =
      rw (Frames.framed-frame (Frames.framed_append s t kind start size f), same-value start size f.there)
  more r (Frames.long {kind} {n} {size} {m} e g k l) h = rw (Frames.long_append s t kind n size m e g k l)
  more r Frames.lacking h = absurd (h refl)

  -- an answer other than `Incomplete` stays as it is
  pub read_more : (r : Reading) → read_capsule s ≡ r → (r ≡ refused Incomplete → ⊥) → read_capsule (s ++ t) ≡ r
  unfolding read_capsule
  read_more r e h = more (frame_of s) (Frames.frame_case s) (λ q. h (sym e ∙ q)) ∙ e
