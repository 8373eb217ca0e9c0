-- Why a capsule is not written: the first fault, in the order of reading.
use Rattle.std.specs.Prelude.{ℕ, ◌+◌, ◌<◌, ◌^◌, min, Bool, true, false, not, List, [], ltb, length, get_or, Result, Ok}
use Rattle.answer.specs.declared.Refusal.{Refusal}
use Rattle.answer.specs.declared.Refusal.TheVariants.{NoRoom, TooLong}
use Rattle.answer.specs.Verdict.{stop_if, ◌then◌, Writes}
use Rattle.lists.specs.declared.AddressEntry.{AddressEntry}
use Rattle.lists.specs.declared.RouteRange.{RouteRange}
use Rattle.octets.specs.Scan.{from}
use Rattle.lists.specs.Words.{max_addresses, max_ranges, count_of, entry_at, range_at, entries_of, ranges_of}
use Rattle.capsule.specs.Elements.{Format, judged, count_verdict, written}
use Rattle.capsule.specs.Entries.{entry_format, range_format}
use Rattle.capsule.specs.Capsules.{max_value, frame_bytes, capsule_bytes, datagram, assign, request, advertise}

-- room for type and length, and the least output that a capsule is written to
abbrev pub header_room : ℕ
header_room = 8

abbrev pub capsule_room : ℕ
capsule_room = max_value + header_room

-- too small an output of n bytes comes first
unfoldable pub with_room : ℕ → Result Unit Refusal → Result Unit Refusal
with_room n v = stop_if (ltb n capsule_room) NoRoom v

-- a value over the limit
unfoldable pub value_limit : List ℕ → Result Unit Refusal
value_limit v = stop_if (ltb max_value (length v)) TooLong (Ok tt)

-- every element is a word of 64 bits, as in each list that is lent
abbrev pub Words : List ℕ → Type 0
Words w = (i : ℕ) → get_or w i 0 < 2 ^ 64

-- the elements that the words hold, whatever the count says
abbrev pub stored_entries : List ℕ → List AddressEntry
stored_entries w = from (entry_at w) 0 (min (count_of w) max_addresses)

abbrev pub stored_ranges : List ℕ → List RouteRange
stored_ranges w = from (range_at w) 0 (min (count_of w) max_ranges)

-- the fault of an element, by itself and behind the earlier ones
abbrev pub element_verdict : {A : Type 0} → Format A → List A → A → Result Unit Refusal
element_verdict f earlier a = stop_if (not (f.sound a)) f.wrong (f.follows earlier a)

-- the first fault of the elements within the limit, and then of the count: an empty request, a list over its limit
abbrev pub list_verdict : {A : Type 0} → Format A → Bool → ℕ → (ℕ → A) → ℕ → Result Unit Refusal
list_verdict f asked limit at count = judged f [] (from at 0 (min count limit)) then count_verdict asked limit count

unfoldable pub entries_verdict : Bool → List ℕ → Result Unit Refusal
entries_verdict asked w = judged (entry_format asked) [] (stored_entries w) then count_verdict asked max_addresses (count_of w)

unfoldable pub ranges_verdict : List ℕ → Result Unit Refusal
ranges_verdict w = judged range_format [] (stored_ranges w) then count_verdict false max_ranges (count_of w)

-- ---- what writing answers, and what it leaves in the output

abbrev pub DatagramWritten : List ℕ → List ℕ → Result ℕ Refusal → List ℕ → Type 0
DatagramWritten v before r after = Writes (with_room (length before) (value_limit v)) (capsule_bytes (datagram v)) before r after

-- a capsule of the elements that the count says
abbrev pub ListWritten : {A : Type 0} → ℕ → Bool → Format A → ℕ → (ℕ → A) → ℕ → List ℕ → Result ℕ Refusal → List ℕ → Type 0
ListWritten kind asked f limit at count before r after =
    Writes (with_room (length before) (list_verdict f asked limit at count)) (frame_bytes kind (written f (from at 0 count))) before r after

abbrev pub AssignWritten : List ℕ → List ℕ → Result ℕ Refusal → List ℕ → Type 0
AssignWritten w before r after = Writes (with_room (length before) (entries_verdict false w)) (capsule_bytes (assign (entries_of w))) before r after

abbrev pub RequestWritten : List ℕ → List ℕ → Result ℕ Refusal → List ℕ → Type 0
RequestWritten w before r after = Writes (with_room (length before) (entries_verdict true w)) (capsule_bytes (request (entries_of w))) before r after

-- its value alone
abbrev pub RequestValueWritten : List ℕ → List ℕ → Result ℕ Refusal → List ℕ → Type 0
RequestValueWritten w before r after =
    Writes (with_room (length before) (entries_verdict true w)) (written (entry_format true) (entries_of w)) before r after

abbrev pub RoutesWritten : List ℕ → List ℕ → Result ℕ Refusal → List ℕ → Type 0
RoutesWritten w before r after = Writes (with_room (length before) (ranges_verdict w)) (capsule_bytes (advertise (ranges_of w))) before r after
