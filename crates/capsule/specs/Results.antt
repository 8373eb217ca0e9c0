-- What reading a capsule from a buffer hands back.
use Rattle.std.specs.Prelude.{ℕ, ◌+◌, ◌-◌, false, true, ◌≡◌, List, drop, Result, Ok, Err}
use Rattle.answer.specs.declared.Refusal.{Refusal}
use Rattle.lists.specs.declared.AddressEntry.{AddressEntry}
use Rattle.lists.specs.declared.RouteRange.{RouteRange}
use Rattle.lists.specs.declared.WordList.{WordList}
use Rattle.lists.specs.Words.{address_list, route_list, pack_entries, pack_ranges, address_words, route_words}
use Rattle.capsule.specs.declared.CapsuleRead.{CapsuleRead}
use Rattle.capsule.specs.declared.FrameRead.{FrameRead}
use Rattle.capsule.specs.declared.Kind.{Kind}
use Rattle.capsule.specs.declared.Kind.TheVariants.{Datagram, AddressAssign, AddressRequest, RouteAdvertisement, Other}
use Rattle.capsule.specs.Elements.{Parsed, fault, all, parsed_verdict, elements_of}
use Rattle.capsule.specs.Capsules.{kind_of, kind_numbered, unknown, entries_in, ranges_in, Reading, refused, capsule, frame_of, read_capsule}

-- the kind of any type but 0 to 3
abbrev pub other_kind : ℕ
other_kind = kind_of unknown

-- a capsule of a type at a place, whose value of so many bytes starts so far behind it
abbrev pub found_at : ℕ → ℕ → ℕ → ℕ → CapsuleRead
found_at at type start size = record { kind = kind_numbered type; start = at + start; length = size; next = at + start + size }

-- where reading goes on: behind the capsule, and a refusal leaves the place
abbrev pub next_after : ℕ → Result CapsuleRead Refusal → ℕ
next_after at (Ok c) = c.next
next_after at (Err r) = at

-- what a verdict on its value leaves of a capsule that was found
abbrev pub judged_found : Result Unit Refusal → CapsuleRead → Result CapsuleRead Refusal
judged_found (Ok _) f = Ok f
judged_found (Err r) f = Err r

-- ---- a capsule whose value is read

abbrev pub result_at : ℕ → Reading → Result CapsuleRead Refusal
result_at at (refused r) = Err r
result_at at (capsule c start size) = Ok (found_at at (kind_of c) start (size - start))

-- the capsule at a place of a buffer; past the end there is none
unfoldable pub read_at : List ℕ → ℕ → Result CapsuleRead Refusal
read_at s at = result_at at (read_capsule (drop at s))

-- ---- a capsule whose value is not looked at

abbrev pub frame_result : ℕ → Result FrameRead Refusal → Result CapsuleRead Refusal
frame_result at (Ok f) = Ok (found_at at f.kind f.start f.length)
frame_result at (Err r) = Err r

unfoldable pub frame_in : List ℕ → ℕ → Result CapsuleRead Refusal
frame_in s at = frame_result at (frame_of (drop at s))

-- the first fault of a value of a kind
unfoldable pub value_verdict : Kind → List ℕ → Result Unit Refusal
value_verdict Datagram v = Ok tt
value_verdict AddressAssign v = parsed_verdict (entries_in false v)
value_verdict AddressRequest v = parsed_verdict (entries_in true v)
value_verdict RouteAdvertisement v = parsed_verdict (ranges_in v)
value_verdict Other v = Ok tt

-- ---- the list of a value

abbrev pub entries_result : Parsed AddressEntry → Result (WordList address_words) Refusal
entries_result (fault r) = Err r
entries_result (all es) = Ok (address_list es)

abbrev pub ranges_result : Parsed RouteRange → Result (WordList route_words) Refusal
ranges_result (fault r) = Err r
ranges_result (all rs) = Ok (route_list rs)

-- ---- the list of a value in lent words: where the verdict goes they hold it, and where it stops nothing is said of them
pub record ReadsList {A : Type 0} (pack : List A → List ℕ) (p : Parsed A) (r : Result Unit Refusal) (words : List ℕ) : Type 0 where
  pub verdict : r ≡ parsed_verdict p
  pub list : r ≡ Ok tt → words ≡ pack (elements_of p)

abbrev pub ReadsEntries : Parsed AddressEntry → Result Unit Refusal → List ℕ → Type 0
ReadsEntries p r words = ReadsList pack_entries p r words

abbrev pub ReadsRanges : Parsed RouteRange → Result Unit Refusal → List ℕ → Type 0
ReadsRanges p r words = ReadsList pack_ranges p r words
