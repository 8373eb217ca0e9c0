-- A capsule written against the state of a tunnel: the list written becomes the given one.
use Rattle.std.specs.Prelude.{ℕ, ◌+◌, ◌≡◌, true, false, not, List, length, Result}
use Rattle.answer.specs.declared.Refusal.{Refusal}
use Rattle.answer.specs.declared.Refusal.TheVariants.{BrokenState}
use Rattle.answer.specs.Verdict.{stop_if, kept, Writes}
use Rattle.octets.specs.Parts.{with_part}
use Rattle.lists.specs.declared.AddressEntry.{AddressEntry}
use Rattle.lists.specs.declared.RouteRange.{RouteRange}
use Rattle.lists.specs.Words.{address_words, route_words, entries_of, ranges_of, pack_entries, pack_ranges}
use Rattle.capsule.specs.Elements.{parsed_verdict, elements_of}
use Rattle.capsule.specs.Capsules.{assign, request, advertise, capsule_bytes, entries_in, ranges_in}
use Rattle.capsule_write.specs.Verdicts.{with_room, entries_verdict, ranges_verdict}
use Rattle.state.specs.State.{given_at, state_in, sound_state}

-- a given list stored in the words of a state
abbrev pub give_addresses : List ℕ → List ℕ → List ℕ
give_addresses w l = with_part w given_at (given_at + address_words) l

abbrev pub give_routes : List ℕ → List ℕ → List ℕ
give_routes w l = with_part w (given_at + address_words) (given_at + address_words + route_words) l

-- a state w that breaks its rules is refused
unfoldable pub with_state : List ℕ → Result Unit Refusal → Result Unit Refusal
with_state w v = stop_if (not (sound_state (state_in w))) BrokenState v

-- too small an output of n bytes, a broken state, and then as the list
abbrev pub ready : ℕ → List ℕ → Result Unit Refusal → Result Unit Refusal
ready n w v = with_room n (with_state w v)

-- what writing a message answers, and what it leaves in the output and in the state w, which is `new` on success
pub record Gives (v : Result Unit Refusal) (message new w before : List ℕ) (r : Result ℕ Refusal) (left after : List ℕ) : Type 0 where
  pub writes : Writes v message before r after
  pub state : left ≡ kept v new w

-- ---- a list l in words

abbrev pub Assigns : List ℕ → List ℕ → List ℕ → Result ℕ Refusal → List ℕ → List ℕ → Type 0
Assigns w l before r left after =
    Gives (ready (length before) w (entries_verdict false l)) (capsule_bytes (assign (entries_of l))) (give_addresses w l) w before r left after

abbrev pub Advertises : List ℕ → List ℕ → List ℕ → Result ℕ Refusal → List ℕ → List ℕ → Type 0
Advertises w l before r left after =
    Gives (ready (length before) w (ranges_verdict l)) (capsule_bytes (advertise (ranges_of l))) (give_routes w l) w before r left after

-- the same where there is room and the state is sound: the list alone decides
abbrev pub GivesAddresses : List ℕ → List ℕ → List ℕ → Result ℕ Refusal → List ℕ → List ℕ → Type 0
GivesAddresses w l before r left after =
    Gives (entries_verdict false l) (capsule_bytes (assign (entries_of l))) (give_addresses w l) w before r left after

abbrev pub GivesRoutes : List ℕ → List ℕ → List ℕ → Result ℕ Refusal → List ℕ → List ℕ → Type 0
GivesRoutes w l before r left after = Gives (ranges_verdict l) (capsule_bytes (advertise (ranges_of l))) (give_routes w l) w before r left after

-- ---- bytes v as in the value of the capsule: what was read is always written

-- elements that were taken from the bytes
abbrev pub entries_taken : List ℕ → List AddressEntry
entries_taken v = elements_of (entries_in false v)

abbrev pub ranges_taken : List ℕ → List RouteRange
ranges_taken v = elements_of (ranges_in v)

abbrev pub AssignsValue : List ℕ → List ℕ → List ℕ → Result ℕ Refusal → List ℕ → List ℕ → Type 0
AssignsValue w v before r left after =
    Gives (ready (length before) w (parsed_verdict (entries_in false v))) (capsule_bytes (assign (entries_taken v)))
    (give_addresses w (pack_entries (entries_taken v))) w before r left after

abbrev pub AdvertisesValue : List ℕ → List ℕ → List ℕ → Result ℕ Refusal → List ℕ → List ℕ → Type 0
AdvertisesValue w v before r left after =
    Gives (ready (length before) w (parsed_verdict (ranges_in v))) (capsule_bytes (advertise (ranges_taken v)))
    (give_routes w (pack_ranges (ranges_taken v))) w before r left after

-- a request changes no list
abbrev pub RequestsValue : List ℕ → List ℕ → Result ℕ Refusal → List ℕ → Type 0
RequestsValue v before r after =
    Writes (with_room (length before) (parsed_verdict (entries_in true v))) (capsule_bytes (request (elements_of (entries_in true v)))) before r after
