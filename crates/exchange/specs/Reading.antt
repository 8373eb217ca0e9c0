-- A capsule read against the state of a tunnel: a good list replaces the received one whole, and a request is handed back.
use Rattle.std.specs.Prelude.{ℕ, ◌+◌, ◌≡◌, true, false, List, drop, Result}
use Rattle.answer.specs.declared.Refusal.{Refusal}
use Rattle.answer.specs.declared.Refusal.TheVariants.{BrokenState}
use Rattle.answer.specs.Choice.{pick}
use Rattle.answer.specs.Verdict.{kept}
use Rattle.octets.specs.Parts.{with_part}
use Rattle.lists.specs.Words.{address_words, route_words, pack_entries, pack_ranges}
use Rattle.capsule.specs.declared.CapsuleRead.{CapsuleRead}
use Rattle.capsule.specs.declared.Kind.{Kind}
use Rattle.capsule.specs.declared.Kind.TheVariants.{Datagram, AddressAssign, AddressRequest, RouteAdvertisement, Other}
use Rattle.capsule.specs.Elements.{parsed_verdict, elements_of}
use Rattle.capsule.specs.Capsules.{Capsule, datagram, assign, request, advertise, unknown, entries_in, ranges_in, Reading, refused, capsule, read_capsule}
use Rattle.capsule.specs.Results.{result_at, value_verdict}
use Rattle.state.specs.State.{received_at, state_in, sound_state}

-- a received list stored in the words of a state
abbrev pub receive_addresses : List ℕ → List ℕ → List ℕ
receive_addresses w l = with_part w received_at (received_at + address_words) l

abbrev pub receive_routes : List ℕ → List ℕ → List ℕ
receive_routes w l = with_part w (received_at + address_words) (received_at + address_words + route_words) l

-- ---- what a reading leaves

-- of the state w
abbrev pub taken : List ℕ → Capsule → List ℕ
taken w (datagram v) = w
taken w (assign es) = receive_addresses w (pack_entries es)
taken w (request es) = w
taken w (advertise rs) = receive_routes w (pack_ranges rs)
taken w unknown = w

abbrev pub received : List ℕ → Reading → List ℕ
received w (refused r) = w
received w (capsule c start size) = taken w c

-- of a list l that is lent for a request
abbrev pub asked : List ℕ → Capsule → List ℕ
asked l (datagram v) = l
asked l (assign es) = l
asked l (request es) = pack_entries es
asked l (advertise rs) = l
asked l unknown = l

abbrev pub requested : List ℕ → Reading → List ℕ
requested l (refused r) = l
requested l (capsule c start size) = asked l c

-- ---- a capsule at a place of the bytes s: a state w that breaks its rules is refused before it is looked at
unfoldable pub reading_in : List ℕ → List ℕ → ℕ → Reading
reading_in w s at = pick (sound_state (state_in w)) (read_capsule (drop at s)) (refused BrokenState)

-- what reading answers, and what it leaves in the state w and in the list l
pub record ReadsCapsule (w s : List ℕ) (at : ℕ) (l : List ℕ) (r : Result CapsuleRead Refusal) (after list : List ℕ) : Type 0 where
  pub answer : r ≡ result_at at (reading_in w s at)
  pub state : after ≡ received w (reading_in w s at)
  pub requested : list ≡ requested l (reading_in w s at)

-- the same where the state is not looked at
pub record TakesCapsule (w s : List ℕ) (at : ℕ) (l : List ℕ) (r : Result CapsuleRead Refusal) (after list : List ℕ) : Type 0 where
  pub answer : r ≡ result_at at (read_capsule (drop at s))
  pub state : after ≡ received w (read_capsule (drop at s))
  pub requested : list ≡ requested l (read_capsule (drop at s))

-- ---- the value v of a capsule

-- its list decides: where it goes it is stored
pub record TakesList (u : Result Unit Refusal) (new before : List ℕ) (r : Result Unit Refusal) (after : List ℕ) : Type 0 where
  pub answer : r ≡ u
  pub stored : after ≡ kept u new before

abbrev pub TakesAssign : List ℕ → List ℕ → Result Unit Refusal → List ℕ → Type 0
TakesAssign w v r after =
    TakesList (parsed_verdict (entries_in false v)) (receive_addresses w (pack_entries (elements_of (entries_in false v)))) w r after

abbrev pub TakesRoutes : List ℕ → List ℕ → Result Unit Refusal → List ℕ → Type 0
TakesRoutes w v r after = TakesList (parsed_verdict (ranges_in v)) (receive_routes w (pack_ranges (elements_of (ranges_in v)))) w r after

abbrev pub TakesRequest : List ℕ → List ℕ → Result Unit Refusal → List ℕ → Type 0
TakesRequest l v r after = TakesList (parsed_verdict (entries_in true v)) (pack_entries (elements_of (entries_in true v))) l r after

-- by its kind
unfoldable pub received_value : Kind → List ℕ → List ℕ → List ℕ
received_value Datagram v w = w
received_value AddressAssign v w = kept (parsed_verdict (entries_in false v)) (receive_addresses w (pack_entries (elements_of (entries_in false v)))) w
received_value AddressRequest v w = w
received_value RouteAdvertisement v w = kept (parsed_verdict (ranges_in v)) (receive_routes w (pack_ranges (elements_of (ranges_in v)))) w
received_value Other v w = w

unfoldable pub requested_value : Kind → List ℕ → List ℕ → List ℕ
requested_value Datagram v l = l
requested_value AddressAssign v l = l
requested_value AddressRequest v l = kept (parsed_verdict (entries_in true v)) (pack_entries (elements_of (entries_in true v))) l
requested_value RouteAdvertisement v l = l
requested_value Other v l = l

pub record TakesValue (w : List ℕ) (kind : Kind) (v l : List ℕ) (r : Result Unit Refusal) (after list : List ℕ) : Type 0 where
  pub answer : r ≡ value_verdict kind v
  pub state : after ≡ received_value kind v w
  pub requested : list ≡ requested_value kind v l
