-- Calls one after the other, and the whole buffer read from place to place: what the host finds of each.
use Rattle.std.specs.Prelude.{ℕ, ◌+◌, ◌≤◌, ◌<◌, ◌≡◌, true, List, [], ◌∷◌, ◌++◌, ◌⊎◌, length, take, drop, Result, Ok, Err}
use Rattle.answer.specs.declared.Refusal.{Refusal}
use Rattle.answer.specs.Number.{number_of}
use Rattle.octets.specs.Big.{Bytes}
use Rattle.octets.specs.Parts.{with_part}
use Rattle.lists.specs.Words.{entries_of}
use Rattle.capsule.specs.declared.CapsuleRead.{CapsuleRead}
use Rattle.capsule.specs.declared.Kind.{Kind}
use Rattle.capsule.specs.declared.Kind.TheVariants.{Datagram, AddressAssign, AddressRequest, RouteAdvertisement, Other}
use Rattle.capsule.specs.Capsules.{Capsule, datagram, assign, request, advertise, unknown, capsule, max_value, read_capsule}
use Rattle.state.specs.State.{State, store_at, state_words, state_in, sound_state, addresses_received, routes_received}
use Rattle.exchange.specs.Reading.{ReadsCapsule}
use Rattle.stream.specs.declared.feeding.Call.{Call}
use Rattle.stream.specs.declared.feeding.Call.TheVariants.{Handed, Between, Wait}
use Rattle.stream.specs.declared.feeding.Piece.{Piece}
use Rattle.stream.specs.Store.{Store, empty, sound_stop, sound_store}
use Rattle.stream.specs.Feeding.{kept_size, store_in, call_by, taken_by, Feeds}
use Rattle.stream.specs.Buffer.{other}

-- ---- the lent memory of a tunnel: the words of its state, and the bytes for a capsule that is kept
pub record Lent (w held : List ℕ) : Type 0 where
  pub words : length w ≡ state_words
  pub memory : length held ≡ kept_size
  pub bytes : Bytes held

-- lists, templates and store keep their rules
pub record Ready (w held : List ℕ) : Type 0 where
  pub lent : Lent w held
  pub lists : sound_state (state_in w) ≡ true
  pub store : sound_store (store_in w held) ≡ true

-- ---- a capsule as the host finds it: by its kind, the bytes of its value, the list l of a request, and the state s afterwards
abbrev pub seen_as : Kind → List ℕ → List ℕ → State → Capsule
seen_as Datagram v l s = datagram v
seen_as AddressAssign v l s = assign s.received.addresses
seen_as AddressRequest v l s = request (entries_of l)
seen_as RouteAdvertisement v l s = advertise s.received.routes
seen_as Other v l s = unknown

-- what a call hands out: a DATAGRAM by its bytes at the front of the output
abbrev pub seen : Result Call Refusal → List ℕ → List ℕ → State → List Capsule
seen (Ok (Handed kind n)) out l s = seen_as kind (take n out) l s ∷ []
seen (Ok Between) out l s = []
seen (Ok Wait) out l s = []
seen (Err r) out l s = []

-- what capsules leave of the lists
abbrev pub lists_after : State → Capsule → State
lists_after s (datagram v) = s
lists_after s (assign es) = addresses_received s es
lists_after s (request es) = s
lists_after s (advertise rs) = routes_received s rs
lists_after s unknown = s

abbrev pub lists_after_all : State → List Capsule → State
lists_after_all s [] = s
lists_after_all s (c ∷ cs) = lists_after_all (lists_after s c) cs

-- ---- any calls with room: each is given what the last one left and then the next piece, which may be empty
pub data Calls : (w held left : List ℕ) (ps : List (List ℕ)) (handed : List Capsule) (later holds rest : List ℕ) → Type 0 where
  no_call : {w held left : List ℕ} → Calls w held left [] [] w held left
  call : {w held left p before l : List ℕ} {r : Result Piece Refusal} {mid now after list : List ℕ} {ps : List (List ℕ)} {handed : List Capsule} {later holds rest : List ℕ}
      → max_value ≤ length before → Feeds w held (left ++ p) before l r mid now after list
      → Calls mid now (drop (taken_by r) (left ++ p)) ps handed later holds rest
      → Calls w held left (p ∷ ps) (seen (call_by r) after list (state_in mid) ++ handed) later holds rest

-- all bytes were taken, or a refusal is remembered
abbrev pub Through : List ℕ → List ℕ → List ℕ → Type 0
Through later holds rest = (rest ≡ []) ⊎ ((store_in later holds).stopped ≡ Ok tt → ⊥)

-- calls that find a refusal hand out nothing and leave all
pub record Repeats (w held : List ℕ) (handed : List Capsule) (later holds : List ℕ) : Type 0 where
  pub none : handed ≡ []
  pub state : later ≡ w
  pub bytes : holds ≡ held

-- ---- the whole buffer: each capsule is read where the last one ended, up to the first refusal
pub data ReadsAll : (w s : List ℕ) (at : ℕ) (handed : List Capsule) (later : List ℕ) (refusal : Result Unit Refusal) → Type 0 where
  stops : {w s : List ℕ} {at : ℕ} {l : List ℕ} {after list : List ℕ} {why : Refusal}
      → ReadsCapsule w s at l (Err why) after list → ReadsAll w s at [] after (other why)
  reads : {w s : List ℕ} {at : ℕ} {l : List ℕ} {r : CapsuleRead} {after list : List ℕ} {handed : List Capsule} {later : List ℕ} {v : Result Unit Refusal}
      → ReadsCapsule w s at l (Ok r) after list → ReadsAll after s r.next handed later v
      → ReadsAll w s at (seen_as r.kind (take r.length (drop r.start s)) list (state_in after) ∷ handed) later v

-- ---- the same comes of the bytes: the capsules in order, the lists, and the first refusal other than 1
pub record SameAs (handed : List Capsule) (later holds : List ℕ) (read : List Capsule) (left : List ℕ) (v : Result Unit Refusal) : Type 0 where
  pub capsules : handed ≡ read
  pub lists : state_in later ≡ state_in left
  pub refusal : (store_in later holds).stopped ≡ v

-- ---- what goes with an answer

-- a capsule is open: some of its bytes are kept, or some are still to be skipped
abbrev pub Unfinished : Store → Type 0
Unfinished k = (0 < length k.kept) ⊎ (0 < k.skip)

-- the first n of the bytes t are the last ones of the open capsule
pub data EndsIn (k : Store) (t : List ℕ) (n : ℕ) : Type 0 where
  read_to_end : {c : Capsule} {start : ℕ} → read_capsule (k.kept ++ t) ≡ capsule c start (length k.kept + n) → EndsIn k t n
  skipped_to_end : 0 < n → k.skip ≡ n → EndsIn k t n

-- nothing that was lent is altered
pub record Untouched (w held before l later holds after list : List ℕ) : Type 0 where
  pub state : later ≡ w
  pub bytes : holds ≡ held
  pub output : after ≡ before
  pub requested : list ≡ l

-- a refusal that alters nothing
pub record LeavesAll (why : Refusal) (w held before l : List ℕ) (r : Result Piece Refusal) (later holds after list : List ℕ) : Type 0 where
  pub answer : r ≡ Err why
  pub untouched : Untouched w held before l later holds after list

-- a refusal that is remembered: the last word of the state is all that it alters
pub record Remembers (why : Refusal) (w held before l : List ℕ) (r : Result Piece Refusal) (later holds after list : List ℕ) : Type 0 where
  pub number : sound_stop (Err why) ≡ true
  pub answer : r ≡ Err why
  pub state : later ≡ with_part w (store_at + 2) state_words (number_of why ∷ [])
  pub stopped : (store_in later holds).stopped ≡ Err why
  pub bytes : holds ≡ held
  pub output : after ≡ before
  pub requested : list ≡ l

-- 0 with no capsule: no byte is given, and no capsule is open
pub record Rests (w held t before l : List ℕ) (r : Result Piece Refusal) (later holds after list : List ℕ) : Type 0 where
  pub answer : r ≡ Ok (record { call = Between; taken = 0 })
  pub none : t ≡ []
  pub store : store_in w held ≡ empty
  pub untouched : Untouched w held before l later holds after list

-- 1: all bytes are taken, a capsule is open, and but for the store nothing is altered
pub record Waits (w t before l : List ℕ) (r : Result Piece Refusal) (later holds after list : List ℕ) : Type 0 where
  pub answer : r ≡ Ok (record { call = Wait; taken = length t })
  pub unfinished : Unfinished (store_in later holds)
  pub lists : state_in later ≡ state_in w
  pub output : after ≡ before
  pub requested : list ≡ l
