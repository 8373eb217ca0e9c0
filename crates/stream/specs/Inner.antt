-- What the inner functions of a call promise.
use Rattle.std.specs.Prelude.{ℕ, ◌+◌, ◌-◌, ◌≤◌, ◌<◌, ◌^◌, ◌≡◌, Bool, true, false, ◌&&◌, List, [], ◌++◌, ltb, eqb, length, get_or, set, take, drop, Option, Some, None, Result, Ok, Err}
use Rattle.answer.specs.declared.Refusal.{Refusal}
use Rattle.answer.specs.Number.{number_of}
use Rattle.capsule.specs.declared.CapsuleRead.{CapsuleRead}
use Rattle.capsule.specs.declared.Head.{Head}
use Rattle.capsule.specs.declared.Kind.{Kind}
use Rattle.capsule.specs.Heads.{HeadRead}
use Rattle.capsule.specs.Capsules.{frame_read, frame_of}
use Rattle.state.specs.State.{store_at, state_words}
use Rattle.exchange.specs.Reading.{asked}
use Rattle.stream.specs.declared.feeding.Call.TheVariants.{Handed}
use Rattle.stream.specs.declared.feeding.Piece.{Piece}
use Rattle.stream.specs.Store.{Fed, sound_store, lacking, to_skip, waiting}
use Rattle.stream.specs.Feeding.{kept_size, store_in, datagram_bytes, on_out, state_fed, piece_of}

-- the front of an open capsule that is not skipped
abbrev pub is_open : List ℕ → Bool
is_open s = lacking (frame_of s) && eqb (to_skip s) 0

-- type and length of the kept bytes, where they fit the memory
abbrev pub KeptHead : List ℕ → List ℕ → Option Head → Type 0
KeptHead w held r = get_or w store_at 0 < kept_size → HeadRead (take (get_or w store_at 0) held) r

-- the store is judged, and one that keeps its rules leaves room
pub record Judged (w held : List ℕ) (r : Bool) : Type 0 where
  pub answer : r ≡ sound_store (store_in w held)
  pub within : r ≡ true → get_or w store_at 0 < kept_size

-- nothing is kept, skipped or remembered
abbrev pub is_empty : List ℕ → Bool
is_empty w = eqb (get_or w store_at 0) 0 && (eqb (get_or w (store_at + 1) 0) 0 && eqb (get_or w (store_at + 2) 0) 0)

-- a capsule of this head ends behind so many bytes, or with them, at a place that a word holds; of a head that is cut nothing is said
abbrev pub EndsBehind : Option Head → ℕ → Type 0
EndsBehind (Some h) count = (count ≤ h.start + h.length) × (h.start + h.length < 2 ^ 64)
EndsBehind None count = Unit {0}

-- a capsule of this head, of which `count` bytes are kept, does not end in so many more
abbrev pub stays_open : Option Head → ℕ → ℕ → Bool
stays_open (Some h) count given = ltb given (h.start + h.length - count)
stays_open None count given = false

-- the head of a DATAGRAM
abbrev pub is_datagram : Option Head → Bool
is_datagram (Some h) = eqb h.kind 0
is_datagram None = false

-- ---- answers
abbrev pub handing : Kind → ℕ → ℕ → Result Piece Refusal
handing kind size n = Ok (record { call = Handed kind size; taken = n })

-- ---- the store's words in the state w: nothing is kept or skipped, or a refusal is remembered
abbrev pub emptied : List ℕ → List ℕ
emptied w = set (set w store_at 0) (store_at + 1) 0

abbrev pub stopped_by : Refusal → List ℕ → List ℕ
stopped_by r w = set w (store_at + 2) (number_of r)

pub record Refuses (why : Refusal) (w : List ℕ) (r : Result Piece Refusal) (later : List ℕ) : Type 0 where
  pub answer : r ≡ Err why
  pub state : later ≡ stopped_by why w

pub record HandsOut (kind : Kind) (size n : ℕ) (w : List ℕ) (r : Result Piece Refusal) (later : List ℕ) : Type 0 where
  pub answer : r ≡ handing kind size n
  pub state : later ≡ emptied w

-- a list was read, of a capsule that ends after n of the bytes given
abbrev pub Settles : Result CapsuleRead Refusal → ℕ → List ℕ → Result Piece Refusal → List ℕ → Type 0
Settles (Ok c) n w r later = HandsOut c.kind 0 n w r later
Settles (Err why) n w r later = Refuses why w r later

-- ---- what a call answers and leaves

-- in the state w
pub record Moves (f : Fed) (w : List ℕ) (r : Result Piece Refusal) (later : List ℕ) : Type 0 where
  pub answer : r ≡ piece_of (Ok tt) f
  pub state : later ≡ state_fed w f

-- in the kept bytes
pub record Keeps (f : Fed) (w held : List ℕ) (r : Result Piece Refusal) (later holds : List ℕ) : Type 0 where
  pub moves : Moves f w r later
  pub bytes : holds ≡ f.store.kept ++ drop (length f.store.kept) held

-- in the list l for a request
pub record Lists (f : Fed) (w l : List ℕ) (r : Result Piece Refusal) (later list : List ℕ) : Type 0 where
  pub moves : Moves f w r later
  pub requested : list ≡ on_out (asked l) l f.said

-- in all that is lent
pub record Goes (f : Fed) (w held before l : List ℕ) (r : Result Piece Refusal) (later holds after list : List ℕ) : Type 0 where
  pub moves : Moves f w r later
  pub bytes : holds ≡ f.store.kept ++ drop (length f.store.kept) held
  pub output : after ≡ on_out datagram_bytes [] f.said ++ drop (length (on_out datagram_bytes [] f.said)) before
  pub requested : list ≡ on_out (asked l) l f.said

-- a DATAGRAM is handed out: the kept bytes' memory, and any list for a request, stay as they are
pub record HandsDatagram (f : Fed) (w held before : List ℕ) (r : Result Piece Refusal) (later after : List ℕ) : Type 0 where
  pub goes : (l : List ℕ) → Goes f w held before l r later held after l

-- all bytes t are kept behind the bytes s
abbrev pub keeps_all : List ℕ → List ℕ → Fed
keeps_all s t = record { said = waiting (s ++ t); taken = length t; store = record { kept = s ++ t; skip = 0; stopped = (Ok tt) } }

-- ---- what is required

-- the store's words where nothing is skipped and no refusal is remembered
pub record Live (w : List ℕ) : Type 0 where
  pub size : length w ≡ state_words
  pub skip : get_or w (store_at + 1) 0 ≡ 0
  pub stopped : get_or w (store_at + 2) 0 ≡ 0

-- and nothing is kept
pub record Fresh (w : List ℕ) : Type 0 where
  pub live : Live w
  pub none : get_or w store_at 0 ≡ 0

-- or the store keeps its rules: it collects the bytes of an open capsule
pub record Collecting (w held : List ℕ) : Type 0 where
  pub live : Live w
  pub sound : sound_store (store_in w held) ≡ true
  pub within : get_or w store_at 0 < kept_size
  pub room : length held ≡ kept_size

-- and the bytes t given end it, a DATAGRAM of this head
pub record EndsDatagram (w held t : List ℕ) (head : Option Head) : Type 0 where
  pub store : Collecting w held
  pub read : HeadRead (take (get_or w store_at 0) held) head
  pub datagram : is_datagram head ≡ true
  pub ends : stays_open head (get_or w store_at 0) (length t) ≡ false

-- the bytes are one capsule that holds a list
pub record OneList (s : List ℕ) : Type 0 where
  pub kind : ℕ
  pub start : ℕ
  pub count : ℕ
  pub frame : frame_of s ≡ Ok (frame_read kind start count)
  pub ends : start + count ≡ length s
  pub known : (0 < kind) × (kind ≤ 3)
