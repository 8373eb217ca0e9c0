-- A call over the lent memory: the store in words and bytes, what is tested first, and what a call leaves.
use Rattle.std.specs.Prelude.{ℕ, ◌+◌, ◌≡◌, not, List, [], ◌∷◌, ltb, eqb, length, get_or, take, Result, Ok, Err}
use Rattle.answer.specs.declared.Refusal.{Refusal}
use Rattle.answer.specs.declared.Refusal.TheVariants.{Incomplete, TooLong, BadAddress, BadRange, RangesOutOfOrder, BadRequestId, TooMany, BrokenState, NoRoom}
use Rattle.answer.specs.Choice.{pick}
use Rattle.answer.specs.Number.{verdict_number}
use Rattle.answer.specs.Verdict.{Test, ◌⇒◌, first_of, output_of, kept}
use Rattle.octets.specs.Parts.{with_part}
use Rattle.capsule.specs.Capsules.{Capsule, datagram, assign, request, advertise, unknown, kind_of, kind_numbered, max_value}
use Rattle.capsule.specs.Heads.{head_size}
use Rattle.state.specs.State.{store_at, state_words, state_in, sound_state}
use Rattle.exchange.specs.Reading.{taken, asked}
use Rattle.stream.specs.declared.feeding.Call.{Call}
use Rattle.stream.specs.declared.feeding.Call.TheVariants.{Handed, Between, Wait}
use Rattle.stream.specs.declared.feeding.Piece.{Piece}
use Rattle.stream.specs.Store.{Store, Said, out, clean, wait, no, Fed, sound_store, feed_store}

-- the bytes of the lent memory for a capsule that is kept
abbrev pub kept_size : ℕ
kept_size = max_value + head_size

-- ---- the store in three words of the state, and the lent bytes

-- a number that is not remembered is read as 1, which breaks the rules
abbrev pub remembered_by : ℕ → Result Unit Refusal
remembered_by n =
    pick (eqb n 0) (Ok tt)
    (pick (eqb n 2) (Err TooLong)
    (pick (eqb n 3) (Err BadAddress)
    (pick (eqb n 4) (Err BadRange)
    (pick (eqb n 5) (Err RangesOutOfOrder) (pick (eqb n 6) (Err BadRequestId) (pick (eqb n 7) (Err TooMany) (Err Incomplete)))))))

abbrev pub store_in : List ℕ → List ℕ → Store
store_in w held =
    record {
      kept = take (get_or w store_at 0) held;
      skip = get_or w (store_at + 1) 0;
      stopped = remembered_by (get_or w (store_at + 2) 0);
    }

abbrev pub store_words_of : Store → List ℕ
store_words_of k = length k.kept ∷ k.skip ∷ verdict_number k.stopped ∷ []

-- ---- what is tested first: too small an output of n bytes, then the lists and templates, then the store
unfoldable pub feed_tests : List ℕ → List ℕ → ℕ → List Test
feed_tests w held n =
    (ltb n max_value ⇒ NoRoom) ∷ (not (sound_state (state_in w)) ⇒ BrokenState) ∷ (not (sound_store (store_in w held)) ⇒ BrokenState) ∷ []

abbrev pub feed_verdict : List ℕ → List ℕ → ℕ → Result Unit Refusal
feed_verdict w held n = first_of (feed_tests w held n)

-- ---- what a call leaves

-- the bytes t are given
abbrev pub fed : List ℕ → List ℕ → List ℕ → Fed
fed w held t = feed_store (store_in w held) t

-- the value of a DATAGRAM, which is handed out
abbrev pub datagram_bytes : Capsule → List ℕ
datagram_bytes (datagram v) = v
datagram_bytes (assign es) = []
datagram_bytes (request es) = []
datagram_bytes (advertise rs) = []
datagram_bytes unknown = []

-- of what is said about a capsule, or else nothing new
abbrev pub on_out : {A : Type 0} → (Capsule → A) → A → Said → A
on_out f a (out c) = f c
on_out f a clean = a
on_out f a wait = a
on_out f a (no r) = a

abbrev pub state_fed : List ℕ → Fed → List ℕ
state_fed w f = with_part (on_out (taken w) w f.said) store_at state_words (store_words_of f.store)

-- ---- what it answers
abbrev pub call_of : Said → Result Call Refusal
call_of (out c) = Ok (Handed (kind_numbered (kind_of c)) (length (datagram_bytes c)))
call_of clean = Ok Between
call_of wait = Ok Wait
call_of (no r) = Err r

-- and how many bytes were taken
abbrev pub piece_with : ℕ → Result Call Refusal → Result Piece Refusal
piece_with n (Ok c) = Ok (record { call = c; taken = n })
piece_with n (Err r) = Err r

abbrev pub piece_of : Result Unit Refusal → Fed → Result Piece Refusal
piece_of (Ok _) f = piece_with f.taken (call_of f.said)
piece_of (Err r) f = Err r

-- of an answer: what the call says, and how many bytes it took; a refusal takes none
abbrev pub call_by : Result Piece Refusal → Result Call Refusal
call_by (Ok p) = Ok p.call
call_by (Err r) = Err r

abbrev pub taken_by : Result Piece Refusal → ℕ
taken_by (Ok p) = p.taken
taken_by (Err r) = 0

-- what a call with the bytes t answers, and what it leaves in the state w, the kept bytes, the output and the list l for a request
pub record Feeds (w held t before l : List ℕ) (r : Result Piece Refusal) (later holds after list : List ℕ) : Type 0 where
  pub answer : r ≡ piece_of (feed_verdict w held (length before)) (fed w held t)
  pub state : later ≡ kept (feed_verdict w held (length before)) (state_fed w (fed w held t)) w
  pub bytes : holds ≡ output_of (feed_verdict w held (length before)) (fed w held t).store.kept held
  pub output : after ≡ output_of (feed_verdict w held (length before)) (on_out datagram_bytes [] (fed w held t).said) before
  pub requested : list ≡ kept (feed_verdict w held (length before)) (on_out (asked l) l (fed w held t).said) l
