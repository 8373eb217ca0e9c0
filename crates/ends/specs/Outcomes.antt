-- What the demands say of an answer, of a capsule that was read, and of a packet that was sent or taken in.
use Rattle.std.specs.Prelude.{ℕ, ◌+◌, ◌≤◌, ◌≡◌, ◌⊎◌, Bool, true, ◌&&◌, List, [], ◌∷◌, ◌++◌, leb, length, take, drop, Result, Ok, Some}
use Rattle.answer.specs.declared.Refusal.{Refusal}
use Rattle.answer.specs.Number.{answer_number, answer_length}
use Rattle.varint.specs.Numbers.{read_number, encoded_size, number}
use Rattle.inet.specs.Packet.{form, hops_of, lowered}
use Rattle.capsule.specs.Capsules.{Capsule, capsule, read_capsule}
use Rattle.capsule.specs.Sound.{value_start}
use Rattle.table.specs.Templates.{Template}
use Rattle.octets.specs.Parts.{with_part}
use Rattle.state.specs.State.{State, sound_state, sending_granted, receiving_granted, store_at, state_words, state_in}
use Rattle.template.specs.Members.{In}
use Rattle.template.specs.Fits.{fits}
use Rattle.template.specs.Datagrams.{max_packet, short_form}
use Rattle.tunnel.specs.Answers.{receive_answer, receive_output, datagram_of}
use Rattle.tunnel_c.specs.declared.pieces.PlainPiece.{PlainPiece}

-- a refusal says a length of 0, and leaves the output as it was
abbrev pub Leaves : Result ℕ Refusal → List ℕ → List ℕ → Type 0
Leaves r before after = (answer_number r ≡ 0 → ⊥) → (answer_length r ≡ 0) × (after ≡ before)

-- a refusal of the stream in pieces, other than 1: it hands out and takes nothing, and alters no more than the word that remembers it
pub record PieceRefused (w held before l : List ℕ) (r : PlainPiece) (later holds after list : List ℕ) : Type 0 where
  pub handed : r.handed ≡ 0
  pub taken : r.taken ≡ 0
  pub state : (later ≡ w) ⊎ (later ≡ with_part w (store_at + 2) state_words (r.number ∷ []))
  pub bytes : holds ≡ held
  pub output : after ≡ before
  pub requested : list ≡ l

-- the n bytes that were written are read back as the capsule c, whatever follows them
abbrev pub ReadBack : Capsule → ℕ → List ℕ → List ℕ → Type 0
ReadBack c n after rest = read_capsule (take n after ++ rest) ≡ capsule c (value_start c) n

-- the encoded size of the capsule at the front of s: the bytes of its type, of its length, and as many as that says
pub record Consumed (s : List ℕ) (size : ℕ) : Type 0 where
  pub kind : ℕ
  pub count : ℕ
  pub kind-size : ℕ
  pub count-size : ℕ
  pub type : read_number s ≡ Some (number kind kind-size)
  pub length_read : read_number (drop kind-size s) ≡ Some (number count count-size)
  pub total : size ≡ kind-size + count-size + count

-- where the state w is sound, the later one is
abbrev pub StaysSound : List ℕ → List ℕ → Type 0
StaysSound w later = sound_state (state_in w) ≡ true → sound_state (state_in later) ≡ true

-- size, form, hop count and the grants in force allow a packet to be sent; form and grants allow one to be taken in
abbrev pub allowed_out : State → List ℕ → Bool
allowed_out s p = leb (length p) max_packet && (form p && (leb 2 (hops_of p) && sending_granted s p))

abbrev pub allowed_in : State → List ℕ → Bool
allowed_in s q = form q && receiving_granted s q

-- the packet p goes short by a template in force: it fits the packet as sending leaves it, no template that fits has a lower Context ID, and the
-- datagram is its short form, which starts with that ID, not 0
pub record SentShort (s : State) (p out : List ℕ) : Type 0 where
  pub template : Template
  pub listed : In template s.templates
  pub fitting : fits template (lowered p) ≡ true
  pub lowest : (t : Template) → In t s.templates → fits t (lowered p) ≡ true → template.id ≤ t.id
  pub bytes : datagram_of s p out ≡ short_form template (lowered p)
  pub wire : read_number (datagram_of s p out) ≡ Some (number template.id (encoded_size template.id))
  pub not_zero : template.id ≡ 0 → ⊥

-- the datagram d is taken in as the packet q: its length is answered, and the output holds it and then what stood there
pub record TakesIn (s : State) (d into q : List ℕ) : Type 0 where
  pub answer : receive_answer s d into ≡ Ok (length q)
  pub output : receive_output s d into ≡ q ++ drop (length q) into

-- an IPv4 packet with the header checksum bb, both bytes the same
abbrev pub twin : ℕ → List ℕ
twin b =
    0x45 ∷ 0x00 ∷ 0x00 ∷ 0x14 ∷ 0x8e ∷ 0xa0 ∷ 0x00 ∷ 0x00 ∷ 0x40 ∷ 0x11 ∷ b ∷ b ∷ 0xc0 ∷ 0x00 ∷ 0x02 ∷ 0x03 ∷ 0xc6 ∷ 0x33 ∷ 0x64 ∷ 0x02 ∷ []

-- with 0000 and with FFFF it is of good form, and lowering makes both one
pub record Twins : Type 0 where
  pub first : form (twin 0x00) ≡ true
  pub second : form (twin 0xff) ≡ true
  pub differ : twin 0x00 ≡ twin 0xff → ⊥
  pub become_one : lowered (twin 0x00) ≡ lowered (twin 0xff)
