-- Answers without enums, as they cross to C: the number, and the values beside it.
use Rattle.std.specs.Prelude.{ℕ, ◌*◌, ◌≡◌, List, eqb, length, Result, Ok, Err, Option, Some, None}
use Rattle.answer.specs.declared.Refusal.{Refusal}
use Rattle.answer.specs.Choice.{pick}
use Rattle.answer.specs.Number.{number_of, answer_number, answer_length}
use Rattle.answer.specs.Verdict.{Writes}
use Rattle.varint.specs.Numbers.{encode, write_verdict}
use Rattle.varint.specs.declared.Number.{Number}
use Rattle.capsule.specs.declared.CapsuleRead.{CapsuleRead}
use Rattle.capsule.specs.Capsules.{kind_number}
use Rattle.state.specs.State.{state_words}
use Rattle.exchange.specs.Reading.{ReadsCapsule}
use Rattle.exchange.specs.Writing.{Assigns, Advertises}
use Rattle.stream.specs.declared.feeding.Call.{Call}
use Rattle.stream.specs.declared.feeding.Call.TheVariants.{Handed, Between, Wait}
use Rattle.stream.specs.declared.feeding.Piece.{Piece}
use Rattle.stream.specs.Feeding.{Feeds}
use Rattle.tunnel_c.specs.declared.PlainAnswer.{PlainAnswer}
use Rattle.tunnel_c.specs.declared.PlainNumber.{PlainNumber}
use Rattle.tunnel_c.specs.declared.capsules.PlainCapsule.{PlainCapsule}
use Rattle.tunnel_c.specs.declared.pieces.PlainPiece.{PlainPiece}

-- the bytes of the state, in words of 8
abbrev pub state_bytes : ℕ
state_bytes = 8 * state_words

abbrev pub plain_answer : Result ℕ Refusal → PlainAnswer
plain_answer a = record { number = answer_number a; length = answer_length a }

abbrev pub plain_number : Option Number → PlainNumber
plain_number (Some q) = record { number = 0; value = q.value; size = q.size }
plain_number None = record { number = 1; value = 0; size = 0 }

-- the place of the value is told of a DATAGRAM, and is 0 of every other kind
unfoldable pub found_capsule : CapsuleRead → PlainCapsule
found_capsule c =
    record {
      number = 0;
      kind = kind_number c.kind;
      start = pick (eqb (kind_number c.kind) 0) c.start 0;
      length = pick (eqb (kind_number c.kind) 0) c.length 0;
      next = c.next;
    }

-- of a reading at a place: a refusal leaves the place, and all else is 0
abbrev pub plain_capsule : ℕ → Result CapsuleRead Refusal → PlainCapsule
plain_capsule at (Ok c) = found_capsule c
plain_capsule at (Err r) = record { number = number_of r; kind = 0; start = 0; length = 0; next = at }

-- a capsule that was handed out; or none, and the number
abbrev pub not_handed : ℕ → ℕ → PlainPiece
not_handed number taken = record { number = number; handed = 0; kind = 0; length = 0; taken = taken }

abbrev pub plain_call : ℕ → Call → PlainPiece
plain_call taken (Handed kind size) = record { number = 0; handed = 1; kind = kind_number kind; length = size; taken = taken }
plain_call taken Between = not_handed 0 taken
plain_call taken Wait = not_handed 1 taken

-- a refusal takes nothing
abbrev pub plain_piece : Result Piece Refusal → PlainPiece
plain_piece (Ok p) = plain_call p.taken p.call
plain_piece (Err r) = not_handed (number_of r) 0

-- what crosses is the plain form of an answer of which P is promised
pub record Plainly {A B : Type 0} (plain : A → B) (P : A → Type 0) (r : B) : Type 0 where
  pub answer : A
  pub shown : r ≡ plain answer
  pub promised : P answer

abbrev pub NumberPlainly : ℕ → List ℕ → PlainAnswer → List ℕ → Type 0
NumberPlainly v before r after = Plainly plain_answer (λ a. Writes (write_verdict v (length before)) (encode v) before a after) r

-- the calls that leave something in the state
abbrev pub ReadsPlainly : List ℕ → List ℕ → ℕ → List ℕ → PlainCapsule → List ℕ → List ℕ → Type 0
ReadsPlainly w s at asked r after requested = Plainly (plain_capsule at) (λ c. ReadsCapsule w s at asked c after requested) r

abbrev pub AssignsPlainly : List ℕ → List ℕ → List ℕ → PlainAnswer → List ℕ → List ℕ → Type 0
AssignsPlainly w list before r after out = Plainly plain_answer (λ a. Assigns w list before a after out) r

abbrev pub AdvertisesPlainly : List ℕ → List ℕ → List ℕ → PlainAnswer → List ℕ → List ℕ → Type 0
AdvertisesPlainly w list before r after out = Plainly plain_answer (λ a. Advertises w list before a after out) r

abbrev pub FeedsPlainly : List ℕ → List ℕ → List ℕ → List ℕ → List ℕ → PlainPiece → List ℕ → List ℕ → List ℕ → List ℕ → Type 0
FeedsPlainly w held t before l r later holds after list = Plainly plain_piece (λ p. Feeds w held t before l p later holds after list) r
