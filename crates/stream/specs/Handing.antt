-- A call whose capsule hands back what it holds at the front of the output: also the entries of a request, in shortest form.
use Rattle.std.specs.Prelude.{ℕ, ◌≡◌, true, List, [], ◌∷◌, ltb, length, Result, Ok, Err}
use Rattle.answer.specs.declared.Refusal.{Refusal}
use Rattle.answer.specs.declared.Refusal.TheVariants.{NoRoom}
use Rattle.answer.specs.Verdict.{◌⇒◌, first_of, output_of, kept}
use Rattle.capsule.specs.Elements.{written}
use Rattle.capsule.specs.Entries.{entry_format}
use Rattle.capsule.specs.Capsules.{Capsule, datagram, assign, request, advertise, unknown, kind_of, kind_numbered}
use Rattle.capsule_write.specs.Verdicts.{capsule_room}
use Rattle.stream.specs.declared.feeding.Call.{Call}
use Rattle.stream.specs.declared.feeding.Call.TheVariants.{Handed, Between, Wait}
use Rattle.stream.specs.declared.feeding.Piece.{Piece}
use Rattle.stream.specs.Store.{Said, out, clean, wait, no, Fed}
use Rattle.stream.specs.Feeding.{feed_tests, fed, on_out, state_fed, piece_with}

-- the value of a DATAGRAM, the entries of an ADDRESS_REQUEST in shortest form, and of the others nothing
abbrev pub contents : Capsule → List ℕ
contents (datagram v) = v
contents (assign es) = []
contents (request es) = written (entry_format true) es
contents (advertise rs) = []
contents unknown = []

-- a larger output is asked for
abbrev pub hand_verdict : List ℕ → List ℕ → ℕ → Result Unit Refusal
hand_verdict w held n = first_of ((ltb n capsule_room ⇒ NoRoom) ∷ feed_tests w held n)

abbrev pub handed_call : Said → Result Call Refusal
handed_call (out c) = Ok (Handed (kind_numbered (kind_of c)) (length (contents c)))
handed_call clean = Ok Between
handed_call wait = Ok Wait
handed_call (no r) = Err r

abbrev pub handed_piece : Result Unit Refusal → Fed → Result Piece Refusal
handed_piece (Ok _) f = piece_with f.taken (handed_call f.said)
handed_piece (Err r) f = Err r

-- what a call with the bytes t answers, and what it leaves in the state w, the kept bytes and the output
pub record HandsOn (w held t before : List ℕ) (r : Result Piece Refusal) (later holds after : List ℕ) : Type 0 where
  pub answer : r ≡ handed_piece (hand_verdict w held (length before)) (fed w held t)
  pub state : later ≡ kept (hand_verdict w held (length before)) (state_fed w (fed w held t)) w
  pub bytes : holds ≡ output_of (hand_verdict w held (length before)) (fed w held t).store.kept held
  pub output : after ≡ output_of (hand_verdict w held (length before)) (on_out contents [] (fed w held t).said) before
