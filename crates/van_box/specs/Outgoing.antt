-- An answer on bytes, and the output in which answers wait.
use Rattle.std.specs.Prelude.{ℕ, ◌+◌, ◌≤◌, true, ◌⊎◌, ◌≡◌, List, [], ◌∷◌, ◌++◌, length, Result, Ok, Err}
use Rattle.answer.specs.declared.Refusal.{Refusal}
use Rattle.answer.specs.declared.Refusal.TheVariants.{Incomplete}
use Rattle.answer.specs.Number.{number_of, answer_number, answer_length}
use Rattle.octets.specs.Big.{digits}
use Rattle.output.specs.Places.{Put}
use Rattle.van_box.specs.declared.outgoing.Output.{Output}
use Rattle.van_box.specs.Sizes.{answer_head, record_room}

-- kind, number, and two bytes big-endian length
abbrev pub head_bytes : ℕ → ℕ → ℕ → List ℕ
head_bytes kind number size = kind ∷ number ∷ digits 2 size

-- the head and the message; a refusal has no bytes behind its head
abbrev pub answer_bytes : ℕ → Result Unit Refusal → List ℕ → List ℕ
answer_bytes kind (Ok _) m = head_bytes kind 0 (length m) ++ m
answer_bytes kind (Err r) m = head_bytes kind (number_of r) 0

-- the letter ?
abbrev pub unknown_kind : ℕ
unknown_kind = 63

-- to a record of no kind, and to one that is not all there
abbrev pub unknown_answer : List ℕ
unknown_answer = answer_bytes unknown_kind (Err Incomplete) []

-- ---- the output

-- m stands behind what waited in the output, every other byte is as it was, and the output is as open as before
pub record Appends (m : List ℕ) (o : Output) (before : List ℕ) (r : Output) (after : List ℕ) : Type 0 where
  pub put : Put m o.used before r.used after
  pub still : r.«open» ≡ o.«open»

-- the head of an answer stands in front of its bytes, which now wait too
pub record PutsHead (kind : ℕ) (a : Result ℕ Refusal) (o : Output) (before : List ℕ) (r : Output) (after : List ℕ) : Type 0 where
  pub head : Put (head_bytes kind (answer_number a) (answer_length a)) o.used before (o.used + answer_head) after
  pub used : r.used ≡ o.used + answer_head + answer_length a
  pub still : r.«open» ≡ o.«open»

-- what waited was written, or could not be
pub record Flushes (o : Output) (before : List ℕ) (r : Output) (after : List ℕ) : Type 0 where
  pub none : r.used ≡ 0
  pub still : r.«open» ≡ true → o.«open» ≡ true
  pub same : after ≡ before

-- there is room for the answers of a record: nothing waits, or what waited before
pub record MakesRoom (o : Output) (before : List ℕ) (r : Output) (after : List ℕ) : Type 0 where
  pub room : r.used + record_room ≤ length after
  pub waits : (r.used ≡ 0) ⊎ (r.used ≡ o.used)
  pub same : after ≡ before
