-- A verdict is the first of a table of tests that holds, or `Ok`. An entry point's answer and its output are made of its verdict.
use Rattle.std.specs.Prelude.{ℕ, ◌≡◌, Bool, true, false, List, [], ◌∷◌, ◌++◌, length, drop, Result, Ok, Err}
use Rattle.answer.specs.declared.Refusal.{Refusal}

-- a row of a table of refusals: a test, and the refusal where it holds
pub record Test : Type 0 where
  pub holds : Bool
  pub why : Refusal

infixl 20 ◌⇒◌
abbrev pub ◌⇒◌ : Bool → Refusal → Test
b ⇒ r = record { holds = b; why = r }

-- `Err` where the test holds, and else what follows
abbrev pub stop_if : Bool → Refusal → Result Unit Refusal → Result Unit Refusal
stop_if true r v = Err r
stop_if false r v = v

-- the first test that holds gives the refusal
abbrev pub first_of : List Test → Result Unit Refusal
first_of [] = Ok tt
first_of (t ∷ ts) = stop_if t.holds t.why (first_of ts)

-- n bytes were written, or the refusal
abbrev pub answer_of : Result Unit Refusal → ℕ → Result ℕ Refusal
answer_of (Ok _) n = Ok n
answer_of (Err r) n = Err r

-- what a lent output holds afterwards: the message and then what was there, or all that was there
abbrev pub output_of : Result Unit Refusal → List ℕ → List ℕ → List ℕ
output_of (Ok _) message out = message ++ drop (length message) out
output_of (Err r) message out = out

-- what a call leaves: the new value, or on a refusal the one before
abbrev pub kept : {A : Type 0} → Result Unit Refusal → A → A → A
kept (Ok _) new before = new
kept (Err r) new before = before

-- the first verdict that is no `Ok`
infixl 15 ◌then◌
abbrev pub ◌then◌ : Result Unit Refusal → Result Unit Refusal → Result Unit Refusal
(Ok _) then v = v
(Err r) then v = Err r

-- what an entry point that writes a message answers, and what it leaves in the output: a refusal alters no byte, success the first bytes only
pub record Writes (v : Result Unit Refusal) (message before : List ℕ) (r : Result ℕ Refusal) (after : List ℕ) : Type 0 where
  pub answer : r ≡ answer_of v (length message)
  pub output : after ≡ output_of v message before
