-- What reading a file answers, and what it leaves in the words of a table.
use Rattle.std.specs.Prelude.{ℕ, ◌≡◌, List, Result, Ok, Err}
use Rattle.answer.specs.declared.Refusal.{Refusal}
use Rattle.table.specs.Templates.{Template}
use Rattle.table.specs.Words.{pack_table}
use Rattle.table.specs.File.{Step, stop, found, plan_in}

abbrev pub verdict_in : {A : Type 0} → Step A → Result Unit Refusal
verdict_in (stop r) = Err r
verdict_in (found a s) = (Ok tt)

-- the words of the templates that were found; a refusal leaves the words
abbrev pub loaded : Step (List Template) → List ℕ → List ℕ
loaded (stop r) before = before
loaded (found ts s) before = pack_table ts

unfoldable pub plan_read : List ℕ → Result Unit Refusal
plan_read file = verdict_in (plan_in file)

pub record Loads (file before : List ℕ) (r : Result Unit Refusal) (after : List ℕ) : Type 0 where
  pub verdict : r ≡ plan_read file
  pub words : after ≡ loaded (plan_in file) before
