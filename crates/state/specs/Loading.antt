-- A plan file loaded into the state.
use Rattle.std.specs.Prelude.{ℕ, ◌≡◌, List, Result}
use Rattle.answer.specs.declared.Refusal.{Refusal}
use Rattle.octets.specs.Parts.{with_part}
use Rattle.table.specs.Templates.{Template}
use Rattle.table.specs.Words.{pack_table}
use Rattle.table.specs.File.{Step, stop, found, plan_in}
use Rattle.table.specs.Load.{plan_read}
use Rattle.state.specs.State.{table_at, store_at}

-- the templates that were found, in the words w of a state; a refusal leaves the words
abbrev pub with_templates : Step (List Template) → List ℕ → List ℕ
with_templates (stop r) w = w
with_templates (found ts s) w = with_part w table_at store_at (pack_table ts)

-- what loading answers, and what it leaves in the state: no other part is looked at, or touched
pub record LoadsPlan (file w : List ℕ) (r : Result Unit Refusal) (after : List ℕ) : Type 0 where
  pub verdict : r ≡ plan_read file
  pub words : after ≡ with_templates (plan_in file) w
