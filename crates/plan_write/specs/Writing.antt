-- What writing a plan file answers, and what it leaves in the output.
use Rattle.std.specs.Prelude.{ℕ, List, length, Result}
use Rattle.answer.specs.declared.Refusal.{Refusal}
use Rattle.answer.specs.Verdict.{Writes}
use Rattle.table.specs.Words.{templates_of}
use Rattle.table.specs.Rules.{plan_verdict}
use Rattle.table.specs.File.{plan_bytes}

-- the file of the templates that the words w of a table mean
abbrev pub WritesPlan : List ℕ → List ℕ → Result ℕ Refusal → List ℕ → Type 0
WritesPlan w before r after = Writes (plan_verdict (templates_of w) (length before)) (plan_bytes (templates_of w)) before r after
