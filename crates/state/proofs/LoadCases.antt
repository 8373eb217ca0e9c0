-- A plan file loaded, by the verdict on reading it. Assumes nothing.
use Rattle.std.proofs.Common.{Result, Ok, Err}
use Prim.Native.Nat.{ℕ}
use mathlib.Core.Path.{◌≡◌, refl, sym, ap, ◌∙◌}
use mathlib.Core.List.{List}
use native.Mathlib.Omega.{arith}
use Rattle.answer.specs.declared.Refusal.{Refusal}
use Rattle.octets.specs.Parts.{with_part}
use Rattle.table.specs.Templates.{Template}
use Rattle.table.specs.File.{Step, stop, found, plan_in}
use Rattle.table.specs.Load.{verdict_in, loaded, plan_read, Loads}
use Rattle.state.specs.State.{table_at, store_at}
use Rattle.state.specs.Loading.{with_templates, LoadsPlan}

module _ (file w : List ℕ) {before words : List ℕ} {r : Result Unit Refusal} (l : Loads file before r words) where
  read : r ≡ verdict_in (plan_in file)
  unfolding plan_read
  read = l.verdict

  taken : (x : Step (List Template)) → verdict_in x ≡ Ok tt → with_part w table_at store_at (loaded x before) ≡ with_templates x w
  taken (found ts s) e = refl
  taken (stop why) e = absurd (let z : ◌≡◌ {A = ℕ} 0 1 = cc in omega arith)

  left : {why : Refusal} (x : Step (List Template)) → verdict_in x ≡ Err why → w ≡ with_templates x w
  left (found ts s) e = absurd (let z : ◌≡◌ {A = ℕ} 0 1 = cc in omega arith)
  left (stop other) e = refl

  pub loads_go : {after : List ℕ} → r ≡ Ok tt → after ≡ with_part w table_at store_at words → LoadsPlan file w (Ok tt) after
  loads_go e f =
      record {
        verdict = sym e ∙ l.verdict;
        words = f ∙ ap (with_part w table_at store_at) l.words ∙ taken (plan_in file) (sym read ∙ e);
      }

  pub loads_stop : {why : Refusal} → r ≡ Err why → LoadsPlan file w (Err why) w
  loads_stop e = record { verdict = sym e ∙ l.verdict; words = left (plan_in file) (sym read ∙ e) }
