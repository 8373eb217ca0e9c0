-- The lines of a file, by the cases of its verdict. Assumes nothing.
use Rattle.std.proofs.Common.{Result, Ok, Err}
use Prim.Native.Nat.{ℕ}
use mathlib.Core.Bool.{true}
use mathlib.Core.Path.{◌≡◌, refl, sym, ap, ◌∙◌}
use mathlib.Core.List.{List}
use native.Mathlib.Omega.{arith}
use Rattle.answer.specs.declared.Refusal.{Refusal}
use Rattle.octets.specs.Big.{Bytes}
use Rattle.table.specs.Templates.{Template}
use Rattle.table.specs.Words.{pack_table, templates_of}
use Rattle.table.specs.Rules.{sound_templates}
use Rattle.table.specs.File.{Step, stop, found, plan_in}
use Rattle.table.specs.Load.{Loads, verdict_in, loaded, plan_read}
use Rattle.table.proofs.Packed.{read-sound, read_means}
use Rattle.plan_show.specs.Lines.{table_lines, refused_line, lines_of, plan_lines}

module _ (file : List ℕ) {before after : List ℕ} {v : Result Unit Refusal} (l : Loads file before v after) where
  -- the words of a plan that was read are sound, and their lines are those of the file
  pub record Shown : Type 0 where
    pub sound : sound_templates (templates_of after) ≡ true
    pub lines : table_lines (templates_of after) ≡ plan_lines file

  pub read-go : Bytes file → v ≡ Ok tt → Shown
  unfolding plan_read plan_lines
  read-go b g = go (plan_in file) refl (sym g ∙ l.verdict)
    where
      go : (p : Step (List Template)) → plan_in file ≡ p → (Ok tt) ≡ verdict_in p → Shown
      go (stop r) e h = let z : ◌≡◌ {A = ℕ} 0 1 = cc in absurd (omega arith)
      go (found ts s) e h =
          let w : after ≡ pack_table ts = l.words ∙ ap (λ (p : Step (List Template)). loaded p before) e in
          let m : templates_of after ≡ ts = ap templates_of w ∙ read_means file b e in
          record { sound = rw m (read-sound file b e); lines = ap table_lines m ∙ sym (ap lines_of e) }

  pub read-stop : {why : Refusal} → v ≡ Err why → refused_line why ≡ plan_lines file
  unfolding plan_read plan_lines
  read-stop {why} g = go (plan_in file) refl (sym g ∙ l.verdict)
    where
      go : (p : Step (List Template)) → plan_in file ≡ p → Err why ≡ verdict_in p → refused_line why ≡ lines_of (plan_in file)
      go (stop r) e h = let q : why ≡ r = cc in ap refused_line q ∙ sym (ap lines_of e)
      go (found ts s) e h = let z : ◌≡◌ {A = ℕ} 0 1 = cc in absurd (omega arith)
