-- What a plan file leaves in the state: its templates, nothing else changes, and a sound state stays sound. Assumes nothing.
use Rattle.std.proofs.Common.{Result}
use Prim.Native.Nat.{ℕ, zero, suc, ◌*◌, ◌≤◌}
use mathlib.Core.Bool.{true}
use mathlib.Core.Path.{◌≡◌, refl, ap, ◌∙◌}
use mathlib.Core.List.{List, [], ◌∷◌}
use native.Mathlib.Omega.{arith}
use lib.ListN.{length, replicate, length-append, length-replicate}
use Rattle.answer.specs.declared.Refusal.{Refusal}
use Rattle.octets.specs.Big.{Bytes}
use Rattle.table.specs.Limits.{max_templates}
use Rattle.table.specs.Templates.{Template}
use Rattle.table.specs.Words.{template_words, table_words, pack_template, templates_words, pack_table}
use Rattle.table.specs.File.{Step, stop, found, plan_in}
use Rattle.table.proofs.SoundCases.{TemplatesOk, AllOk, sound-ok}
use Rattle.table.proofs.Packed.{length_packed, read-sound, read_means}
use Rattle.state.specs.State.{sound_state, templates_loaded, state_words, state_in}
use Rattle.state.specs.Loading.{with_templates, LoadsPlan}
use Rattle.state.proofs.StateLaws.{sound_templates_loaded}
use Rattle.state.proofs.StoreLaws.{templates-put}

-- ---- the words of sound templates fill a table
length_words : (k previous : ℕ) (ts : List Template) → TemplatesOk previous ts → length ts ≤ k → length (templates_words k ts) ≡ k * template_words
length_words zero previous [] o h = refl
length_words zero previous (t ∷ ts) o h = absurd (omega arith)
length_words (suc k) previous [] o h =
    length-append (replicate template_words 0) (templates_words k [])
    ∙ omega (arith, length-replicate {A = ℕ} template_words 0, length_words k previous [] o (omega arith))
length_words (suc k) previous (t ∷ ts) o h =
    length-append (pack_template t) (templates_words k ts)
    ∙ omega (arith, length_packed previous t o.0, length_words k t.id ts o.1 (omega arith))

pub length_table : (ts : List Template) → AllOk ts → length (pack_table ts) ≡ table_words
unfolding pack_table
length_table ts o = ap suc (length_words max_templates 0 ts o.each o.few)

-- ---- a plan file
module _ (file w after : List ℕ) {r : Result Unit Refusal} (k : LoadsPlan file w r after) (b : Bytes file) (h : state_words ≤ length w) where
  pub file-loaded : (ts : List Template) (rest : List ℕ) → plan_in file ≡ found ts rest → state_in after ≡ templates_loaded (state_in w) ts
  file-loaded ts rest e =
      ap state_in (k.words ∙ ap (λ (x : Step (List Template)). with_templates x w) e)
      ∙ templates-put w (pack_table ts) h (length_table ts (sound-ok ts (read-sound file b e)))
      ∙ ap (templates_loaded (state_in w)) (read_means file b e)

  pub load_keeps_sound : sound_state (state_in w) ≡ true → sound_state (state_in after) ≡ true
  load_keeps_sound s = of (plan_in file) refl
    where
      of : (x : Step (List Template)) → plan_in file ≡ x → sound_state (state_in after) ≡ true
      of (stop why) e = ap (λ (v : List ℕ). sound_state (state_in v)) (k.words ∙ ap (λ (x : Step (List Template)). with_templates x w) e) ∙ s
      of (found ts rest) e = ap sound_state (file-loaded ts rest e) ∙ sound_templates_loaded (state_in w) s ts (read-sound file b e)
