-- Both sides, and then the table. A side is sound where the short test says so, or else where the whole one does. Assumes nothing.
use mathlib.Core.Path.{◌≡◌, sym, ◌∙◌}
use mathlib.Core.Bool.{◌&&◌}
use Rattle.policy.specs.Granted.{sound_side}
use Rattle.state.specs.State.{state_in}
use Rattle.state.proofs.StateLaws.{by-templates, broken-side}
use Rattle.state.proofs.state_sound.Goals as goal
use Rattle.state.proofs.state_sound.Goals.{Joined-short_sound, Joined-side_sound, then-short_sound, else-short_sound, then-side_sound+then-short_sound-2, then-side_sound+else-short_sound-2, else-side_sound}

received-judged : (c : Joined-short_sound) → c.if-short_sound.value ≡ sound_side (state_in c.args.state.now).received
received-judged c =
    elim c.if-short_sound.branch [
      | then-short_sound w ↦ w.value-is ∙ w.if-short_sound.true ∙ sym (c.short_sound.ensures w.if-short_sound.true)
      | else-short_sound w ↦ w.value-is ∙ w.side_sound.ensures
    ]

sides-judged : (c : Joined-side_sound) → c.if-side_sound.value ≡ (sound_side (state_in c.args.state.now).received && sound_side (state_in c.args.state.now).given)
sides-judged c =
    let r = received-judged (goal.at.Joined-side_sound c).Joined-short_sound in
    elim c.if-side_sound.branch [
      | then-side_sound+then-short_sound-2 w ↦
          w.value-is ∙ w.if-short_sound-2.true ∙ rw (sym r ∙ w.if-side_sound.true, w.short_sound-then-side_sound.ensures w.if-short_sound-2.true)
      | then-side_sound+else-short_sound-2 w ↦
          w.value-is ∙ w.side_sound-else-short_sound-2.ensures ∙ rw (sym r ∙ w.if-side_sound.true)
      | else-side_sound w ↦ w.value-is ∙ w.if-side_sound.false ∙ rw (sym r ∙ w.if-side_sound.false)
    ]

pub returns-then-side_sound-2 : goal.returns-then-side_sound-2
returns-then-side_sound-2 c =
    by-templates (state_in c.args.state.now) (sides-judged (goal.at.returns-then-side_sound-2 c).Joined-side_sound) c.if-side_sound-2.true c.table_sound.ensures

pub returns-else-side_sound-2 : goal.returns-else-side_sound-2
returns-else-side_sound-2 c =
    broken-side (state_in c.args.state.now) (sides-judged (goal.at.returns-else-side_sound-2 c).Joined-side_sound) c.if-side_sound-2.false
