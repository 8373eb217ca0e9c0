-- A table of no templates is sound (`none-sound`); of any other it is the verdict of `table_fault`, as a test. Assumes nothing.
use Rattle.std.proofs.Common.{ap, ◌∙◌}
use Rattle.table.specs.Rules.{goes, sound_templates}
use Rattle.table.proofs.TableFacts.{none-sound, goes_ok}
use Rattle.table.proofs.judge.table_sound.Goals as goal

pub returns-then-w-eq0 : goal.returns-then-w-eq0
returns-then-w-eq0 c = rw c.if-w-eq0.true (none-sound c.args.w.now c.if-w-eq0.true)

pub returns-else-w-eq0 : goal.returns-else-w-eq0
unfolding sound_templates
returns-else-w-eq0 c = c.is_ok.ensures.value ∙ goes_ok c.table_fault.result ∙ ap goes c.table_fault.ensures
