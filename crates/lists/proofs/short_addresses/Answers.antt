-- A list of none, or of one. Assumes nothing.
use mathlib.Core.Path.{sym, ◌∙◌}
use Rattle.lists.proofs.ListScans as List
use Rattle.lists.proofs.short_addresses.Goals as goal

pub returns-in-0 : goal.returns-in-0
returns-in-0 c = λ e. List.entries_none c.args.w.now c.in-0.is

pub returns-in-1 : goal.returns-in-1
returns-in-1 c = λ e. List.entries-one c.args.w.now c.in-1.is c.entry_at.ensures (sym c.entry_sound.ensures ∙ e)
