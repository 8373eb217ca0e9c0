-- A list of none, or of one. Assumes nothing.
use mathlib.Core.Path.{sym, ◌∙◌}
use Rattle.lists.proofs.ListScans as List
use Rattle.lists.proofs.short_routes.Goals as goal

pub returns-in-0 : goal.returns-in-0
returns-in-0 c = λ e. sym (List.judge-none c.args.w.now c.in-0.is)

pub returns-in-1 : goal.returns-in-1
returns-in-1 c =
    λ e. sym (List.judge-one c.args.w.now c.in-1.is c.range_at.ensures) ∙ sym c.range_sound.ensures ∙ e
