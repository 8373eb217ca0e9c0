-- Granted by the side, or as a reply by the other one. Assumes nothing.
use mathlib.Core.Path.{sym, ◌∙◌}
use Rattle.policy.specs.Granted.{side_in}
use Rattle.policy.proofs.PassLaws.{passes-granted, passes_reply}
use Rattle.policy.proofs.passes.Goals as goal

pub returns-then-granted : goal.returns-then-granted
returns-then-granted c =
    let a = c.args in
    c.if-granted.true ∙ sym (passes-granted (side_in a.side.now) (side_in a.reply.now) a.f (sym c.granted.ensures ∙ c.if-granted.true))

pub returns-else-granted : goal.returns-else-granted
returns-else-granted c =
    let a = c.args in
    passes_reply (side_in a.side.now) (side_in a.reply.now) a.f (sym c.granted.ensures ∙ c.if-granted.false) c.granted-else-granted.ensures
