-- A range that does not hold the address admits nothing; of one that does, the protocol decides. Assumes nothing.
use mathlib.Core.Path.{◌∙◌}
use Rattle.lists.proofs.Calls.{called_true, called_false}
use Rattle.policy.proofs.AdmitLaws as Admit
use Rattle.policy.proofs.admit.admits.Goals as goal

pub returns-then-holds : goal.returns-then-holds
returns-then-holds c = Admit.admits_held _ _ _ _ (called_true c.holds.ensures c.if-holds.true) c.allows.ensures

pub returns-else-holds : goal.returns-else-holds
returns-else-holds c = c.if-holds.false ∙ Admit.admits-not_held _ _ _ _ (called_false c.holds.ensures c.if-holds.false)
