-- The refusals before the list is looked at, and then what the list says.
use mathlib.Core.Path.{refl, sym, ◌∙◌}
use Rattle.answer.proofs.Passing.{passed_on}
use Rattle.exchange.proofs.WriteCases as Write
use Rattle.exchange.proofs.writing.write_list.Goals as goal

pub give-requires : goal.give-requires
give-requires g c = Write.ready-room _ _ (sym c.ready.ensures ∙ c.in_ok-ready.was)

pub returns : goal.returns
returns g c = Write.gives_as (sym (Write.ready-says _ _ _ (sym c.ready.ensures ∙ c.in_ok-ready.was))) refl refl c.give.ensures

pub returns-in_err-ready : goal.returns-in_err-ready
returns-in_err-ready g c = rw (passed_on _ _ c.from_residual.ensures.1) (Write.gives_stopped (Write.ready-stops _ _ _ (sym c.ready.ensures ∙ c.in_err-ready.was)))
