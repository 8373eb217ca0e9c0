-- The verdict of the list decides: a list that goes is stored, and of a refused one nothing.
use mathlib.Core.Path.{sym, ap, ◌∙◌}
use Rattle.answer.proofs.Passing.{passed_on}
use Rattle.exchange.proofs.ReadCases as Read
use Rattle.exchange.proofs.reading.take_list.Goals as goal

pub returns : goal.returns
returns g c =
    let was = c.in_ok-read.was in
    Read.list-taken (sym c.read.ensures.verdict ∙ was) (c.receive.ensures ∙ ap (g.L.CarriedList.receive c.args.state.now) (c.read.ensures.list was))

pub returns-in_err-read : goal.returns-in_err-read
returns-in_err-read g c = rw (passed_on _ _ c.from_residual.ensures.1) (Read.list-refused (sym c.read.ensures.verdict ∙ c.in_err-read.was))
