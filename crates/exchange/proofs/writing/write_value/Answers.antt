-- The refusals before the bytes are looked at, a value that is refused, and a list that is written as it was read.
use mathlib.Core.Path.{sym, ap, ◌∙◌}
use Rattle.answer.proofs.Passing.{passed_on}
use Rattle.exchange.proofs.WriteCases as Write
use Rattle.exchange.proofs.writing.write_value.Goals as goal

pub give-requires : goal.give-requires
give-requires g c = Write.ready-room _ _ (sym c.ready.ensures ∙ c.in_ok-ready.was)

pub returns : goal.returns
returns g c =
    let l = g.L.CarriedList in
    let e = sym c.read.ensures.verdict ∙ c.in_ok-read.was in
    let q = c.read.ensures.list c.in_ok-read.was in
    let k = g.met.L.CarriedList.writes_value c.args.value.now e in
    Write.gives_as (ap l.verdict q ∙ k.0 ∙ sym (Write.ready-says _ _ _ (sym c.ready.ensures ∙ c.in_ok-ready.was) ∙ e))
    (ap l.message q ∙ k.1)
    (ap (l.give c.args.state.now) q)
    c.give.ensures

pub returns-in_err-read : goal.returns-in_err-read
returns-in_err-read g c =
    rw (passed_on _ _ c.from_residual-in_err-read.ensures.1)
    (Write.gives_stopped (Write.ready-says _ _ _ (sym c.ready.ensures ∙ c.in_ok-ready.was) ∙ sym c.read.ensures.verdict ∙ c.in_err-read.was))

pub returns-in_err-ready : goal.returns-in_err-ready
returns-in_err-ready g c = rw (passed_on _ _ c.from_residual.ensures.1) (Write.gives_stopped (Write.ready-stops _ _ _ (sym c.ready.ensures ∙ c.in_err-ready.was)))
