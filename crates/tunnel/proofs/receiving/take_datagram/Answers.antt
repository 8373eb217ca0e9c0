-- A Context ID that is all there is followed by the body: the packet itself, or what a template completes. Assumes nothing.
use Rattle.std.proofs.Common.{Some, None, ap}
use Rattle.std.specs.Result.{result_ok}
use Rattle.answer.proofs.Passing.{passed_on, lacking}
use mathlib.Core.Path.{◌≡◌, sym, ◌∙◌}
use Rattle.varint.specs.Numbers.{read_number}
use Rattle.varint.proofs.Reading.{taken}
use Rattle.template.proofs.OpenLaws.{opened-cut}
use Rattle.tunnel.proofs.ReceivingSteps as Steps
use Rattle.tunnel.proofs.ReceivingOpening as Opening
use Rattle.tunnel.proofs.receiving.take_datagram.Goals as goal
use Rattle.tunnel.proofs.receiving.take_datagram.Goals.{In_ok-id}

-- the Context ID is all there
whole : (c : In_ok-id)
    → read_number c.args.datagram.now ≡ Some c.in_ok-id.id
whole c = sym c.read.ensures.reading ∙ c.ok_or.ensures.ok_part ∙ ap result_ok c.in_ok-id.was

pub slice_bounds-body-count : goal.slice_bounds-body-count
slice_bounds-body-count c = (taken _ _ _ (whole c)).within

pub slice_bounds-body-start : goal.slice_bounds-body-start
slice_bounds-body-start c = (taken _ _ _ (whole c)).within

pub returns-in_err-id : goal.returns-in_err-id
returns-in_err-id c =
    let none = lacking _ _ _ c.in_err-id.ensures.value in
    let e : read_number c.args.datagram.now ≡ None = sym c.read.ensures.reading ∙ none.0 in
    rw (passed_on _ _ c.from_residual.ensures.1, none.1) (Steps.takes_refused _ (opened-cut _ _ e))

pub returns-then-id-eq0 : goal.returns-then-id-eq0
returns-then-id-eq0 c = Steps.takes_as _ (Opening.opened_zero _ _ _ _ (whole (goal.at.returns-then-id-eq0 c).In_ok-id) c.if-id-eq0.true) c.take_full.ensures

pub returns : goal.returns
returns c = Steps.takes_as _ (Opening.opened-other _ _ _ _ (whole (goal.at.returns c).In_ok-id) c.if-id-eq0.false) c.take_short.ensures
