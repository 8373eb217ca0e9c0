-- The front is rebuilt in an array, and judged there with the bytes behind it. Assumes nothing.
use mathlib.Core.Path.{sym, ap}
use Rattle.template.specs.Datagrams.{packet}
use Rattle.tunnel.proofs.ReceivingSteps as Steps
use Rattle.tunnel.proofs.ReceivingOpening as Opening
use Rattle.tunnel.proofs.receiving.take_rebuilt.Goals as goal

pub slice_bounds-front-end : goal.slice_bounds-front-end
slice_bounds-front-end c =
    Opening.front-within c.args.t.words.now c.args.near.now c.args.far.now c.rebuild-n.ensures

pub slice_bounds-take_joined-end : goal.slice_bounds-take_joined-end
slice_bounds-take_joined-end c =
    sym (Opening.front_length c.args.t.words.now c.args.near.now c.args.far.now c.rebuild-n.ensures)

pub take_joined-requires : goal.take_joined-requires
take_joined-requires c =
    Opening.joinable c.args.t.words.now c.args.near.now c.args.far.now c.rebuild-n.ensures c.requires.1 c.requires.0

pub returns : goal.returns
returns c =
    Steps.takes_as _ (ap packet (sym c.rebuild-n.ensures.whole)) c.take_joined.ensures
