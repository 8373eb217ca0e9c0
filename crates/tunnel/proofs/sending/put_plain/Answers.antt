-- A zero, and behind it the packet lowered in its place, are the full form: `put-plain`. Assumes nothing.
use native.Mathlib.Omega.{arith}
use lib.ListN.{length-set, length-take, length-drop}
use Rattle.inet.proofs.FormFacts.{form-headed}
use Rattle.tunnel.proofs.SendingSteps.{put-plain}
use Rattle.tunnel.proofs.sending.put_plain.Goals as goal

pub slice_bounds-lower_into-count : goal.slice_bounds-lower_into-count
slice_bounds-lower_into-count c = simp length-set (omega arith)

pub slice_bounds-lower_into-start : goal.slice_bounds-lower_into-start
slice_bounds-lower_into-start c = simp length-set (omega arith)

pub lower_into-requires : goal.lower_into-requires
lower_into-requires c =
    record { good = form-headed _ c.requires.0; hops = c.requires.1; room = simp (length-take, length-drop, length-set) (omega arith) }

-- NO GOAL
-- same_length : tie.Need-same-length
-- same_length c = let s = c.before.before.before.before.before.before in (put-plain s.args.packet.now s.args.out.now s.requires.2 c.before.before.lower-into.ensures).kept

pub returns : goal.returns
returns c = put-plain c.args.packet.now c.args.out.now c.requires.2 c.lower_into.ensures
