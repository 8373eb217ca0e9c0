-- A body within the limit is the packet, and is judged where it lies. Assumes nothing.
use Prim.Native.Nat.{◌≤◌}
use lib.ListN.{length}
use native.Mathlib.Omega.{arith}
use Rattle.template.specs.Datagrams.{max_packet}
use Rattle.tunnel.proofs.ReceivingSteps as Steps
use Rattle.tunnel.proofs.ReceivingOpening as Opening
use Rattle.tunnel.proofs.receiving.take_full.Goals as goal
use Rattle.tunnel.proofs.receiving.take_full.Goals.{Else-body-gt-MAX_PACKET}

within : (c : Else-body-gt-MAX_PACKET) → length c.args.body.now ≤ max_packet
within c = omega (arith, c.if-body-gt-MAX_PACKET.false)

pub returns-then-body-gt-MAX_PACKET : goal.returns-then-body-gt-MAX_PACKET
returns-then-body-gt-MAX_PACKET c = Steps.takes_refused _ (Opening.over-limit c.args.body.now (omega (arith, c.if-body-gt-MAX_PACKET.true)))

pub take_in-requires : goal.take_in-requires
take_in-requires c =
    record { sound = c.requires.sound; room = omega (arith, within (goal.at.take_in-requires c).Else-body-gt-MAX_PACKET, c.requires.room) }

pub returns : goal.returns
returns c = Steps.takes_as _ (Opening.within-limit c.args.body.now (within (goal.at.returns c).Else-body-gt-MAX_PACKET)) c.take_in.ensures
