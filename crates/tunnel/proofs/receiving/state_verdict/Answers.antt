-- The tests in the order of the table. Assumes nothing.
use Prim.Native.Nat.{◌≤◌}
use native.Mathlib.Omega.{arith}
use Rattle.tunnel.specs.Tunnel.{receive_room}
use Rattle.tunnel.proofs.ReceivingSteps as Steps
use Rattle.tunnel.proofs.receiving.state_verdict.Goals as goal
use Rattle.tunnel.proofs.receiving.state_verdict.Goals.{Else-room-lt-RECEIVE_ROOM}

roomy : (c : Else-room-lt-RECEIVE_ROOM) → receive_room ≤ c.args.room
roomy c = omega (arith, c.if-room-lt-RECEIVE_ROOM.false)

pub returns-then-room-lt-RECEIVE_ROOM : goal.returns-then-room-lt-RECEIVE_ROOM
returns-then-room-lt-RECEIVE_ROOM c = Steps.state-room _ c.args.room (omega (arith, c.if-room-lt-RECEIVE_ROOM.true))

pub returns-then-not-state_sound : goal.returns-then-not-state_sound
returns-then-not-state_sound c = Steps.state-broken _ _ (roomy (goal.at.returns-then-not-state_sound c).Else-room-lt-RECEIVE_ROOM) c.state_sound.ensures c.if-not-state_sound.true

pub returns : goal.returns
returns c = Steps.state-sound _ _ (roomy (goal.at.returns c).Else-room-lt-RECEIVE_ROOM) c.state_sound.ensures c.if-not-state_sound.false
