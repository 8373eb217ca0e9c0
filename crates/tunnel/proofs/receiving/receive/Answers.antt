-- The state is judged, and then what the datagram opens to. Assumes nothing.
use mathlib.Core.Path.{sym, ◌∙◌}
use lib.ListN.{length}
use Rattle.answer.proofs.Passing.{passed_on}
use Rattle.state.specs.State.{state_in}
use Rattle.tunnel.proofs.SendingSteps.{writes-stop}
use Rattle.tunnel.proofs.ReceivingLaws.{StateGo, state-go, receive_state}
use Rattle.tunnel.proofs.ReceivingSteps as Steps
use Rattle.tunnel.proofs.receiving.receive.Goals as goal
use Rattle.tunnel.proofs.receiving.receive.Goals.{In_ok-state_verdict}

-- the state is sound, and there is room
judged : (c : In_ok-state_verdict) → StateGo (state_in c.args.state.now) (length c.args.out.now)
judged c = state-go _ _ (sym c.state_verdict.ensures ∙ c.in_ok-state_verdict.was)

pub take_datagram-requires : goal.take_datagram-requires
take_datagram-requires c = let g = judged (goal.at.take_datagram-requires c).In_ok-state_verdict in record { sound = g.sound; room = g.room }

pub returns-in_err-state_verdict : goal.returns-in_err-state_verdict
returns-in_err-state_verdict c =
    rw (passed_on _ _ c.from_residual.ensures.1)
    (record { writes = writes-stop (receive_state _ _ _ (sym c.state_verdict.ensures ∙ c.in_err-state_verdict.was)) })

pub returns : goal.returns
returns c = Steps.receive_taken _ _ (judged (goal.at.returns c).In_ok-state_verdict) c.take_datagram.ensures
