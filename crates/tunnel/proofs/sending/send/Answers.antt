-- A refusal leaves the output as it was; an `Ok` says all that writing the datagram asks for. Assumes nothing.
use Rattle.std.proofs.Common.{Ok}
use mathlib.Core.Path.{◌≡◌, sym, ◌∙◌}
use lib.ListN.{length}
use Rattle.answer.proofs.Passing.{passed_on}
use Rattle.state.specs.State.{state_in}
use Rattle.tunnel.specs.Tunnel.{send_verdict}
use Rattle.tunnel.proofs.SendingLaws.{SendGo, send_go}
use Rattle.tunnel.proofs.SendingSteps.{go_sendable, writes-stop, sends_go}
use borrow.Author.Rules.{rules}
use Rattle.tunnel.proofs.sending.send.Goals as goal
use Rattle.tunnel.proofs.sending.send.Goals.{In_ok-send_verdict}

went : (c : In_ok-send_verdict) → send_verdict (state_in c.args.state.now) c.args.packet.now (length c.args.out.now) ≡ Ok tt
went c = sym c.send_verdict.ensures ∙ c.in_ok-send_verdict.was

go : (c : In_ok-send_verdict) → SendGo (state_in c.args.state.now) c.args.packet.now (length c.args.out.now)
go c = send_go (state_in c.args.state.now) c.args.packet.now (length c.args.out.now) (went c)

pub put_sent-requires : goal.put_sent-requires
put_sent-requires c = record { table_words_in_bounds = search rules; sendable = go_sendable c.args.state.now (go (goal.at.put_sent-requires c).In_ok-send_verdict) }

pub returns-in_err-send_verdict : goal.returns-in_err-send_verdict
returns-in_err-send_verdict c =
    rw (passed_on _ _ c.from_residual.ensures.1) (record { writes = writes-stop (sym c.send_verdict.ensures ∙ c.in_err-send_verdict.was) })

pub returns : goal.returns
returns c =
    record { writes = sends_go c.args.state.now c.args.packet.now (went (goal.at.returns c).In_ok-send_verdict) c.put_sent.ensures }
