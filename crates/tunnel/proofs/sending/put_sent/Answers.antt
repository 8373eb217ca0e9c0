-- Without templates the datagram is the full form. Assumes nothing.
use native.Mathlib.Omega.{arith}
use Rattle.inet.specs.Packet.{lowered}
use Rattle.tunnel.proofs.SendingSteps.{chosen_none, datagram-full}
use Rattle.tunnel.proofs.sending.put_sent.Goals as goal

pub returns-then-table-eq0 : goal.returns-then-table-eq0
returns-then-table-eq0 c =
    let a = c.args in
    datagram-full _ _ _ (chosen_none a.table.now (lowered a.packet.now) (omega (arith, c.if-table-eq0.true))) c.put_plain.ensures
