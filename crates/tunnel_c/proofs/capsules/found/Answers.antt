-- The place of the value is told of a DATAGRAM. Assumes nothing.
use Rattle.tunnel_c.proofs.PlainLaws.{datagram-plain, other-plain}
use Rattle.tunnel_c.proofs.capsules.found.Goals as goal

pub returns-in-Datagram : goal.returns-in-Datagram
returns-in-Datagram c = datagram-plain c.args.read c.in-Datagram.is c.number-kind.ensures

pub returns-in_default : goal.returns-in_default
returns-in_default c = other-plain c.args.read c.in_default.not-Datagram c.number-kind.ensures
