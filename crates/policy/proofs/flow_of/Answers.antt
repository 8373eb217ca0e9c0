-- Part by part, as the functions of `inet` ensure. Assumes nothing.
use Rattle.policy.proofs.PassLaws.{flow_parts}
use Rattle.policy.proofs.flow_of.Goals as goal

pub returns : goal.returns
returns c = flow_parts _ _ c.source-source.ensures c.destination-destination.ensures c.version-version.ensures.0 c.is_icmp-icmp.ensures
