-- By version. Assumes nothing.
use native.Mathlib.Omega.{arith}
use Rattle.inet.proofs.HeaderLaws.{icmp_in_4, icmp_in_6, icmp_in-other}
use Rattle.inet.proofs.packet.is_icmp.Goals as goal

pub returns-in-4 : goal.returns-in-4
returns-in-4 c = icmp_in_4 _ _ (omega arith)

pub returns-in-6 : goal.returns-in-6
returns-in-6 c = icmp_in_6 _ _ (omega arith)

pub returns-in_default : goal.returns-in_default
returns-in_default c = icmp_in-other _ _ (λ e. grind arith) (λ e. grind arith)
