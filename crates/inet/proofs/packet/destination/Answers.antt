-- By version; what is not IPv4 has 40 bytes. Assumes nothing.
use mathlib.Core.Path.{sym, ◌∙◌}
use native.Mathlib.Omega.{arith}
use Rattle.inet.proofs.HeaderLaws.{destination_of_4, destination_of_not_4}
use Rattle.inet.proofs.packet.destination.Goals as goal

pub returns-then-version-eq4 : goal.returns-then-version-eq4
returns-then-version-eq4 c = c.address4.ensures ∙ sym (destination_of_4 _ (omega arith))

pub returns-else-version-eq4 : goal.returns-else-version-eq4
returns-else-version-eq4 c = c.address6.ensures ∙ sym (destination_of_not_4 _ (λ e. omega arith))
