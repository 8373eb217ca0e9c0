-- By version; what is not IPv4 has 40 bytes. Assumes nothing.
use mathlib.Core.Path.{sym, ◌∙◌}
use native.Mathlib.Omega.{arith}
use Rattle.inet.proofs.HeaderLaws.{source_of_4, source_of_not_4}
use Rattle.inet.proofs.packet.source.Goals as goal

pub returns-then-version-eq4 : goal.returns-then-version-eq4
returns-then-version-eq4 c = c.address4.ensures ∙ sym (source_of_4 _ (omega arith))

pub returns-else-version-eq4 : goal.returns-else-version-eq4
returns-else-version-eq4 c = c.address6.ensures ∙ sym (source_of_not_4 _ (λ e. omega arith))
