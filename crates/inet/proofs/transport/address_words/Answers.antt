-- By version; a packet of good form that is not IPv4 has 40 bytes. Assumes nothing.
use mathlib.Core.Path.{sym, ap, ◌∙◌}
use native.Mathlib.Omega.{arith}
use Rattle.inet.specs.Sum.{fold}
use Rattle.inet.proofs.TransportLaws.{address_words_4, address_words_not_4}
use Rattle.inet.proofs.transport.address_words.Goals as goal

pub returns-then-version-eq4 : goal.returns-then-version-eq4
returns-then-version-eq4 c = (c.sum_quads.ensures.0 ∙ ap fold (sym (address_words_4 _ (omega arith))), c.sum_quads.ensures.1)

pub returns-else-version-eq4 : goal.returns-else-version-eq4
returns-else-version-eq4 c = (c.sum_quads-else-version-eq4.ensures.0 ∙ ap fold (sym (address_words_not_4 _ (λ e. omega arith))), c.sum_quads-else-version-eq4.ensures.1)
