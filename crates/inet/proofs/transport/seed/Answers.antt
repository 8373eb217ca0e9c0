-- The three parts of the pseudo-header, folded. Assumes nothing.
use mathlib.Core.Path.{refl, ◌∙◌}
use Rattle.inet.proofs.TransportLaws.{seed_steps}
use borrow.Author.Rules.{rules}
use Rattle.inet.proofs.transport.seed.Goals as goal

pub returns : goal.returns
returns c =
    let a = c.args in
    (c.folded.ensures.0 ∙ seed_steps a.start a.packet.now _ _ _ c.address_words-addresses.ensures.0 c.protocol_byte-protocol.ensures refl, search rules)
