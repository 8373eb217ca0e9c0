-- By version. Assumes nothing.
use mathlib.Core.Path.{sym, ◌∙◌}
use native.Mathlib.Omega.{arith}
use Rattle.inet.proofs.HeaderLaws.{protocol_byte_4, protocol_byte_6, protocol_byte-other}
use Rattle.inet.proofs.packet.protocol_byte.Goals as goal

pub returns-in-4 : goal.returns-in-4
returns-in-4 c = c.byte_at.ensures ∙ sym (protocol_byte_4 _ (omega arith))

pub returns-in-6 : goal.returns-in-6
returns-in-6 c = c.byte_at-in-6.ensures ∙ sym (protocol_byte_6 _ (omega arith))

pub returns-in_default : goal.returns-in_default
returns-in_default c = sym (protocol_byte-other _ (λ e. grind arith) (λ e. grind arith))
