-- The word that stands in the field, of bytes (`field_is_field_of`). Assumes nothing.
use mathlib.Core.Path.{sym, ap, ◌∙◌}
use Prim.Native.Nat.{ℕ, ◌+◌}
use lib.Dec.{eqb}
use native.Mathlib.Omega.{arith}
use Rattle.inet.proofs.FieldLaws.{field_is_field_of}
use Rattle.inet.proofs.field.field_is.Goals as goal

pub returns : goal.returns
returns c =
    ap (λ (n : ℕ). eqb n c.args.v) c.word.ensures.0 ∙ sym (field_is_field_of c.args.field c.args.v c.args.packet.now (omega (arith, c.type_inv.packet (c.args.field + 1))))
