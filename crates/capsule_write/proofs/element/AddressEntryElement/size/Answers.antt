-- By the version, `entry_size4` or `entry_size6`.
use Rattle.lists.specs.Rules.{id_of}
use native.Mathlib.Omega.{arith}
use Rattle.varint.proofs.Encoding.{size-bounds}
use Rattle.capsule_write.proofs.Lengths.{entry_size4, entry_size6}
use Rattle.capsule_write.proofs.element.AddressEntryElement.size.Goals as goal

pub overflow_add-result : goal.overflow_add-result
overflow_add-result c =
    omega (arith, c.size-n.ensures, size-bounds (id_of c.args.self))

pub returns-then-self-eq4 : goal.returns-then-self-eq4
returns-then-self-eq4 c = entry_size4 _ c.size-n.ensures c.if-self-eq4.true

pub overflow_add-result-2 : goal.overflow_add-result-2
overflow_add-result-2 c =
    omega (arith, c.size-n.ensures, size-bounds (id_of c.args.self))

pub returns : goal.returns
returns c = entry_size6 _ c.size-n.ensures c.if-self-eq4.false
