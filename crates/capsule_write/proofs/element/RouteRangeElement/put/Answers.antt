-- The three parts one after the other, by `put_range_lem`; the bounds of the parts leave room for each.
use native.Mathlib.Omega.{arith}
use Rattle.capsule_write.proofs.Lengths.{ends-most, put_range_lem}
use Rattle.capsule_write.proofs.element.RouteRangeElement.put.Goals as goal

pub put_byte-requires : goal.put_byte-requires
put_byte-requires c =
    omega (arith, ends-most c.args.self)

pub returns-clause-bytes : goal.returns-clause-bytes
returns-clause-bytes c =
    put_range_lem _ c.put_byte-ends.ensures c.put_ends-protocol.ensures c.put_byte.ensures

pub returns-clause-bound : goal.returns-clause-bound
returns-clause-bound c =
    omega (arith, ends-most c.args.self)
