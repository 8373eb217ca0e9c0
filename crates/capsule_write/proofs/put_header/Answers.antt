-- Two numbers one after the other, with room for a number of any form at each.
use native.Mathlib.Omega.{arith}
use Rattle.output.proofs.Placing.{put_then}
use Rattle.varint.proofs.Encoding.{size-bounds}
use Rattle.capsule_write.proofs.Lengths.{encode-most}
use Rattle.capsule_write.proofs.put_header.Goals as goal

pub put_number-length-requires : goal.put_number-length-requires
put_number-length-requires c = record { room = omega (arith, (size-bounds c.args.kind).1); value_lt_limit = omega arith }

pub put_number-requires : goal.put_number-requires
put_number-requires c =
    let a = c.args in
    record { room = omega (arith, encode-most a.kind, (size-bounds a.size).1); value_lt_limit = omega arith }

pub returns : goal.returns
returns c =
    put_then c.put_number-length.ensures c.put_number.ensures
