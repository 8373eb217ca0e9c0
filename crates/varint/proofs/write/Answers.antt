-- `varint::write` meets its contract: the two refusals first, and then the number put at the front. Assumes nothing.
use native.Mathlib.Omega.{arith}
use Rattle.varint.proofs.Encoding as Encoding
use Rattle.varint.proofs.Writing as Writing
use Rattle.varint.proofs.write.Goals as goal

pub returns-then-out-lt-ROOM : goal.returns-then-out-lt-ROOM
returns-then-out-lt-ROOM c = Writing.no_room _ _ (omega arith)

pub returns-then-value-ge-LIMIT : goal.returns-then-value-ge-LIMIT
returns-then-value-ge-LIMIT c = Writing.too_large _ _ (omega arith) (omega arith)

pub put_number-requires : goal.put_number-requires
put_number-requires c = record { room = omega (arith, Encoding.size-bounds c.args.value); value_lt_limit = omega arith }

pub returns : goal.returns
returns c = Writing.put _ _ (omega arith) (omega arith) c.put_number.ensures
