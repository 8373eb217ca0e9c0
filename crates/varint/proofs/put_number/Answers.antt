-- The form that the value's range gives is the shortest. Assumes nothing.
use mathlib.Core.Path.{sym}
use native.Mathlib.Omega.{arith}
use Rattle.output.proofs.Placing.{put_as}
use Rattle.varint.proofs.Encoding as Encoding
use Rattle.varint.proofs.put_number.Goals as goal

pub put_digits-requires : goal.put_digits-requires
put_digits-requires c = omega (arith, Encoding.size-one c.args.value (omega arith), c.requires.room)

pub returns-then-value-lt64 : goal.returns-then-value-lt64
returns-then-value-lt64 c = put_as (sym (Encoding.one c.args.value (omega arith))) c.put_digits.ensures

pub put_digits-requires-then-value-lt16384 : goal.put_digits-requires-then-value-lt16384
put_digits-requires-then-value-lt16384 c = omega (arith, Encoding.size-two c.args.value (omega arith) (omega arith), c.requires.room)

pub returns-then-value-lt16384 : goal.returns-then-value-lt16384
returns-then-value-lt16384 c = put_as (sym (Encoding.two c.args.value (omega arith) (omega arith))) c.put_digits-then-value-lt16384.ensures

pub put_digits-requires-then-value-lt1073741824 : goal.put_digits-requires-then-value-lt1073741824
put_digits-requires-then-value-lt1073741824 c = omega (arith, Encoding.size-four c.args.value (omega arith) (omega arith) (omega arith), c.requires.room)

pub returns-then-value-lt1073741824 : goal.returns-then-value-lt1073741824
returns-then-value-lt1073741824 c = put_as (sym (Encoding.four c.args.value (omega arith) (omega arith) (omega arith))) c.put_digits-then-value-lt1073741824.ensures

pub put_digits-requires-2 : goal.put_digits-requires-2
put_digits-requires-2 c = omega (arith, Encoding.size-eight c.args.value (omega arith) (omega arith) (omega arith), c.requires.room)

pub returns : goal.returns
returns c = put_as (sym (Encoding.eight c.args.value (omega arith) (omega arith) (omega arith))) c.put_digits-2.ensures
