-- The flag alone, or the flag and two numbers; a sound field and start have a form.
use native.Mathlib.Omega.{arith}
use Rattle.varint.proofs.Encoding.{length_encode}
use Rattle.output.proofs.Placing.{put_then, put_as}
use Rattle.plan_write.proofs.Parts.{sum-none, sum-some, length_sum, sum-place}
use Rattle.plan_write.proofs.template_file.put_checksum.Goals as goal

pub put_number-start-requires : goal.put_number-start-requires
put_number-start-requires c =
    let h = c.head in
    let f = sum-place c.args.t.words.now h.ensures c.args.t.usable c.in-Some.is in
    record { room = omega (arith, c.requires, length_encode c.in-Some.sum.field, length_sum c.args.t.words.now h.ensures c.in-Some.is, c.put_byte-field.ensures.place, c.put_byte-field.ensures.kept); value_lt_limit = omega (arith, f.high) }

pub put_number-requires : goal.put_number-requires
put_number-requires c =
    let h = c.head in
    let f = sum-place c.args.t.words.now h.ensures c.args.t.usable c.in-Some.is in
    record { room = omega (arith, c.requires, length_encode c.in-Some.sum.start, length_sum c.args.t.words.now h.ensures c.in-Some.is, c.put_byte-field.ensures.place, c.put_byte-field.ensures.kept, c.put_number-start.ensures.place, c.put_number-start.ensures.kept); value_lt_limit = omega (arith, f.high, f.order) }

pub returns-in-Some : goal.returns-in-Some
returns-in-Some c = put_as (sum-some c.args.t.words.now c.head.ensures c.in-Some.is) (put_then c.put_byte-field.ensures (put_then c.put_number-start.ensures c.put_number.ensures))

pub returns-in-None : goal.returns-in-None
returns-in-None c = put_as (sum-none c.args.t.words.now c.head.ensures c.in-None.is) c.put_byte.ensures
