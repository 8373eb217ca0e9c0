-- Two numbers and the static bytes, by `put_piece`.
use native.Mathlib.Omega.{arith}
use Rattle.varint.proofs.Encoding.{length_encode}
use Rattle.plan_write.proofs.Parts.{length_bytes, put_piece}
use Rattle.plan_write.proofs.template_file.put_segment.Goals as goal

pub put_number-length-requires-clause-room : goal.put_number-length-requires-clause-room
put_number-length-requires-clause-room c =
    omega (arith, c.requires.room, length_encode c.args.segment.offset, length_bytes c.args.t.words.now c.args.segment)

pub put_number-bytes-requires-clause-room : goal.put_number-bytes-requires-clause-room
put_number-bytes-requires-clause-room c =
    let p = c.put_number-length.ensures in
    let e = length_encode c.args.segment.offset in
    let f = length_encode c.args.segment.length in
    omega (arith, c.requires.room, p.place, p.kept, e, f, length_bytes c.args.t.words.now c.args.segment)

pub put_static-requires : goal.put_static-requires
put_static-requires c =
    let p = c.put_number-length.ensures in
    let q = c.put_number-bytes.ensures in
    (c.requires.segment_in_static, omega (arith, c.requires.room, p.place, p.kept, q.place, q.kept, length_bytes c.args.t.words.now c.args.segment))

pub returns : goal.returns
returns c =
    put_piece c.args.t.words.now c.args.segment c.put_number-length.ensures c.put_number-bytes.ensures c.put_static.ensures
