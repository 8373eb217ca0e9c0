-- The four parts one after the other, by `put-template`.
use native.Mathlib.Omega.{arith}
use Rattle.varint.proofs.Encoding.{length_encode}
use Rattle.plan_write.proofs.Parts.{template-id, template-count, length_template, put-template}
use Rattle.plan_write.proofs.template_file.put_template.Goals as goal

pub put_number-count-requires : goal.put_number-count-requires
put_number-count-requires c =
    let h = c.head-head in
    record { room = omega (arith, c.requires, length_encode h.result.id.0, length_template c.args.t.words.now h.ensures); value_lt_limit = template-id c.args.t.words.now h.ensures c.args.t.usable }

pub put_count-first-requires : goal.put_count-first-requires
put_count-first-requires c =
    let h = c.head-head in
    let p = c.put_number-count.ensures in
    let l = length_template c.args.t.words.now h.ensures in
    (omega (arith, template-count c.args.t.words.now h.ensures c.args.t.usable), omega (arith, c.requires, p.place, p.kept, l))

pub put_segments-flag-requires : goal.put_segments-flag-requires
put_segments-flag-requires c =
    let h = c.head-head in
    let p = c.put_number-count.ensures in
    let q = c.put_count-first.ensures in
    omega (arith, c.requires, p.place, p.kept, q.place, q.kept, length_template c.args.t.words.now h.ensures)

pub put_checksum-requires : goal.put_checksum-requires
put_checksum-requires c =
    let h = c.head-head in
    let p = c.put_number-count.ensures in
    let q = c.put_count-first.ensures in
    let r = c.put_segments-flag.ensures in
    omega (arith, c.requires, p.place, p.kept, q.place, q.kept, r.place, r.kept, length_template c.args.t.words.now h.ensures)

pub returns : goal.returns
returns c = put-template c.args.t.words.now c.head-head.ensures c.put_number-count.ensures c.put_count-first.ensures c.put_segments-flag.ensures c.put_checksum.ensures
