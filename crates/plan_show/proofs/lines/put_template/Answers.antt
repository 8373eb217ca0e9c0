-- The four parts of the line one after the other, by `put_line`.
use Rattle.plan_show.proofs.Parts.{put_line, id-room, segments-room, static-room, sum_room_lem}
use Rattle.plan_show.proofs.lines.put_template.Goals as goal

pub put_decimal-segments-requires : goal.put_decimal-segments-requires
put_decimal-segments-requires c =
    let h = c.head-head in
    let z = c.static_size-size in
    id-room c.args.t.words.now h.ensures z.ensures.0 c.args.at c.args.out.now c.requires

pub put_labelled-bytes-requires : goal.put_labelled-bytes-requires
put_labelled-bytes-requires c =
    let h = c.head-head in
    let z = c.static_size-size in
    segments-room c.args.t.words.now h.ensures z.ensures.0 c.args.at c.args.out.now c.requires c.put_decimal-segments.ensures

pub put_labelled-checksum-requires : goal.put_labelled-checksum-requires
put_labelled-checksum-requires c =
    let h = c.head-head in
    let z = c.static_size-size in
    static-room c.args.t.words.now h.ensures z.ensures.0 c.args.at c.args.out.now c.requires c.put_decimal-segments.ensures c.put_labelled-bytes.ensures

pub put_checksum-requires : goal.put_checksum-requires
put_checksum-requires c =
    let h = c.head-head in
    let z = c.static_size-size in
    sum_room_lem c.args.t.words.now h.ensures z.ensures.0 c.args.at c.args.out.now c.requires c.put_decimal-segments.ensures c.put_labelled-bytes.ensures c.put_labelled-checksum.ensures

pub returns : goal.returns
returns c = put_line c.args.t.words.now c.head-head.ensures c.static_size-size.ensures.0 c.put_decimal-segments.ensures c.put_labelled-bytes.ensures c.put_labelled-checksum.ensures c.put_checksum.ensures
