-- The invariant is `Shortening`; the tail goes behind what it leaves. Assumes nothing.
use Prim.Native.Nat.{◌<◌}
use mathlib.Core.Path.{ap}
use native.Mathlib.Omega.{arith}
use Rattle.table.specs.declared.Head.{Head}
use Rattle.table.specs.Words.{head_of}
use Rattle.template.proofs.Sizes.{segment_within}
use Rattle.template.proofs.Shortening.{shortening_none, next_up, next-inside, shortening_same, shortening_more, tail_room, shortening_done}
use Rattle.template.proofs.body.shorten.Goals as goal
use Rattle.template.proofs.body.shorten.Goals.{After-segment-s}

-- the segment at j is one of the template's
turn : (c : After-segment-s) → c.loop-j.j < (head_of c.args.t.words.now).count
turn c = omega (arith, ap (λ (h : Head). h.count) c.head-n.ensures, c.loop-j-test.true)

pub loop-j-init : goal.loop-j-init
loop-j-init c = shortening_none _ _ _ _ _ c.requires

pub segment-s-requires : goal.segment-s-requires
segment-s-requires c = omega (arith, ap (λ (h : Head). h.count) c.head-n.ensures, c.requires.usable.few)

pub copy_range-next-requires : goal.copy_range-next-requires
copy_range-next-requires c =
    let r = c.requires in
    let i = c.loop-j.invariant in
    let t = turn (goal.at.copy_range-next-requires c).After-segment-s in
    let up = next_up _ _ _ _ _ r i t c.segment-s.ensures in
    let inward = next-inside _ _ _ _ _ r i t c.segment-s.ensures in
    (up, omega (arith, inward), omega (arith, up, inward, i.behind, shortening_same _ _ _ _ _ r i, r.room))

pub overflow_add-pos : goal.overflow_add-pos
overflow_add-pos c = omega (arith, segment_within _ c.requires.usable _ (turn (goal.at.overflow_add-pos c).After-segment-s) c.segment-s.ensures)

pub loop-j-preserved : goal.loop-j-preserved
loop-j-preserved c =
    shortening_more _ _ _ _ _ c.requires c.loop-j.invariant (turn (goal.at.loop-j-preserved c).After-segment-s) c.segment-s.ensures c.copy_range-next.ensures

pub copy_range-end-requires : goal.copy_range-end-requires
copy_range-end-requires c =
    let r = c.requires in
    let i = c.loop-j.invariant in
    omega (arith, i.behind, i.inside, shortening_same _ _ _ _ _ r i, r.room)

pub put_bytes-requires : goal.put_bytes-requires
put_bytes-requires c =
    tail_room _ _ _ _ _ c.requires c.loop-j.invariant (omega (arith, ap (λ (h : Head). h.count) c.head-n.ensures, c.loop-j-test.false)) c.copy_range-end.ensures

pub returns : goal.returns
returns c =
    shortening_done _ _ _ _ _ c.requires c.loop-j.invariant (omega (arith, ap (λ (h : Head). h.count) c.head-n.ensures, c.loop-j-test.false)) c.copy_range-end.ensures c.put_bytes.ensures
