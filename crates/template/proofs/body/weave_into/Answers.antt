-- The invariant is `Weaving`. Assumes nothing.
use Prim.Native.Nat.{◌+◌, ◌≤◌, ◌<◌}
use mathlib.Core.Path.{ap}
use native.Mathlib.Omega.{arith}
use Rattle.table.specs.Limits.{static_limit}
use Rattle.table.specs.declared.Head.{Head}
use Rattle.table.specs.Words.{head_of}
use Rattle.template.proofs.Sizes.{segment_within}
use Rattle.template.proofs.Weaving.{Ready, weaving_none, weaving_ready, weaving_more, last-room, weaving_done}
use Rattle.template.proofs.body.weave_into.Goals as goal
use Rattle.template.proofs.body.weave_into.Goals.{After-segment-s}

-- what holds of the segment at j
turn : (c : After-segment-s) → c.loop-j.j < (head_of c.args.t.words.now).count
turn c = omega (arith, ap (λ (h : Head). h.count) c.head-n.ensures, c.loop-j-test.true)

ready : (c : After-segment-s) → Ready c.args.t.words.now c.args.body.now c.args.image.now c.requires c.loop-j.invariant c.segment-s.result
ready c =
    let t : c.loop-j.j < (head_of c.args.t.words.now).count = omega (arith, ap (λ (h : Head). h.count) c.head-n.ensures, c.loop-j-test.true) in
    weaving_ready _ _ _ c.requires c.loop-j.invariant t c.segment-s.ensures

within : (c : After-segment-s) → c.segment-s.result.offset + c.segment-s.result.length ≤ static_limit
within c =
    let t : c.loop-j.j < (head_of c.args.t.words.now).count = omega (arith, ap (λ (h : Head). h.count) c.head-n.ensures, c.loop-j-test.true) in
    segment_within _ c.requires.usable _ t c.segment-s.ensures

pub loop-j-init : goal.loop-j-init
loop-j-init c = weaving_none _ _ _ c.requires

pub segment-s-requires : goal.segment-s-requires
segment-s-requires c = omega (arith, ap (λ (h : Head). h.count) c.head-n.ensures, c.requires.usable.few)

pub overflow_add-end : goal.overflow_add-end
overflow_add-end c = omega (arith, within (goal.at.overflow_add-end c).After-segment-s)

pub overflow_sub-to : goal.overflow_sub-to
overflow_sub-to c = (ready (goal.at.overflow_sub-to c).After-segment-s).upward

pub overflow_add-to : goal.overflow_add-to
overflow_add-to c = omega (arith, (ready (goal.at.overflow_add-to c).After-segment-s).enough)

pub copy_range-requires : goal.copy_range-requires
copy_range-requires c = let g = ready (goal.at.copy_range-requires c).After-segment-s in omega (arith, g.upward, g.enough, g.room)

pub put_static-requires : goal.put_static-requires
put_static-requires c =
    let a = (goal.at.put_static-requires c).After-segment-s in
    (omega arith, within a, omega (arith, (ready a).room, c.copy_range.ensures.kept))

pub loop-j-preserved : goal.loop-j-preserved
loop-j-preserved c =
    weaving_more _ _ _ c.requires c.loop-j.invariant (turn (goal.at.loop-j-preserved c).After-segment-s) c.segment-s.ensures c.copy_range.ensures c.put_static.ensures

pub slice_bounds-put_bytes-count : goal.slice_bounds-put_bytes-count
slice_bounds-put_bytes-count c = c.loop-j.invariant.inside

pub slice_bounds-put_bytes-start : goal.slice_bounds-put_bytes-start
slice_bounds-put_bytes-start c = c.loop-j.invariant.inside

pub put_bytes-requires : goal.put_bytes-requires
put_bytes-requires c =
    last-room _ _ _ c.requires c.loop-j.invariant (omega (arith, ap (λ (h : Head). h.count) c.head-n.ensures, c.loop-j-test.false))

pub returns : goal.returns
returns c =
    weaving_done _ _ _ c.requires c.loop-j.invariant (omega (arith, ap (λ (h : Head). h.count) c.head-n.ensures, c.loop-j-test.false)) c.put_bytes.ensures
