-- The last segment's end is the end of the pieces: `last-end`. Assumes nothing.
use Prim.Native.Nat.{◌-◌}
use mathlib.Core.Path.{ap}
use native.Mathlib.Omega.{arith}
use Rattle.table.specs.declared.Head.{Head}
use Rattle.template.proofs.Sizes.{last-end, last_none, segment_within}
use Rattle.template.proofs.body.last_end.Goals as goal

pub returns-then-n-eq0 : goal.returns-then-n-eq0
returns-then-n-eq0 c = last_none c.args.t.words.now (ap (λ (h : Head). h.count) c.head-n.ensures) c.if-n-eq0.true

pub segment-s-requires : goal.segment-s-requires
segment-s-requires c = omega (arith, ap (λ (h : Head). h.count) c.head-n.ensures, c.args.t.usable.few)

pub overflow_add-result : goal.overflow_add-result
overflow_add-result c =
    omega (arith, segment_within c.args.t.words.now c.args.t.usable (c.head-n.result.count - 1) (omega (arith, ap (λ (h : Head). h.count) c.head-n.ensures)) c.segment-s.ensures)

pub returns : goal.returns
returns c = last-end c.args.t.words.now (ap (λ (h : Head). h.count) c.head-n.ensures) (omega arith) c.segment-s.ensures
