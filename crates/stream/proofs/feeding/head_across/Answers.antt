-- The first bytes of both stand one after the other, and hold type and length where all bytes do. Assumes nothing.
use native.Mathlib.Omega.{arith}
use mathlib.Core.Path.{sym}
use lib.Seq.{length-take-le}
use Rattle.stream.proofs.CodeLaws.{front_fits, front-size, head-joined}
use Rattle.stream.proofs.feeding.head_across.Goals as goal

pub slice_bounds-gather-end : goal.slice_bounds-gather-end
slice_bounds-gather-end c = sym (length-take-le _ _ (omega (arith, c.min-more.ensures)))

pub gather-n-requires : goal.gather-n-requires
gather-n-requires c = let s = c.args in front_fits s.kept.now s.bytes.now _ (omega arith) c.min-more.ensures

pub slice_bounds-front-end : goal.slice_bounds-front-end
slice_bounds-front-end c = let s = c.args in let p = front-size s.kept.now s.bytes.now _ (omega arith) c.min-more.ensures c.gather-n.ensures in omega (arith, p)

pub slice_bounds-read_head-end : goal.slice_bounds-read_head-end
slice_bounds-read_head-end c = let s = c.args in let p = front-size s.kept.now s.bytes.now _ (omega arith) c.min-more.ensures c.gather-n.ensures in sym (length-take-le _ _ (omega (arith, p, c.gather-n.ensures.kept)))

pub returns : goal.returns
returns c = let s = c.args in head-joined s.kept.now s.bytes.now _ (omega arith) c.min-more.ensures _ (rw c.gather-n.ensures.front at c.read_head.ensures)
