-- The copy holds what is kept and given, so that reading it is reading those (`copy_taken`). Assumes nothing.
use native.Mathlib.Omega.{arith}
use mathlib.Core.Path.{sym}
use lib.Seq.{length-take-le}
use Rattle.stream.proofs.CodeLaws.{copy_size, copy_taken}
use Rattle.stream.proofs.feeding.take_cut.Goals as goal

pub gather-n-requires : goal.gather-n-requires
gather-n-requires c = c.requires

pub slice_bounds-space-end : goal.slice_bounds-space-end
slice_bounds-space-end c = let p = copy_size c.args.kept.now c.args.bytes.now c.gather-n.ensures c.requires in omega (arith, p)

pub slice_bounds-take_capsule-end : goal.slice_bounds-take_capsule-end
slice_bounds-take_capsule-end c = let p = copy_size c.args.kept.now c.args.bytes.now c.gather-n.ensures c.requires in sym (length-take-le _ _ (omega (arith, p, c.gather-n.ensures.kept)))

pub returns : goal.returns
returns c = copy_taken c.args.kept.now c.args.bytes.now c.gather-n.ensures c.take_capsule.ensures
