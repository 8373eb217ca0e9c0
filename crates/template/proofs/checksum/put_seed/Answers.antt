-- With a checksum the field takes the number, and without one nothing changes; the field lies in the front. Assumes nothing.
use native.Mathlib.Omega.{arith}
use Rattle.template.proofs.Completing.{filled-plain, filled-sum, fillable_inside}
use Rattle.template.proofs.checksum.put_seed.Goals as goal

pub put_word-requires : goal.put_word-requires
put_word-requires c =
    let s = c.requires in
    (omega (arith, fillable_inside _ _ _ c.head.ensures s c.in-Some.is), omega (arith, s.small))

pub returns-in-Some : goal.returns-in-Some
returns-in-Some c = filled-sum _ _ _ c.head.ensures c.in-Some.is c.put_word.ensures

pub returns-in_default : goal.returns-in_default
returns-in_default c = filled-plain _ _ _ c.head.ensures c.in_default.is
