-- `octets::put_digits` meets its contract. The digits still to be written, and then what was written, are the whole.
-- Assumes nothing.
use mathlib.Core.Path.{refl}
use native.Mathlib.Omega.{arith}
use lib.ListN.{length-set}
use Rattle.octets.proofs.DigitsLaws as Digits
use Rattle.octets.proofs.put_digits.Goals as goal

pub loop-i-init : goal.loop-i-init
loop-i-init c =
    (omega arith, refl, refl)

pub loop-i-preserved : goal.loop-i-preserved
loop-i-preserved c =
    let l = c.loop-i in (
      simp length-set (omega arith),
      simp length-set l.invariant.1,
      Digits.step l.i l.rest l.out _ (omega arith) (omega arith) l.invariant.2,
    )

pub shape_of-out : goal.shape_of-out
shape_of-out c =
    c.loop-i.invariant.1

pub returns : goal.returns
returns c =
    Digits.end c.loop-i.i c.loop-i.rest _ _ (omega arith) c.loop-i.invariant.2
