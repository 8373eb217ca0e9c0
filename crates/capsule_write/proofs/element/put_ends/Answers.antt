-- The digits of two words or of four, by the version.
use mathlib.Core.Path.{sym}
use Rattle.output.proofs.Placing.{put_as, put_then}
use Rattle.capsule_write.proofs.Lengths.{ends4, ends6}
use Rattle.capsule_write.proofs.element.put_ends.Goals as goal

pub returns-then-r-eq4 : goal.returns-then-r-eq4
returns-then-r-eq4 c =
    put_as (sym (ends4 c.args.r c.if-r-eq4.true)) (put_then c.put_digits-end.ensures c.put_digits.ensures)

pub returns : goal.returns
returns c =
    put_as (sym (ends6 c.args.r c.if-r-eq4.false))
    (put_then c.put_digits-a.ensures (put_then c.put_digits-b.ensures (put_then c.put_digits-c.ensures c.put_digits-2.ensures)))
