-- The digits of one word or of two, by the version.
use mathlib.Core.Path.{sym}
use Rattle.output.proofs.Placing.{put_as, put_then}
use Rattle.capsule_write.proofs.Lengths.{address4, address6}
use Rattle.capsule_write.proofs.element.put_address.Goals as goal

pub returns-then-e-eq4 : goal.returns-then-e-eq4
returns-then-e-eq4 c =
    put_as (sym (address4 c.args.e c.if-e-eq4.true)) c.put_digits.ensures

pub returns : goal.returns
returns c =
    put_as (sym (address6 c.args.e c.if-e-eq4.false)) (put_then c.put_digits-low.ensures c.put_digits-2.ensures)
