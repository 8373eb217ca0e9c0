-- The part from the place on comes back with the digits at its front, by `put_back`.
use mathlib.Core.Path.{sym}
use Rattle.octets.proofs.BigLaws.{length_digits}
use Rattle.output.proofs.Placing.{put_back}
use Rattle.output.proofs.put_digits.Goals as goal

pub returns : goal.returns
returns c =
    let a = c.args in
    put_back _ a.at a.n a.out.now (sym (length_digits a.n a.v)) c.requires c.put_digits.ensures
