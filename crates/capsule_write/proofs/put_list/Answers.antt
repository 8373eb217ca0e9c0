-- Header and elements one after the other, by `put-frame`; a list within its limit leaves room for both.
use native.Mathlib.Omega.{arith}
use Rattle.std.proofs.Math.Nat.{mul-le-mul_left}
use Rattle.capsule_write.proofs.Frames as Frames
use Rattle.capsule_write.proofs.put_list.Goals as goal

pub put-requires-clause-room : goal.put-requires-clause-room
put-requires-clause-room g c =
    let k = c.requires.kind_and_room in
    let fits = g.met.T.Element.fits in
    let most = mul-le-mul_left g.T.Element.most c.requires.count_le_limit in
    let h = Frames.header-most c.args.kind c.size-size.result k.0 (omega (arith, c.size-size.ensures.1, most, fits)) in
    omega (arith, h, most, fits, k.1)

pub returns : goal.returns
returns g c =
    Frames.put-frame c.args.kind c.size-size.ensures.0 c.put_header-start.ensures c.put.ensures
