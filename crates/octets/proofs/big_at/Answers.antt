-- `octets::big_at` meets its contract: the bytes from at to at + n are n bytes. Assumes nothing.
use Prim.Native.Nat.{◌+◌, ◌-◌}
use mathlib.Core.Path.{◌≡◌}
use native.Mathlib.Omega.{arith}
use Rattle.octets.proofs.BigLaws as Big
use Rattle.octets.proofs.big_at.Goals as goal

pub big_from-requires : goal.big_from-requires
big_from-requires c =
    let a = c.args in
    let e : a.at + a.n - a.at ≡ a.n = omega arith in
    rw e (Big.from_zero a.n a.at a.s.now (omega arith))

pub returns : goal.returns
returns c =
    let a = c.args in
    let e : a.at + a.n - a.at ≡ a.n = omega arith in
    Big.part a.at a.n (a.at + a.n - a.at) _ a.s.now e (omega arith) c.big_from.ensures
