-- `octets::low_zero_wide` meets its contract: below 64 the low word decides; from there on the low word is 0 and the high word decides.
-- Assumes nothing.
use Prim.Native.Nat.{◌-◌, ◌+◌}
use mathlib.Core.Path.{◌≡◌, ◌∙◌}
use native.Mathlib.Omega.{arith}
use Rattle.octets.proofs.Bits as Bits
use Rattle.octets.proofs.low_zero_wide.Goals as goal

pub returns-then-k-lt64 : goal.returns-then-k-lt64
returns-then-k-lt64 c =
    let a = c.args in
    c.low_zero.ensures ∙ Bits.low a.k a.hi a.lo (omega arith)

pub returns-then-lo-eq0 : goal.returns-then-lo-eq0
returns-then-lo-eq0 c =
    let a = c.args in
    let e : a.k ≡ a.k - 64 + 64 = omega arith in
    rw e (c.low_zero-then-lo-eq0.ensures ∙ Bits.high (a.k - 64) a.hi a.lo (omega arith))

pub returns : goal.returns
returns c =
    let a = c.args in
    let e : a.k ≡ a.k - 64 + 64 = omega arith in
    rw e (Bits.low_set (a.k - 64) a.hi a.lo (omega arith) c.if-lo-eq0.false)
