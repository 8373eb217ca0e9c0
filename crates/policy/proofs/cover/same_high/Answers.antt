-- By the word in which the lowest of the compared bits lies; past the 128th bit there is none. Assumes nothing.
use native.Mathlib.Omega.{arith}
use Rattle.policy.proofs.HighBits as High
use Rattle.policy.proofs.cover.same_high.Goals as goal

pub returns-then-a_hi-b_hi : goal.returns-then-a_hi-b_hi
returns-then-a_hi-b_hi c =
    let a = c.args in
    High.high-differ a.k a.a_hi a.a_lo a.b_hi a.b_lo (omega arith) (omega arith) (omega arith) c.if-a_hi-b_hi.true

pub returns-else-a_hi-b_hi : goal.returns-else-a_hi-b_hi
returns-else-a_hi-b_hi c =
    let a = c.args in
    High.high_same_low a.k a.a_hi a.a_lo a.b_hi a.b_lo (omega arith) c.if-a_hi-b_hi.false

pub returns-then-k-lt128 : goal.returns-then-k-lt128
returns-then-k-lt128 c =
    let a = c.args in
    High.high_same_high a.k a.a_hi a.a_lo a.b_hi a.b_lo (omega arith) (omega arith) (omega arith)

pub returns-else-k-lt128 : goal.returns-else-k-lt128
returns-else-k-lt128 c =
    let a = c.args in
    High.high_same_none a.k a.a_hi a.a_lo a.b_hi a.b_lo (omega arith) (omega arith) (omega arith) (omega arith) (omega arith)
