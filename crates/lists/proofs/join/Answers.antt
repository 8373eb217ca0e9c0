-- The invariant: the entries before `next` are put together (`Joins`), and their low word is a word; each turn is `join_more`.
use Prim.Native.Nat.{◌+◌, ◌*◌, ◌^◌, ◌<◌}
use native.Mathlib.Omega.{arith}
use lib.Bits.{or_lt}
use Rattle.lists.specs.Words.{words_per_entry, word}
use Rattle.lists.proofs.Joining as Joining
use Rattle.lists.proofs.join.Goals as goal

pub loop-next-init : goal.loop-next-init
loop-next-init c =
    let a = c.args in
    (omega (arith, c.type_inv.w (a.i * 4 + 4)), Joining.join_start a.w.now a.i a.n (omega arith))

pub loop-next-preserved : goal.loop-next-preserved
loop-next-preserved c =
    let a = c.args in
    let l = c.loop-next in
    let q : word words_per_entry a.w.now l.next 4 < 2 ^ 64 = omega (arith, c.type_inv.w (l.next * 4 + 4)) in (
      or_lt 64 l.lo (word words_per_entry a.w.now l.next 4) l.invariant.0 q,
      Joining.join_more a.w.now a.i a.n l.invariant.1 c.loop-next-test.true c.if-w-b.false l.invariant.0 q,
    )
