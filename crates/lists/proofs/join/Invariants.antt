-- The invariant: the entries before `next` are put together (`Joins`), and their low word is a word; each turn is `join_more`.
use Prim.Native.Nat.{◌^◌, ◌<◌}
use Rattle.lists.specs.Joined.{Joins}
use Rattle.lists.proofs.join.Given as goal

abbrev pub invariant-loop-next : goal.invariant-loop-next
invariant-loop-next l = (l.lo < 2 ^ 64) × Joins l.w l.i l.n (record { next = l.next; id = l.id; hi = l.hi; lo = l.lo })
