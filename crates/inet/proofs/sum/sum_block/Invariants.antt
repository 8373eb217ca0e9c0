-- Each half of `high` and of `low` is the sum of the bytes of one place, below 65536 since no more than 256 are added. The halves, weighed as their
-- bytes are in words, and the words still to come make the words of all. Assumes nothing.
use Prim.Native.Nat.{ℕ, ◌≤◌, ◌*◌, ◌+◌, ◌/◌, ◌%◌}
use mathlib.Core.Path.{◌≡◌}
use mathlib.Core.List.{List}
use lib.ListN.{take, drop}
use Rattle.inet.specs.Sum.{words}
use Rattle.inet.proofs.sum.sum_block.Given as goal

-- the sums of k bytes of each place
pub record Halves (t : List ℕ) (high low k : ℕ) : Type 0 where
  pub first : high % 65536 ≤ 255 * k
  pub second : low % 65536 ≤ 255 * k
  pub third : high / 65536 ≤ 255 * k
  pub fourth : low / 65536 ≤ 255 * k
  pub rest : (high % 65536 + high / 65536) * 256 + (low % 65536 + low / 65536) + words (drop (4 * k) t) ≡ words t

abbrev pub invariant-loop-k : goal.invariant-loop-k
invariant-loop-k l = (l.k ≤ l.quads) × Halves (take (4 * l.quads) l.s) l.high l.low l.k
