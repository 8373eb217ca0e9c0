-- The sum so far and the words still to come make the words of all; a block is an even front of these (`words-cut`). Assumes nothing.
use Prim.Native.Nat.{◌≤◌, ◌*◌, ◌-◌, ◌+◌}
use mathlib.Core.Path.{◌≡◌}
use lib.ListN.{drop}
use Rattle.inet.specs.Sum.{words}
use Rattle.inet.proofs.sum.sum_words.Given as goal

abbrev pub invariant-loop-k : goal.invariant-loop-k
invariant-loop-k l = (l.k ≤ l.quads) × (l.sum ≤ 131070 * l.k) × (l.sum + words (drop (4 * l.k) l.s) ≡ words l.s)

abbrev pub decreases-loop-k : goal.decreases-loop-k
decreases-loop-k l = l.quads - l.k
