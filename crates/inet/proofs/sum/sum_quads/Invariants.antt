-- The numbers so far and the words still to come fold to what all words fold to: the first word of four bytes counts 65536 times in their number, and
-- that folds as once (`fold-high`). Assumes nothing.
use Prim.Native.Nat.{◌≤◌, ◌*◌, ◌%◌, ◌+◌}
use mathlib.Core.Path.{◌≡◌}
use lib.ListN.{length}
use Rattle.std.specs.Slice.Iter.{chunks_exact_rest, chunks_exact_size}
use Rattle.inet.specs.Sum.{words, fold}
use Rattle.inet.proofs.sum.sum_quads.Given as goal

abbrev pub invariant-loop-quad : goal.invariant-loop-quad
invariant-loop-quad l =
    (chunks_exact_size l.quad-iterator ≡ 4) × (length (chunks_exact_rest l.quad-iterator) % 4 ≡ 0)
    × (l.acc + 4294967296 * length (chunks_exact_rest l.quad-iterator) ≤ 4294967296 * 60)
    × (fold (l.acc + words (chunks_exact_rest l.quad-iterator)) ≡ fold (words l.s))
