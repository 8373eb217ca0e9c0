-- `octets::put_digits` meets its contract. The digits still to be written, and then what was written, are the whole.
-- Assumes nothing.
use Prim.Native.Nat.{◌≤◌}
use mathlib.Core.Path.{◌≡◌}
use mathlib.Core.List.{◌++◌}
use lib.ListN.{length, drop}
use Rattle.octets.specs.Big.{digits}
use Rattle.octets.proofs.put_digits.Given as goal

abbrev pub invariant-loop-i : goal.invariant-loop-i
invariant-loop-i l =
    (l.i ≤ length l.out) × (length l.out ≡ length l.initial.out) × (digits l.i l.rest ++ drop l.i l.out ≡ digits l.n l.v ++ drop l.n l.initial.out)

abbrev pub decreases-loop-i : goal.decreases-loop-i
decreases-loop-i l = l.i
