-- What is left of the chain is all of it (`Walking`), and each header takes 8 bytes at least. Assumes nothing.
use mathlib.Core.List.{◌++◌}
use Prim.Native.Nat.{◌+◌, ◌-◌, ◌*◌, ◌≤◌}
use lib.ListN.{length}
use Rattle.chain.specs.Chain.{InFront}
use Rattle.chain.specs.Class.{number_of, Classes}
use Rattle.chain.proofs.ChainLaws.{Walking}
use Rattle.chain.proofs.walk.Given as goal

abbrev pub invariant-loop-step : goal.invariant-loop-step
invariant-loop-step l =
    (Classes l.classes × (40 + 4 * l.quads ≤ length l.front)) × (InFront l.front l.quads (number_of l.class) l.step × Walking (l.front ++ l.tail) l.first l.number (40 + 4 * l.quads) (number_of l.class))

abbrev pub decreases-loop-step : goal.decreases-loop-step
decreases-loop-step l = length l.front - l.quads

abbrev pub invariant-loop-classes : goal.invariant-loop-classes
invariant-loop-classes l = Classes l.classes × Walking (l.front ++ l.tail) l.first l.number l.at (number_of l.class)

abbrev pub decreases-loop-classes : goal.decreases-loop-classes
decreases-loop-classes l = l.end - l.at
