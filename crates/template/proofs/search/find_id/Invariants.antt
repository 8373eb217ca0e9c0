-- What is left to search gives the answer of the whole search. The table stays closed. Assumes nothing.
use Prim.Native.Nat.{◌-◌}
use mathlib.Core.Path.{◌≡◌}
use Rattle.table.specs.Words.{templates_of}
use Rattle.template.specs.Fits.{with_id}
use Rattle.table.proofs.InTurn.{templates_from}
use Rattle.template.proofs.search.find_id.Given as goal

abbrev pub invariant-loop-i : goal.invariant-loop-i
invariant-loop-i l =
    with_id l.id.0 (templates_of l.table) ≡ with_id l.id.0 (templates_from l.table l.i (l.count - l.i))
