-- The records up to the place are answered, and the place grows by one with each turn (`Passing`); each leaves a sound memory sound.
use Rattle.van_box.specs.Records.{memory}
use Rattle.van_box.specs.Passing.{Sound, Passing}
use Prim.Native.Nat.{◌≤◌, ◌-◌}
use mathlib.Core.Path.{◌≡◌}
use lib.ListN.{length}
use Rattle.van_box.specs.Sizes.{record_room}
use Rattle.van_box.proofs.answer_records.Given as goal

abbrev pub invariant-loop-output : goal.invariant-loop-output
invariant-loop-output g l =
    (Passing (memory l.initial.state l.initial.kept) l.bytes l.output l.at (memory l.state l.kept) l.out)
    × (record_room ≤ length l.out)
    × (length l.out ≡ length l.initial.out)
    × (Sound (memory l.state l.kept))

abbrev pub decreases-loop-output : goal.decreases-loop-output
decreases-loop-output g l = length l.bytes - l.at
