-- What is held fits the input, and the memory keeps its rules.
use Prim.Native.Nat.{◌≤◌}
use Rattle.van_box.specs.Sizes.{input_room}
use Rattle.van_box.specs.Records.{memory}
use Rattle.van_box.specs.Passing.{Sound}
use Rattle.van_box.proofs.run.Given as goal

abbrev pub invariant-loop : goal.invariant-loop
invariant-loop g l = (l.now.held ≤ input_room) × (Sound (memory l.state l.kept))
