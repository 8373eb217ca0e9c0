-- What is answered and what is left to answer are all of it (`Streaming`); each turn but the last passes a capsule.
use Prim.Native.Nat.{◌-◌}
use lib.ListN.{length}
use Rattle.van_box.specs.Records.{memory}
use Rattle.van_box.proofs.Streaming.{Streaming}
use Rattle.van_box.proofs.answers.stream_record.Given as goal

abbrev pub invariant-loop-step : goal.invariant-loop-step
invariant-loop-step l =
    Streaming (memory l.initial.state l.initial.kept) l.bytes l.initial.waiting l.initial.out (memory l.state l.kept) l.out l.waiting l.at

abbrev pub decreases-loop-step : goal.decreases-loop-step
decreases-loop-step l = length l.bytes - l.at
