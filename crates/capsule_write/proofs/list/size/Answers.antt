-- The invariant: what is left to count completes the size (`Sizing`).
use Rattle.capsule_write.proofs.Values as Values
use Rattle.capsule_write.proofs.list.size.Goals as goal

pub loop-i-init : goal.loop-i-init
loop-i-init g c = Values.size-start _ _ _ _

pub loop-i-preserved : goal.loop-i-preserved
loop-i-preserved g c =
    let s = c.size-size.ensures in
    Values.size-next c.loop-i.invariant c.loop-i-test.true c.stored-e.ensures s.0 s.1

pub returns : goal.returns
returns g c = Values.size-end c.loop-i.invariant c.loop-i-test.false
