-- The invariant: what is left to put completes the value (`Putting`).
use native.Mathlib.Omega.{arith}
use Rattle.capsule_write.proofs.Values as Values
use Rattle.capsule_write.proofs.list.put.Goals as goal

pub loop-i-init : goal.loop-i-init
loop-i-init g c = Values.put-start _ _ _ _ _ _

pub put-next-requires : goal.put-next-requires
put-next-requires g c =
    let i = c.loop-i-test.true in
    record { sound = Values.sound-at _ _ _ _ c.requires.sound i c.stored-e.ensures; room = omega (arith, Values.put_room c.loop-i.invariant i c.requires.room) }

pub loop-i-preserved : goal.loop-i-preserved
loop-i-preserved g c =
    Values.put_next c.loop-i.invariant c.loop-i-test.true c.stored-e.ensures c.put-next.ensures.bytes c.put-next.ensures.bound

pub returns : goal.returns
returns g c = Values.put-end c.loop-i.invariant c.loop-i-test.false
