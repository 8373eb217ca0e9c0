-- Each return is a case of the verdict; header and value one after the other are the capsule, and there is room for them.
use native.Mathlib.Omega.{arith}
use mathlib.Core.Path.{refl}
use lib.ListN.{length}
use Rattle.output.proofs.Placing.{put_as}
use Rattle.capsule_write.proofs.Frames as Frames
use Rattle.capsule_write.proofs.write_datagram.Goals as goal

pub returns-then-out-lt-CAPSULE_ROOM : goal.returns-then-out-lt-CAPSULE_ROOM
returns-then-out-lt-CAPSULE_ROOM c = Frames.refused (Frames.no_room _ _ (omega arith))

pub returns-then-value-gt-MAX_VALUE : goal.returns-then-value-gt-MAX_VALUE
returns-then-value-gt-MAX_VALUE c = Frames.refused (Frames.room_says _ _ (omega arith) refl (Frames.value-over _ (omega arith)))

pub put_bytes-end-requires : goal.put_bytes-end-requires
put_bytes-end-requires c =
    let h = Frames.header-most 0 (length c.args.value.now) (omega arith) (omega arith) in
    omega arith

pub returns : goal.returns
returns c =
    let v = c.args.value.now in
    Frames.wrote (Frames.room_says _ _ (omega arith) refl (Frames.value-goes _ (omega arith)))
    (put_as (Frames.datagram-frame v) (Frames.put-frame 0 refl c.put_header-start.ensures c.put_bytes-end.ensures))
