-- The bytes stand in their part of the output, by `put-part`.
use Rattle.std.proofs.Common.{◌≡◌, ◌+◌, ◌-◌, length, refl, arith}
use Rattle.output.proofs.Placing.{put-part}
use Rattle.output.proofs.put_bytes.Goals as goal

pub returns : goal.returns
returns c =
    let a = c.args in
    let e : a.at + length a.value.now - a.at ≡ length a.value.now = omega arith in
    rw (e, c.copy_from_slice.ensures.after) (put-part a.value.now a.at (length a.value.now) a.out.now refl c.requires refl)
