-- Past the end there is no capsule; else the frame at the place decides. It lies within the bytes, so that no sum of places wraps.
use Rattle.std.proofs.Common.{Ok}
use mathlib.Core.Path.{◌≡◌, sym, ◌∙◌}
use Prim.Native.Nat.{◌+◌, ◌≤◌}
use native.Mathlib.Omega.{arith}
use lib.ListN.{length, drop, length-drop}
use Rattle.answer.proofs.Passing.{passed_on}
use Rattle.octets.proofs.Parts as Parts
use Rattle.capsule.specs.Capsules.{frame_read, frame_of}
use Rattle.capsule.proofs.FrameCases as Frames
use Rattle.capsule.proofs.ValueCases as Cases
use Rattle.capsule.proofs.frame.Goals as goal
use Rattle.capsule.proofs.frame.Goals.{In_ok-read}

-- the frame that was read, and what it says
read-frame : (c : In_ok-read) → (
    let f = c.in_ok-read.read in
    frame_of (drop c.args.at c.args.bytes.now) ≡ Ok (frame_read f.kind f.start f.length)
    )
read-frame c =
    let q = sym c.frame_of.ensures ∙ c.in_ok-read.was in
    rw Parts.tail at q

-- it lies within the bytes, so that no sum of places wraps
there : (c : In_ok-read) → c.args.at + c.in_ok-read.read.start + c.in_ok-read.read.length ≤ length c.args.bytes.now
there c = omega (arith, (Frames.frame_facts _ _ _ _ (read-frame c)).there, length-drop c.args.at c.args.bytes.now)

pub returns-then-bytes-at : goal.returns-then-bytes-at
returns-then-bytes-at c = Cases.past_end _ _ c.if-bytes-at.true

pub overflow_add-place : goal.overflow_add-place
overflow_add-place c = omega (arith, there (goal.at.overflow_add-place c).In_ok-read)

pub overflow_add-result : goal.overflow_add-result
overflow_add-result c = omega (arith, there (goal.at.overflow_add-result c).In_ok-read)

pub returns : goal.returns
returns c = Cases.whole-frame _ _ _ _ _ _ (read-frame (goal.at.returns c).In_ok-read) c.kind_of.ensures

pub returns-in_err-read : goal.returns-in_err-read
returns-in_err-read c = rw (passed_on _ _ c.from_residual.ensures.1) (Cases.refused-frame _ _ _ (rw Parts.tail at (sym c.frame_of.ensures ∙ c.in_err-read.was)))
