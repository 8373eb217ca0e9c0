-- The mask is 255 in both halves, and in each half an AND with it leaves the remainder modulo 256. Assumes nothing.
use Prim.Native.Nat.{ℕ, ◌+◌, ◌*◌, ◌/◌, ◌%◌}
use mathlib.Core.Path.{◌≡◌, ap, ◌∙◌}
use native.Mathlib.Omega.{arith}
use lib.Bits.{bit_and, and_block, and_mask}
use Rattle.inet.proofs.sum.even_bytes.Goals as goal

and-even : (w : ℕ) → bit_and w 16711935 ≡ w % 256 + 65536 * (w / 65536 % 256)
and-even w =
    let e : w ≡ w / 65536 * 65536 + w % 65536 = omega arith in
    let b : bit_and (w / 65536 * 65536 + w % 65536) 16711935 ≡ bit_and (w / 65536) 255 * 65536 + bit_and (w % 65536) 255 =
    and_block 16 (w / 65536) 255 (w % 65536) 255 (omega arith) (omega arith)
    in
    let h : bit_and (w / 65536) 255 ≡ w / 65536 % 256 = and_mask (w / 65536) 8 in
    let l : bit_and (w % 65536) 255 ≡ w % 65536 % 256 = and_mask (w % 65536) 8 in
    ap (λ (n : ℕ). bit_and n 16711935) e ∙ b ∙ rw (h, l) (omega arith)

pub returns : goal.returns
returns c = and-even _
