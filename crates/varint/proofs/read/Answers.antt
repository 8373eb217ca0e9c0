-- `varint::read` meets its contract: the first byte gives the form, and `big_from` the value of what is left of it and the bytes after it.
-- Assumes nothing.
use Prim.Native.Nat.{◌-◌, ◌/◌, ◌<◌, ◌≤◌}
use native.Mathlib.Omega.{arith}
use lib.Dec.{lit<}
use lib.ListN.{length, take, drop, get_or, length-take, length-drop}
use lib.Pow.{pow_pos}
use Rattle.octets.specs.Big.{Bytes}
use Rattle.octets.proofs.BigLaws as Big
use Rattle.varint.specs.Numbers.{limit}
use Rattle.varint.proofs.Reading as Reading
use Rattle.varint.proofs.read.Goals as goal

pub returns-then-bytes-eq0 : goal.returns-then-bytes-eq0
returns-then-bytes-eq0 c =
    let s = c.args.bytes.now in
    record { reading = Reading.cut s (omega (arith, pow_pos (get_or s 0 0 / 64))); below = lit< tt }

pub returns-then-bytes-size : goal.returns-then-bytes-size
returns-then-bytes-size c = record { reading = Reading.cut _ (omega arith); below = lit< tt }

pub big_from-value-requires : goal.big_from-value-requires
big_from-value-requires c =
    let s = c.args.bytes.now in
    let n = c.size_of_form-size.result in
    let l : length (take (n - 1) (drop 1 s)) ≤ 7 = simp (length-take, length-drop) (omega arith) in
    (omega arith, Big.room _ _ (omega arith) l)

pub returns : goal.returns
returns c =
    let s = c.args.bytes.now in
    let n = c.size_of_form-size.result in
    let bytes : Bytes s = λ i. omega (arith, c.type_inv.bytes i) in
    let b : Reading.value_of n s < limit = Reading.value-bound s n bytes (omega arith) in
    record {
      reading = Reading.whole _ _ _ c.size_of_form-size.ensures.0 (omega arith) c.big_from-value.ensures.0;
      below = omega (arith, c.big_from-value.ensures.0, b);
    }
