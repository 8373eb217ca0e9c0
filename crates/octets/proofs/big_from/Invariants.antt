-- `octets::big_from` meets its contract. What is left to read gives the whole value, and the value read stays below a bound that grows by a byte a turn.
-- Assumes nothing.
use Prim.Native.Nat.{◌+◌, ◌-◌, ◌*◌, ◌^◌, ◌<◌}
use mathlib.Core.Path.{◌≡◌}
use lib.ListN.{length, drop}
use Rattle.octets.specs.Big.{big_from}
use Rattle.octets.proofs.big_from.Given as goal

abbrev pub invariant-loop-b : goal.invariant-loop-b
invariant-loop-b l = (big_from l.acc (drop l.b-index l.s) ≡ big_from l.start l.s) × (l.acc < 256 ^ (8 - length l.s + l.b-index)) × (l.acc < (l.start + 1) * 256 ^ l.b-index)
