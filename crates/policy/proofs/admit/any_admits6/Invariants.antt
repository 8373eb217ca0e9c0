-- The invariant: what the ranges from i on say is the answer (`Seeking`), as in `any_admits4`; a range whose end is below the address is a miss,
-- by its high word (`skip-high`) or, where that is no more than the address's, by its low one (`skip-low`). Assumes nothing.
use Prim.Native.Nat.{◌≤◌}
use Rattle.octets.specs.Scan.{any_of}
use Rattle.lists.specs.Words.{max_ranges, range_at, ranges_of}
use Rattle.octets.proofs.Scans as Scans
use Rattle.policy.specs.Granted.{admits}
use Rattle.policy.proofs.admit.any_admits6.Given as goal

abbrev pub invariant-loop-i : goal.invariant-loop-i
invariant-loop-i l = (l.n ≤ max_ranges) × Scans.Seeking (admits l.a l.protocol l.icmp) (range_at l.w) l.n (any_of (admits l.a l.protocol l.icmp) (ranges_of l.w)) l.i
