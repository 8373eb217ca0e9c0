-- The invariant: what the entries from i on say is the answer (`Seeking`); each turn is `any_hit` or `any_miss`. Assumes nothing.
use Rattle.octets.specs.Scan.{any_of}
use Rattle.lists.specs.Words.{entry_at, entries_of}
use Rattle.octets.proofs.Scans as Scans
use Rattle.policy.specs.Granted.{covers}
use Rattle.policy.proofs.cover.any_covers.Given as goal

abbrev pub invariant-loop-i : goal.invariant-loop-i
invariant-loop-i l = Scans.Seeking (covers l.a) (entry_at l.w) l.n (any_of (covers l.a) (entries_of l.w)) l.i
