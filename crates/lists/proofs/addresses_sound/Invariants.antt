-- The invariant: what the entries from i on say is the answer (`Checking`); each turn judges the entries of one tag, by `joined_pass` or `joined_fail`.
use Prim.Native.Nat.{◌-◌}
use Rattle.lists.specs.Rules.{sound_entry}
use Rattle.lists.specs.Words.{entry_at, entries_of, sound_addresses}
use Rattle.octets.proofs.Scans as Scans
use Rattle.lists.proofs.addresses_sound.Given as goal

abbrev pub invariant-loop-i : goal.invariant-loop-i
invariant-loop-i l = Scans.Checking sound_entry (entry_at l.w) l.n (sound_addresses (entries_of l.w)) l.i

abbrev pub decreases-loop-i : goal.decreases-loop-i
decreases-loop-i l = l.n - l.i
