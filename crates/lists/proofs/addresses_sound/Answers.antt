-- The invariant: what the entries from i on say is the answer (`Checking`); each turn judges the entries of one tag, by `joined_pass` or `joined_fail`.
use Rattle.lists.proofs.ListScans as List
use native.Mathlib.Omega.{arith}
use Rattle.lists.proofs.addresses_sound.Goals as goal

pub returns-then-count : goal.returns-then-count
returns-then-count c = List.check_entries-over c.args.w.now (omega arith)

pub loop-i-init : goal.loop-i-init
loop-i-init c = List.check_entries c.args.w.now (omega arith)
