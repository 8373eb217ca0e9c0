-- The invariant: what the entries from i on say is the answer (`Seeking`); each turn is `any_hit` or `any_miss`. Assumes nothing.
use mathlib.Core.Path.{sym, ◌∙◌}
use Rattle.octets.proofs.Scans as Scans
use Rattle.lists.proofs.ListScans as Lists
use Rattle.policy.specs.Granted.{covers}
use Rattle.policy.proofs.cover.any_covers.Goals as goal

pub loop-i-init : goal.loop-i-init
loop-i-init c =
    let a = c.args in
    Lists.any_entry a.w.now (covers a.a)

pub loop-i-preserved : goal.loop-i-preserved
loop-i-preserved c =
    Scans.any_miss c.loop-i.invariant c.loop-i-test.true c.entry_at-e.ensures (sym c.covers.ensures ∙ c.if-covers.false)
