-- The invariant: what the ranges from i on say is the answer (`Seeking`); each turn is `any_hit` or `any_miss`. A range that the low words rule
-- out is a miss (`skip-past`, `skip-before`), since it is sound. Assumes nothing.
use mathlib.Core.Path.{refl, sym, ◌∙◌}
use native.Mathlib.Omega.{arith}
use Rattle.octets.proofs.Scans as Scans
use Rattle.lists.proofs.ListScans as Lists
use Rattle.policy.specs.Granted.{admits}
use Rattle.policy.proofs.AdmitLaws as Admit
use Rattle.policy.proofs.admit.any_admits4.Goals as goal
use Rattle.policy.proofs.admit.any_admits4.Goals.{then-lo-w+then-w-b+else-admits, else-lo-w, else-lo-w-via-then-lo-w+else-w-b, else-lo-w-via-else-lo-w}

pub loop-i-init : goal.loop-i-init
loop-i-init c =
    let a = c.args in
    (Lists.ranges-within a.w.now c.requires.routes_sound, Lists.any_range a.w.now (admits a.a a.protocol a.icmp))

pub loop-i-preserved : goal.loop-i-preserved
loop-i-preserved c =
    let i = c.loop-i.i in
    let v = c.loop-i.invariant in
    let h = c.loop-i-test.true in
    let a = c.args in (
      v.0,
      elim c.if-lo-w.branch [
        | then-lo-w+then-w-b+else-admits w ↦ Scans.any_miss v.1 h w.range_at-r.ensures (sym w.admits.ensures ∙ w.if-admits.false)
        | else-lo-w w ↦ elim w.else-lo-w.branch [
          | else-lo-w-via-then-lo-w+else-w-b u ↦ Scans.any_miss v.1 h refl (Admit.skip-before a.w.now c.requires.routes_sound i h a.a a.protocol a.icmp c.requires.version_4 (omega (arith, u.if-w-b.false)))
          | else-lo-w-via-else-lo-w u ↦ Scans.any_miss v.1 h refl (Admit.skip-past a.w.now c.requires.routes_sound i h a.a a.protocol a.icmp c.requires.version_4 (omega (arith, u.if-lo-w.false)))
        ]
      ],
    )
