-- The invariant: what the ranges from i on say is the answer (`Seeking`), as in `any_admits4`; a range whose end is below the address is a miss,
-- by its high word (`skip-high`) or, where that is no more than the address's, by its low one (`skip-low`). Assumes nothing.
use Prim.Native.Nat.{◌+◌, ◌*◌, ◌^◌, ◌<◌}
use mathlib.Core.Bool.{true≢false}
use mathlib.Core.Path.{refl, sym, ◌∙◌}
use native.Mathlib.Omega.{arith}
use borrow.Author.Tests.{lt-ltb, leb-false}
use lib.ListN.{get_or}
use Rattle.lists.specs.Words.{words_per_range}
use Rattle.octets.proofs.Scans as Scans
use Rattle.lists.proofs.ListScans as Lists
use Rattle.policy.specs.Granted.{admits}
use Rattle.policy.proofs.AdmitLaws as Admit
use Rattle.policy.proofs.admit.any_admits6.Goals as goal
use Rattle.policy.proofs.admit.any_admits6.Goals.{then-hi-end_hi+then-lo-w+else-admits, then-hi-end_hi-2, else-hi-end_hi-2, else-hi-end_hi, else-hi-end_hi-via-then-hi-end_hi+else-lo-w, else-hi-end_hi-via-else-hi-end_hi}

pub loop-i-init : goal.loop-i-init
loop-i-init c =
    let a = c.args in
    (Lists.ranges-within a.w.now c.requires.routes_sound, Lists.any_range a.w.now (admits a.a a.protocol a.icmp))

pub loop-i-preserved : goal.loop-i-preserved
loop-i-preserved c =
    let i = c.loop-i.i in
    let v = c.loop-i.invariant in
    let h = c.loop-i-test.true in
    let a = c.args in
    let f : get_or a.w.now (i * words_per_range + 5) 0 < 2 ^ 64 = omega (arith, c.type_inv.w (i * words_per_range + 5)) in (
      v.0,
      elim c.if-hi-end_hi.branch [
        | then-hi-end_hi+then-lo-w+else-admits w ↦ Scans.any_miss v.1 h w.range_at-range.ensures (sym w.admits.ensures ∙ w.if-admits.false)
        | else-hi-end_hi w ↦ elim w.else-hi-end_hi.branch [
          | else-hi-end_hi-via-then-hi-end_hi+else-lo-w u ↦ elim u.if-hi-end_hi-2.branch [
            | then-hi-end_hi-2 t ↦ absurd (true≢false (sym (lt-ltb _ _ t.if-hi-end_hi-2.true) ∙ sym t.value-is ∙ u.if-lo-w.false))
            | else-hi-end_hi-2 t ↦ Scans.any_miss v.1 h refl (Admit.skip-low a.w.now i a.a a.protocol a.icmp (omega (arith, t.if-hi-end_hi-2.false)) (leb-false _ _ (sym t.value-is ∙ u.if-lo-w.false)))
          ]
          | else-hi-end_hi-via-else-hi-end_hi u ↦ Scans.any_miss v.1 h refl (Admit.skip-high a.w.now i a.a a.protocol a.icmp f (omega (arith, u.if-hi-end_hi.false)))
        ]
      ],
    )
