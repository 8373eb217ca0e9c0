-- `octets::big_from` meets its contract. What is left to read gives the whole value, and the value read stays below a bound that grows by a byte a turn.
-- Assumes nothing.
use Prim.Native.Nat.{◌+◌, ◌-◌, ◌<◌}
use mathlib.Core.Path.{◌≡◌, refl}
use native.Mathlib.Omega.{arith}
use native.Mathlib.Nat.{add-zero, add_assoc}
use lib.Dec.{lit<}
use lib.ListN.{length, get_or}
use Rattle.octets.proofs.BigLaws as Big
use Rattle.octets.proofs.big_from.Goals as goal

pub loop-b-init : goal.loop-b-init
loop-b-init c =
    (refl, rw add-zero c.requires.1, omega arith)

pub overflow_mul-acc : goal.overflow_mul-acc
overflow_mul-acc c =
    let a = c.args in
    let l = c.loop-b in
    omega (arith, Big.fits (8 - length a.s.now + l.b-index) l.acc 0 (omega arith) l.invariant.1 (lit< tt))

pub overflow_add-acc : goal.overflow_add-acc
overflow_add-acc c =
    let a = c.args in
    let l = c.loop-b in
    let b : get_or a.s.now l.b-index 0 < 256 = omega (arith, c.type_inv.s l.b-index) in
    record { fits = Big.fits (8 - length a.s.now + l.b-index) l.acc _ (omega arith) l.invariant.1 b }

pub loop-b-preserved : goal.loop-b-preserved
loop-b-preserved c =
    let a = c.args in
    let l = c.loop-b in
    let b : get_or a.s.now l.b-index 0 < 256 = omega (arith, c.type_inv.s l.b-index) in (
      Big.step l.acc l.b-index a.s.now _ (omega arith) l.invariant.0,
      rw (← add_assoc) (Big.grows (8 - length a.s.now + l.b-index) l.acc _ l.invariant.1 b),
      Big.bound-step (a.start + 1) l.b-index l.acc _ l.invariant.2 b,
    )

pub returns : goal.returns
returns c =
    let l = c.loop-b in
    let e : l.b-index ≡ length c.args.s.now = omega arith in
    (Big.end l.acc l.b-index _ _ (omega arith) l.invariant.0, rw e at l.invariant.2)
