-- The entries before i are looked at from the newest on; the invariant is that what is left of them gives the answer (`Looking`).
use mathlib.Core.Bool.{not}
use mathlib.Core.Path.{ap}
use native.Mathlib.Omega.{arith}
use Rattle.capsule_write.proofs.Judging as Judging
use Rattle.capsule_write.proofs.element.id_refused.Goals as goal

pub returns-then-not-request : goal.returns-then-not-request
returns-then-not-request c =
    let a = c.args in
    Judging.id-unasked a.w.now a.i a.request a.id (ap not c.if-not-request.true)

pub returns-then-id-eq0 : goal.returns-then-id-eq0
returns-then-id-eq0 c =
    let a = c.args in
    Judging.id_zero a.w.now a.i a.request a.id (ap not c.if-not-request.false) c.if-id-eq0.true

pub loop-k-init : goal.loop-k-init
loop-k-init c =
    let a = c.args in
    Judging.look_start a.w.now a.i a.request a.id (ap not c.if-not-request.false) c.if-id-eq0.false

pub returns-then-other-id : goal.returns-then-other-id
returns-then-other-id c =
    Judging.look_hit c.loop-k.invariant (omega arith) c.entry_at-e.ensures c.if-other-id.true

pub loop-k-preserved : goal.loop-k-preserved
loop-k-preserved c =
    Judging.look_next c.loop-k.invariant (omega arith) c.entry_at-e.ensures c.if-other-id.false

pub returns : goal.returns
returns c = Judging.look_end c.loop-k.invariant (omega arith)
