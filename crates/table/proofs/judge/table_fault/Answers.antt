-- The invariant is `Sounding`: what the templates not yet seen say is the answer.
use Rattle.std.proofs.Common.{refl}
use Rattle.answer.proofs.Passing.{passed_on}
use Rattle.table.proofs.Judging.{sound-over, sound-start, sound-broken, sound-next}
use Rattle.table.proofs.judge.table_fault.Goals as goal

pub returns-then-n-gt-MAX_TEMPLATES : goal.returns-then-n-gt-MAX_TEMPLATES
returns-then-n-gt-MAX_TEMPLATES c = sound-over _ c.if-n-gt-MAX_TEMPLATES.true

pub loop-i-init : goal.loop-i-init
loop-i-init c = sound-start _ c.if-n-gt-MAX_TEMPLATES.false

pub loop-i-preserved : goal.loop-i-preserved
loop-i-preserved c =
    let s = c.loop-i in
    sound-next s.invariant c.loop-i-test.true c.words_at-t.ensures.words c.in_ok-template_fault.ensures c.head_of-head.ensures refl

pub returns-in_err-template_fault : goal.returns-in_err-template_fault
returns-in_err-template_fault c =
    let s = c.loop-i in
    rw (passed_on _ _ c.from_residual.ensures.1)
    (sound-broken s.invariant c.loop-i-test.true c.words_at-t.ensures.words c.in_err-template_fault.ensures refl)
