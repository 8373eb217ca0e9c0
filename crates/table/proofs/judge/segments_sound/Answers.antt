-- The invariant is `Fitting`: what the segments not yet seen say is the answer.
use Rattle.table.proofs.Calls.{called_true, called_false}
use Rattle.table.proofs.Judging.{fit-broken, fit_covered, fit_next}
use Rattle.table.proofs.judge.segments_sound.Goals as goal

pub returns-then-not-segment_rule : goal.returns-then-not-segment_rule
returns-then-not-segment_rule c = fit-broken c.loop-j.invariant c.loop-j-test.true c.segment_at-s.ensures (called_false c.segment_rule.ensures c.if-not-segment_rule.true)

pub returns-then-not-leaves_free : goal.returns-then-not-leaves_free
returns-then-not-leaves_free c = fit_covered c.loop-j.invariant c.loop-j-test.true c.segment_at-s.ensures (called_true c.segment_rule.ensures c.if-not-segment_rule.false) (called_false c.leaves_free.ensures c.if-not-leaves_free.true)

pub loop-j-preserved : goal.loop-j-preserved
loop-j-preserved c = fit_next c.loop-j.invariant c.loop-j-test.true c.segment_at-s.ensures (called_true c.segment_rule.ensures c.if-not-segment_rule.false) (called_true c.leaves_free.ensures c.if-not-leaves_free.false)
