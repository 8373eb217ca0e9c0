-- The invariant: what the ranges from i on say after the last one is the answer (`Judging`); each turn, over one run, is a law of it. Assumes nothing.
use mathlib.Core.Path.{◌∙◌}
use Rattle.lists.proofs.ListScans as List
use Rattle.lists.proofs.Calls.{called_true}
use native.Mathlib.Omega.{arith}
use borrow.Author.Rules.{rules}
use Rattle.lists.proofs.routes_sound.Goals as goal

pub returns-then-count : goal.returns-then-count
returns-then-count c = List.judge-over c.args.w.now (omega arith)

pub returns-then-n-eq0 : goal.returns-then-n-eq0
returns-then-n-eq0 c = List.judge-none c.args.w.now (omega arith)

pub returns-then-n-eq1 : goal.returns-then-n-eq1
returns-then-n-eq1 c =
    c.range_sound.ensures ∙ List.judge-one c.args.w.now (omega arith) c.range_at-r.ensures

pub loop-i-init : goal.loop-i-init
loop-i-init c = List.judge c.args.w.now c.before_all-last.ensures (omega arith)

pub range_at-last-requires : goal.range_at-last-requires
range_at-last-requires c =
    let k = List.run_within c.run_behind.ensures c.in-Some.is in
    record { route_words_in_bounds = search rules; i_lt_max_ranges = omega (arith, k.0) }

pub loop-i-preserved : goal.loop-i-preserved
loop-i-preserved c =
    List.judge_run c.loop-i.invariant c.loop-i-test.true c.range_at-r-in-loop-i.ensures
    (called_true c.range_sound-in-loop-i.ensures c.if-not-range_sound.false)
    (called_true c.in_order.ensures c.if-not-in_order.false)
    c.run_behind.ensures c.in-Some.is c.range_at-last.ensures
