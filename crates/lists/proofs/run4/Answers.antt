-- The invariant `Running4`: to range i nothing is broken, or what is broken shows in high and end; each turn is a law of it. Assumes nothing.
use mathlib.Core.Logic.{inl, inr}
use native.Mathlib.Omega.{arith}
use Rattle.lists.proofs.RunLaws as Law
use Rattle.lists.proofs.run4.Goals as goal

pub loop-last-init : goal.loop-last-init
loop-last-init c =
    Law.run4_start c.requires.range_j_sound.1 c.requires.j_in_list.0 c.requires.range_j_sound.0

pub returns-then-start-end : goal.returns-then-start-end
returns-then-start-end c =
    Law.run_broken (Law.run4_stop c.loop-last.invariant c.requires.range_j_sound.1 (omega arith)
    c.if-own-tag.false (inl c.if-start-end.true))

pub returns-then-next-start : goal.returns-then-next-start
returns-then-next-start c =
    Law.run_broken (Law.run4_stop c.loop-last.invariant c.requires.range_j_sound.1
    (omega arith)
    c.if-own-tag.false (inr c.if-next-start.true))

pub loop-last-preserved : goal.loop-last-preserved
loop-last-preserved c =
    let m = c.bits_of-high.ensures in
    Law.run4_next c.loop-last.invariant c.requires.range_j_sound.1 (omega arith)
    c.if-own-tag.false c.if-start-end.false c.if-next-start.false
    (m.0, omega (arith, m.1), omega (arith, m.2), omega (arith, m.3))

pub returns : goal.returns
returns c = Law.run4_done (Law.run4_last c.loop-last.invariant (omega arith)) c.ended-2.ensures
