-- The invariant `Running6`: what the ranges behind i say is what those behind j say; each turn is a law of it. Assumes nothing.
use Rattle.lists.proofs.Calls.{called_true, called_false}
use native.Mathlib.Omega.{arith}
use Rattle.lists.proofs.RunLaws as Law
use Rattle.lists.proofs.run6.Goals as goal

pub returns-then-not-below : goal.returns-then-not-below
returns-then-not-below c =
    Law.run_broken
    (Law.run6_unordered c.loop-last.invariant
    (omega arith) c.if-own-tag.false
    (called_false c.below.ensures c.if-not-below.true))

pub returns-then-not-at_most : goal.returns-then-not-at_most
returns-then-not-at_most c =
    Law.run_broken
    (Law.run6_reversed c.loop-last.invariant
    (omega arith)
    c.if-own-tag.false
    (called_false c.at_most.ensures c.if-not-at_most.true))

pub loop-last-preserved : goal.loop-last-preserved
loop-last-preserved c =
    Law.run6_next c.loop-last.invariant (omega arith)
    c.if-own-tag.false c.requires.range_j_sound.1
    (called_true c.below.ensures c.if-not-below.false) (called_true
    c.at_most.ensures c.if-not-at_most.false)

pub returns : goal.returns
returns c = Law.run6_done (Law.run6_last c.loop-last.invariant (omega arith))
