-- Each return is a case of `read_range`, by the version: too short, or the range's rule decides.
use mathlib.Core.Path.{sym, ◌∙◌}
use mathlib.Core.Bool.{true, false}
use Rattle.capsule.proofs.RangeCases as Range
use Rattle.capsule.proofs.element.read_range.Goals as goal
use Rattle.capsule.proofs.element.read_range.Goals.{then-version-ne6-via-then-version-ne6, then-version-ne6-via-else-version-ne6+then-s-lt34}

pub returns-then-s-lt10 : goal.returns-then-s-lt10
returns-then-s-lt10 c = Range.short _ c.if-s-lt10.true

pub returns-then-range_sound : goal.returns-then-range_sound
returns-then-range_sound c = Range.case4 _ true _ c.if-version-eq4.true c.if-s-lt10.false (rw (c.big_at-start_lo.ensures.0, c.big_at-end_lo.ensures.0)) (sym c.range_sound.ensures ∙ c.if-range_sound.true)

pub returns-then-version-eq4 : goal.returns-then-version-eq4
returns-then-version-eq4 c = Range.case4 _ false _ c.if-version-eq4.true c.if-s-lt10.false (rw (c.big_at-start_lo.ensures.0, c.big_at-end_lo.ensures.0)) (sym c.range_sound.ensures ∙ c.if-range_sound.false)

pub returns-then-version-ne6 : goal.returns-then-version-ne6
returns-then-version-ne6 c = elim c.then-version-ne6.branch [
  | then-version-ne6-via-then-version-ne6 w ↦ Range.other _ c.if-version-eq4.false w.if-version-ne6.true
  | then-version-ne6-via-else-version-ne6+then-s-lt34 w ↦ Range.short6 _ w.if-version-ne6.false w.if-s-lt34.true
]

pub returns-then-range_sound-2 : goal.returns-then-range_sound-2
returns-then-range_sound-2 c = Range.case6 _ true _ c.if-version-ne6.false c.if-s-lt34.false (rw (c.big_at-start_hi.ensures.0, c.big_at-start_lo-2.ensures.0, c.big_at-end_hi.ensures.0, c.big_at-end_lo-2.ensures.0)) (sym c.range_sound-2.ensures ∙ c.if-range_sound-2.true)

pub returns : goal.returns
returns c = Range.case6 _ false _ c.if-version-ne6.false c.if-s-lt34.false (rw (c.big_at-start_hi.ensures.0, c.big_at-start_lo-2.ensures.0, c.big_at-end_hi.ensures.0, c.big_at-end_lo-2.ensures.0)) (sym c.range_sound-2.ensures ∙ c.if-range_sound-2.false)
