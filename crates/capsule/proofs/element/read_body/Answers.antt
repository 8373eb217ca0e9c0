-- Each return is a case of `read_body`, by the version: too short, or the entry's rule decides.
use mathlib.Core.Path.{sym, ◌∙◌}
use mathlib.Core.Bool.{true, false}
use Rattle.capsule.proofs.EntryCases as Entry
use Rattle.capsule.proofs.element.read_body.Goals as goal
use Rattle.capsule.proofs.element.read_body.Goals.{then-version-ne6-via-then-version-ne6, then-version-ne6-via-else-version-ne6+then-t-lt18}

pub returns-then-t-lt6 : goal.returns-then-t-lt6
returns-then-t-lt6 c = Entry.short _ _ _ c.if-t-lt6.true

pub returns-then-entry_sound : goal.returns-then-entry_sound
returns-then-entry_sound c = Entry.case4 _ _ _ true _ c.if-version-eq4.true c.if-t-lt6.false (rw c.big_at-lo.ensures.0) (sym c.entry_sound.ensures ∙ c.if-entry_sound.true)

pub returns-then-version-eq4 : goal.returns-then-version-eq4
returns-then-version-eq4 c = Entry.case4 _ _ _ false _ c.if-version-eq4.true c.if-t-lt6.false (rw c.big_at-lo.ensures.0) (sym c.entry_sound.ensures ∙ c.if-entry_sound.false)

pub returns-then-version-ne6 : goal.returns-then-version-ne6
returns-then-version-ne6 c = elim c.then-version-ne6.branch [
  | then-version-ne6-via-then-version-ne6 w ↦ Entry.other _ _ _ c.if-version-eq4.false w.if-version-ne6.true
  | then-version-ne6-via-else-version-ne6+then-t-lt18 w ↦ Entry.short6 _ _ _ w.if-version-ne6.false w.if-t-lt18.true
]

pub returns-then-entry_sound-2 : goal.returns-then-entry_sound-2
returns-then-entry_sound-2 c = Entry.case6 _ _ _ true _ c.if-version-ne6.false c.if-t-lt18.false (rw (c.big_at-hi.ensures.0, c.big_at-lo-2.ensures.0)) (sym c.entry_sound-2.ensures ∙ c.if-entry_sound-2.true)

pub returns : goal.returns
returns c = Entry.case6 _ _ _ false _ c.if-version-ne6.false c.if-t-lt18.false (rw (c.big_at-hi.ensures.0, c.big_at-lo-2.ensures.0)) (sym c.entry_sound-2.ensures ∙ c.if-entry_sound-2.false)
