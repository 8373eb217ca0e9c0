-- Each return is a case of `covers`: another version, other high bits, or whether the entry is a declined request. Assumes nothing.
use mathlib.Core.Bool.{true≢false}
use mathlib.Core.Path.{sym, ◌∙◌}
use borrow.Author.Tests.{ne_eqb}
use Rattle.policy.proofs.CoverLaws as Cover
use Rattle.policy.proofs.cover.covers.Goals as goal
use Rattle.policy.proofs.cover.covers.Goals.{then-e-a, else-e-a}

pub returns-then-same_high : goal.returns-then-same_high
returns-then-same_high c =
    elim c.if-e-a.branch [
      | then-e-a w ↦ Cover.covers_agreeing _ _ w.if-e-a.true w.beyond.ensures (sym w.same_high.ensures ∙ sym w.value-is ∙ c.if-same_high.true) c.is_declined.ensures
      | else-e-a w ↦ absurd (true≢false (sym c.if-same_high.true ∙ w.value-is ∙ ne_eqb _ _ w.if-e-a.false))
    ]

pub returns-else-same_high : goal.returns-else-same_high
returns-else-same_high c =
    c.if-same_high.false
    ∙ elim c.if-e-a.branch [
      | then-e-a w ↦ Cover.covers-apart c.args.a c.args.e w.beyond.ensures (sym w.same_high.ensures ∙ sym w.value-is ∙ c.if-same_high.false)
      | else-e-a w ↦ Cover.covers-other_version _ _ w.if-e-a.false
    ]
