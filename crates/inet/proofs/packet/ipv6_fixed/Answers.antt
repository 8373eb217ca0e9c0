-- The tests that pass prove the facts of `Front6`; one that fails refutes them. Assumes nothing.
use mathlib.Core.Path.{sym, ◌∙◌}
use native.Mathlib.Omega.{arith}
use borrow.Author.Rules.{rules}
use borrow.Author.Tests.{eqb-true, eqb-false, leb-true}
use Rattle.inet.proofs.FrontLaws.{clash, tells_6}
use Rattle.inet.proofs.packet.ipv6_fixed.Goals.{then-size-ge40, else-size-ge40}
use Rattle.inet.proofs.packet.ipv6_fixed.Goals as goal

pub returns-then-p-eq6 : goal.returns-then-p-eq6
returns-then-p-eq6 c =
    elim c.if-size-ge40.branch [
      | then-size-ge40 w ↦
          let six = eqb-true _ _ (sym w.value-is ∙ c.if-p-eq6.true) in (
            tells_6 (search rules) _ (λ t. let e = eqb-true _ _ t in omega arith) (λ t f. omega (arith, eqb-false _ _ t)),
            λ t. omega (arith, eqb-true _ _ t),
          )
      | else-size-ge40 w ↦ absurd (omega (arith, leb-true _ _ (sym w.value-is ∙ c.if-p-eq6.true)))
    ]

pub returns-else-p-eq6 : goal.returns-else-p-eq6
returns-else-p-eq6 c =
    elim c.if-size-ge40.branch [
      | then-size-ge40 w ↦ (tells_6 (search rules) _ (λ t. clash _ t c.if-p-eq6.false) (λ t f. omega (arith, eqb-false _ _ (sym w.value-is ∙ t))), λ t. clash _ t c.if-p-eq6.false)
      | else-size-ge40 w ↦ (tells_6 (search rules) _ (λ t. clash _ t c.if-p-eq6.false) (λ t f. omega arith), λ t. clash _ t c.if-p-eq6.false)
    ]
