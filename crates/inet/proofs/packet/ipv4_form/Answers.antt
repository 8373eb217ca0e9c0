-- A test that fails refutes the facts of `Front4`; all that pass prove them. Assumes nothing.
use mathlib.Core.Path.{refl, sym, ◌∙◌}
use native.Mathlib.Omega.{arith}
use borrow.Author.Rules.{rules}
use borrow.Author.Tests.{eqb-true, eqb-false}
use Rattle.inet.proofs.FrontLaws.{clash, tells_4}
use Rattle.inet.proofs.packet.ipv4_form.Goals.{then-p-eq4, else-p-eq4, then-n-ge20, else-n-ge20, then-n-size, else-n-size}
use Rattle.inet.proofs.packet.ipv4_form.Goals as goal

pub returns-then-size-lt20 : goal.returns-then-size-lt20
returns-then-size-lt20 c = tells_4 (search rules) _ (λ t. clash _ t refl) (λ t f. omega arith)

pub returns-then-word-size : goal.returns-then-word-size
returns-then-word-size c =
    elim c.if-n-size.branch [
      | then-n-size w ↦
          let total = eqb-true _ _ (sym w.value-is ∙ c.if-word-size.true) in
          let sum = c.folded.ensures.0 ∙ c.sum_quads.ensures.0 in
          tells_4 (search rules) _ (λ t. let e = eqb-true _ _ t in omega arith) (λ t f. omega (arith, eqb-false _ _ t))
      | else-n-size w ↦ clash _ c.if-word-size.true (cc)
    ]

pub returns-else-word-size : goal.returns-else-word-size
returns-else-word-size c =
    elim c.if-n-size.branch [
      | then-n-size w ↦ tells_4 (search rules) _ (λ t. clash _ t c.if-word-size.false) (λ t f. omega (arith, eqb-false _ _ (sym w.value-is ∙ t)))
      | else-n-size w ↦ tells_4 (search rules) _ (λ t. clash _ t c.if-word-size.false) (λ t f. omega (arith, w.if-n-size.either))
    ]
