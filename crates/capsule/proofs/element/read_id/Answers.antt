-- The version behind the ID says how many bytes the entry takes; a good entry is not cut in its ID.
use mathlib.Core.Path.{sym, ◌∙◌}
use native.Mathlib.Omega.{arith}
use Rattle.capsule.proofs.IdCases as Id
use Rattle.capsule.proofs.element.read_id.Goals as goal
use Rattle.capsule.proofs.element.read_id.Goals.{then-s-id-eq4, else-s-id-eq4}

pub unwrap-id-requires : goal.unwrap-id-requires
unwrap-id-requires c = rw c.read.ensures.reading (Id.there c.args.s.now c.requires)

pub overflow_add-result : goal.overflow_add-result
overflow_add-result c =
    let q = sym c.read.ensures.reading ∙ c.unwrap-id.ensures in
    elim c.if-s-id-eq4.branch [
      | then-s-id-eq4 w ↦ rw w.body-is (omega (arith, Id.within c.args.s.now _ _ q c.requires))
      | else-s-id-eq4 w ↦ rw w.body-is (omega (arith, Id.within-six c.args.s.now _ _ q c.requires w.if-s-id-eq4.false))
    ]

pub returns : goal.returns
returns c =
    let q = sym c.read.ensures.reading ∙ c.unwrap-id.ensures in
    elim c.if-s-id-eq4.branch [
      | then-s-id-eq4 w ↦ rw w.body-is (Id.four _ _ _ q w.if-s-id-eq4.true)
      | else-s-id-eq4 w ↦ rw w.body-is (Id.six _ _ _ q w.if-s-id-eq4.false)
    ]

pub bounds-s-id : goal.bounds-s-id
bounds-s-id c = omega (arith, Id.within c.args.s.now _ _ (sym c.read.ensures.reading ∙ c.unwrap-id.ensures) c.requires)
