-- What type and length say decides, one law a way out. Assumes nothing.
use native.Mathlib.Omega.{arith}
use Rattle.stream.proofs.CaseLaws as Case
use Rattle.stream.proofs.store.is_open.Goals as goal

pub returns-then-kind-gt3 : goal.returns-then-kind-gt3
returns-then-kind-gt3 c = Case.open_other c.args.s.now c.requires c.in-Some.is c.if-kind-gt3.true

pub returns-then-length : goal.returns-then-length
returns-then-length c = Case.open_long c.args.s.now c.requires c.in-Some.is c.if-kind-gt3.false c.if-length.true

pub overflow_add-result : goal.overflow_add-result
overflow_add-result c = let b = Case.open_bounds c.args.s.now c.requires c.in-Some.is in omega (arith, b.0, c.if-length.false)

pub returns : goal.returns
returns c = Case.open_value c.args.s.now c.requires c.in-Some.is c.if-kind-gt3.false c.if-length.false

pub returns-in_default : goal.returns-in_default
returns-in_default c = Case.open_cut c.args.s.now c.requires c.in_default.is
