-- The last segment's end decides first, and then the field's end. Assumes nothing.
use Rattle.std.proofs.Common.{sym, arith}
use Rattle.template.proofs.Sizes.{field-within, reaches-sum, reaches-plain}
use Rattle.template.proofs.body.reaches.Goals as goal

pub overflow_add-result : goal.overflow_add-result
overflow_add-result c = omega (arith, field-within c.args.t.words.now c.args.t.usable c.head.ensures c.in-Some.is)

pub returns-in-Some : goal.returns-in-Some
returns-in-Some c = sym (reaches-sum c.args.t.words.now c.head.ensures (omega arith) c.in-Some.is)

pub returns-in-None : goal.returns-in-None
returns-in-None c = sym (reaches-plain c.args.t.words.now c.head.ensures (omega arith) c.in-None.is)
