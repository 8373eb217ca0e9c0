-- The invariant is `Weaving`. Assumes nothing.
use Rattle.template.proofs.Weaving.{Weaving}
use Rattle.template.proofs.body.weave_into.Given as goal

abbrev pub invariant-loop-j : goal.invariant-loop-j
invariant-loop-j l = Weaving l.t.words.now l.body l.initial.image l.image l.pos l.at l.j
