-- The invariant is `Filling`: the static bytes before k are put. Assumes nothing.
use Rattle.template.proofs.StaticBytes.{Filling}
use Rattle.template.proofs.body.put_static.Given as goal

abbrev pub invariant-loop-k : goal.invariant-loop-k
invariant-loop-k l = Filling l.t.words.now l.from l.to l.initial.image l.image l.k
