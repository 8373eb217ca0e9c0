-- The invariant is `Shortening`; the tail goes behind what it leaves. Assumes nothing.
use Rattle.template.proofs.Shortening.{Shortening}
use Rattle.template.proofs.body.shorten.Given as goal

abbrev pub invariant-loop-j : goal.invariant-loop-j
invariant-loop-j l = Shortening l.t.words.now l.front l.initial.out l.at l.out l.pos l.next l.j
