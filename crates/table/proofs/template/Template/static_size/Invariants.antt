-- The invariant: what is added and what is left are all of it (`Adding`). Assumes nothing.
use Rattle.table.proofs.StaticBytes.{Adding}
use Rattle.table.proofs.template.Template.static_size.Given as goal

abbrev pub invariant-loop-j : goal.invariant-loop-j
invariant-loop-j l = Adding l.self.words.now l.n l.size l.j
