-- The invariant is `Collecting`: the templates before i are found and stored.
use Rattle.table.proofs.Gathering.{Collecting}
use Rattle.table.proofs.reading.read_templates.Given as goal

abbrev pub invariant-loop-i : goal.invariant-loop-i
invariant-loop-i l = Collecting l.bytes l.n l.table l.previous l.next l.i
