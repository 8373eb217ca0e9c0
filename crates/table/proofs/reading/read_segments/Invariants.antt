-- The invariant is `Gathering`: the pieces before j are found and stored.
use Rattle.table.proofs.Gathering.{Gathering}
use Rattle.table.proofs.reading.read_segments.Given as goal

abbrev pub invariant-loop-j : goal.invariant-loop-j
invariant-loop-j l = Gathering l.bytes l.at l.n l.t l.ended l.next l.j
