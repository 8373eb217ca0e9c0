-- The invariant is `Pasting`: the first i bytes are in the words.
use Rattle.table.proofs.Pasting.{Pasting}
use Rattle.table.proofs.reading.paste.Given as goal

abbrev pub invariant-loop-i : goal.invariant-loop-i
invariant-loop-i l = Pasting l.bytes l.start l.size l.place l.initial.t l.t l.i
