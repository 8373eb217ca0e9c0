-- The invariant is `Pasting`: the first i bytes are in the words.
use Rattle.table.proofs.Pasting.{paste_next}
use Rattle.table.proofs.reading.paste.Goals as goal

pub loop-i-preserved : goal.loop-i-preserved
loop-i-preserved c =
    rw c.from.ensures (paste_next _ _ _ _ _ c.loop-i.invariant c.loop-i-test.true c.requires.bytes_reach c.requires.t_has_room)
