-- `varint::is_shortest` meets its contract, by that of `size`. Assumes nothing.
use Rattle.varint.proofs.is_shortest.Goals as goal

pub returns : goal.returns
returns c = rw c.size.ensures
