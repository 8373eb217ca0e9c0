-- The table's part comes back as the words. Assumes nothing.
use mathlib.Core.Path.{ap, ◌∙◌}
use native.Mathlib.Omega.{arith}
use borrow.Rule.Slice.PartMut.{put_mid}
use Rattle.octets.proofs.Parts.{put-part}
use Rattle.table.specs.Words.{table_words}
use Rattle.state.specs.State.{table_at, store_at}
use Rattle.state.proofs.put_table.Goals as goal

pub returns : goal.returns
returns c =
    let a = c.args in
    ap (put_mid table_at table_words a.state.now) c.copy_from_slice.ensures.after ∙ put-part a.state.now table_at store_at a.words.now (omega arith)
