-- Each index is below the words of a template. Assumes nothing.
use Rattle.std.proofs.Common.{refl}
use lib.ListN.{get_or}
use Rattle.table.specs.Words.{head_of}
use Rattle.table.proofs.Views.{head-read}
use Rattle.table.proofs.head_of.Goals as goal

pub returns : goal.returns
unfolding head_of
returns c =
    let t = c.args.t.now in
    head-read (head_of t) (get_or t 2 0) (get_or t 3 0) (get_or t 4 0) refl c.then_some-checksum.ensures c.field_under-field.ensures
