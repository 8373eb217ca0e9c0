-- Each index is below the words of a template, and the field is the one of `head_of`, for the flag is 0 or 1 (`usable-field`). Assumes nothing.
use Rattle.std.proofs.Common.{refl}
use lib.ListN.{get_or}
use Rattle.table.specs.Words.{head_of}
use Rattle.table.proofs.Views.{head-read}
use Rattle.table.proofs.TableFacts.{usable-field}
use Rattle.table.proofs.judged_head.Goals as goal

pub returns : goal.returns
unfolding head_of
returns c =
    let t = c.args.t.now in
    head-read (head_of t) (get_or t 2 0) (get_or t 3 0) (get_or t 4 0) refl c.then_some-checksum.ensures (usable-field t c.requires.usable_template)
