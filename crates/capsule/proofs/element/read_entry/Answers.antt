-- The number at the front is the Request ID, which lies within the bytes; what is behind it is the body.
use mathlib.Core.Path.{sym, ◌∙◌}
use Rattle.octets.proofs.Parts as Parts
use Rattle.varint.proofs.Reading as Number
use Rattle.capsule.proofs.EntryCases as Entry
use Rattle.capsule.proofs.element.read_entry.Goals as goal

pub slice_bounds-read_body-count : goal.slice_bounds-read_body-count
slice_bounds-read_body-count c = (Number.taken c.args.s.now _ _ (sym c.read.ensures.reading ∙ c.in_ok-id.was)).within

pub slice_bounds-read_body-start : goal.slice_bounds-read_body-start
slice_bounds-read_body-start c = (Number.taken c.args.s.now _ _ (sym c.read.ensures.reading ∙ c.in_ok-id.was)).within

pub returns : goal.returns
returns c = c.read_body.ensures ∙ (rw Parts.tail (Entry.body _ _ _ (sym c.read.ensures.reading ∙ c.in_ok-id.was)))

pub returns-in_err-id : goal.returns-in_err-id
returns-in_err-id c = c.from_residual.ensures ∙ Entry.cut _ (sym c.read.ensures.reading ∙ c.in_err-id.was)
