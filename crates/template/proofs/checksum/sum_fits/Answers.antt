-- The field lies in the packet, so its value decides. Assumes nothing.
use mathlib.Core.Path.{sym, ◌∙◌}
use Rattle.template.proofs.CompletionLaws.{fits_sum-long}
use Rattle.template.proofs.checksum.sum_fits.Goals as goal

pub returns : goal.returns
returns c =
    c.field_is.ensures ∙ sym (fits_sum-long c.args.packet.now c.args.field c.args.start _ c.requires.field_and_seed.0 c.completion-v.ensures.0)
