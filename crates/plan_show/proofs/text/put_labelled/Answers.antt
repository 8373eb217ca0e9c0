-- The label, and the number behind it.
use Rattle.output.proofs.Placing.{put_then}
use Rattle.plan_show.proofs.text.put_labelled.Goals as goal

pub returns : goal.returns
returns c = put_then c.put_bytes-next.ensures c.put_decimal.ensures
