-- One part, and the other behind it (`put_then`). Assumes nothing.
use Rattle.output.proofs.Placing.{put_then}
use Rattle.stream.proofs.feeding.gather.Goals as goal

pub returns : goal.returns
returns c = put_then c.put_bytes-n.ensures c.put_bytes.ensures
