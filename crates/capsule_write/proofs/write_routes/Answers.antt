-- The contract of `write_list`, in the words of an advertisement.
use Rattle.capsule_write.proofs.Frames.{routes_written}
use Rattle.capsule_write.proofs.write_routes.Goals as goal

pub returns : goal.returns
returns c = routes_written c.args.list.now c.write_list.ensures
