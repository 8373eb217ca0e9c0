-- The contract of `write_list`, in the words of an assignment.
use Rattle.capsule_write.proofs.Frames.{assign_written}
use Rattle.capsule_write.proofs.write_assign.Goals as goal

pub returns : goal.returns
returns c = assign_written c.args.list.now c.write_list.ensures
