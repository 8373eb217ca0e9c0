-- The contract of `write_list`, in the words of a request.
use Rattle.capsule_write.proofs.Frames.{request_written}
use Rattle.capsule_write.proofs.write_request.Goals as goal

pub returns : goal.returns
returns c = request_written c.args.list.now c.write_list.ensures
