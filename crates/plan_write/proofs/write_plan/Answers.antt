-- Each return is a case of the verdict; a table without a fault is sound.
use Rattle.std.proofs.Common.{refl, sym, arith}
use Rattle.answer.proofs.Passing.{passed_on}
use Rattle.plan_write.proofs.Answers.{wrote, refused, no_room, fault-says, fault-sound}
use Rattle.plan_write.proofs.write_plan.Goals as goal

pub returns-then-out-lt-PLAN_ROOM : goal.returns-then-out-lt-PLAN_ROOM
returns-then-out-lt-PLAN_ROOM c = refused (no_room _ _ (omega arith))

pub put_plan-requires-clause-sound_and_room : goal.put_plan-requires-clause-sound_and_room
put_plan-requires-clause-sound_and_room c = (fault-sound _ (sym c.in_ok-table_fault.ensures), omega arith)

pub returns : goal.returns
returns c = wrote (fault-says _ _ (omega arith) c.in_ok-table_fault.ensures refl) c.put_plan.ensures

pub returns-in_err-table_fault : goal.returns-in_err-table_fault
returns-in_err-table_fault c =
    rw (passed_on _ _ c.from_residual.ensures.1) (refused (fault-says _ _ (omega arith) c.in_err-table_fault.ensures refl))
