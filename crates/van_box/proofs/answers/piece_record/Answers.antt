-- What was handed out lies in the output behind the head, by `answer-room`, and is the answer, by `handed-on`.
use native.Mathlib.Omega.{arith}
use Rattle.van_box.proofs.Rooms.{answer-room}
use Rattle.van_box.proofs.Outcomes.{handed-writes, handed-on}
use Rattle.van_box.proofs.answers.piece_record.Goals as goal

pub put_answer-answered-requires : goal.put_answer-answered-requires
put_answer-answered-requires c =
    let w = c.next_capsule-read in
    answer-room c.args.out.now _ (omega (arith, c.requires))
    (handed-writes c.args.output c.args.out.now c.requires w.ensures c.call_answer-answer.ensures) w.auto.out

pub returns : goal.returns
returns c =
    let w = c.next_capsule-read in
    handed-on c.args.output c.args.out.now c.requires w.ensures c.call_answer-answer.ensures c.taken_by.ensures c.is_handed.ensures w.auto.out
    c.put_answer-answered.ensures
