-- What was written lies in the output behind the head, by `answer-room`, and is the answer, by `received-packet`.
use native.Mathlib.Omega.{arith}
use Rattle.van_box.proofs.Rooms.{answer-room}
use Rattle.van_box.proofs.Outcomes.{received-packet}
use Rattle.van_box.proofs.answers.datagram_record.Goals as goal

pub put_answer-requires : goal.put_answer-requires
put_answer-requires c =
    let w = c.receive-received in
    answer-room c.args.out.now _ (omega (arith, c.requires)) w.ensures.writes w.auto.out

pub returns : goal.returns
returns c =
    let w = c.receive-received in
    received-packet c.args.output c.args.out.now c.requires w.auto.out w.ensures c.put_answer.ensures
