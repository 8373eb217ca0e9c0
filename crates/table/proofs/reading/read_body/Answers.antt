-- Each return is one case of `body_in`; with a checksum the words are those of the whole template.
use Rattle.answer.proofs.Passing.{passed_on}
use Rattle.table.proofs.Bodies.{body-cut, body-over, body-pieces, body-summed, body-sum}
use Rattle.table.proofs.reading.read_body.Goals as goal

pub returns-then-bytes-at : goal.returns-then-bytes-at
returns-then-bytes-at c =
    record { size = c.requires.t_len; told = body-cut c.args.bytes.now c.args.at c.args.id c.if-bytes-at.true }

pub returns-then-n-gt-MAX_SEGMENTS : goal.returns-then-n-gt-MAX_SEGMENTS
returns-then-n-gt-MAX_SEGMENTS c =
    record { size = c.requires.t_len; told = body-over c.args.bytes.now c.args.at c.args.id c.if-bytes-at.false c.if-n-gt-MAX_SEGMENTS.true }

pub returns-in_err-behind : goal.returns-in_err-behind
returns-in_err-behind c =
    let f = c.in_err-behind.ensures in
    rw (passed_on _ _ c.from_residual.ensures.1)
    (record { size = f.size; told = body-pieces c.args.bytes.now c.args.at c.args.id c.if-bytes-at.false c.if-n-gt-MAX_SEGMENTS.false f.told })

pub returns-in_err-sum : goal.returns-in_err-sum
returns-in_err-sum c =
    let f = c.in_ok-behind.ensures in
    rw (passed_on _ _ c.from_residual-in_err-sum.ensures.1)
    (record {
      size = f.size;
      told = body-summed c.args.bytes.now c.args.at c.args.id c.if-bytes-at.false c.if-n-gt-MAX_SEGMENTS.false f.told c.in_err-sum.ensures;
    })

pub returns : goal.returns
returns c =
    let f = c.in_ok-behind.ensures in
    body-sum c.args.bytes.now c.args.at c.args.id c.if-bytes-at.false c.if-n-gt-MAX_SEGMENTS.false f.told c.in_ok-sum.ensures f.size c.put_head.ensures
