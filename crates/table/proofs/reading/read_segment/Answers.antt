-- Two numbers, the rule, and then the bytes: each return is one step of `piece_in`. Assumes nothing.
use Rattle.answer.proofs.Passing.{passed_on}
use Rattle.table.proofs.Calls.{called_true, called_false}
use Rattle.table.proofs.Steps.{piece_two, piece_broken, piece_cut, piece_fine}
use Rattle.table.proofs.reading.read_segment.Goals as goal

pub returns-in_err-two : goal.returns-in_err-two
returns-in_err-two c =
    rw (passed_on _ _ c.from_residual.ensures.1) (piece_two c.args.bytes.now c.args.at c.args.ended c.in_err-two.ensures)

pub returns-then-not-segment_rule : goal.returns-then-not-segment_rule
returns-then-not-segment_rule c =
    piece_broken c.args.bytes.now c.args.at c.args.ended c.in_ok-two.ensures (called_false c.segment_rule.ensures c.if-not-segment_rule.true)

pub returns-then-bytes-two : goal.returns-then-bytes-two
returns-then-bytes-two c =
    piece_cut c.args.bytes.now c.args.at c.args.ended c.in_ok-two.ensures (called_true c.segment_rule.ensures c.if-not-segment_rule.false) c.if-bytes-two.true

pub returns : goal.returns
returns c =
    piece_fine c.args.bytes.now c.args.at c.args.ended c.in_ok-two.ensures (called_true c.segment_rule.ensures c.if-not-segment_rule.false) c.if-bytes-two.false
