-- The laws say what was added up, folded and complemented; the tests choose between their three ends. Assumes nothing.
use native.Mathlib.Omega.{arith}
use Rattle.inet.proofs.TransportLaws.{finish-udp, finish-other, finish_nonzero}
use Rattle.inet.proofs.transport.finish.Goals.{else-sum-eq0-via-then-sum-eq0+else-protocol_byte-eq17, else-sum-eq0-via-else-sum-eq0}
use Rattle.inet.proofs.transport.finish.Goals as goal

pub returns-then-protocol_byte-eq17 : goal.returns-then-protocol_byte-eq17
returns-then-protocol_byte-eq17 c =
    omega (arith, finish-udp c.args.front.now c.args.tail.now c.args.start c.requires _ c.sum_bytes-near.ensures.0 c.sum_behind-far.ensures.0 c.folded-sum.ensures.0 (omega arith) (omega arith))

pub returns-else-sum-eq0 : goal.returns-else-sum-eq0
returns-else-sum-eq0 c =
    elim c.else-sum-eq0.branch [
      | else-sum-eq0-via-then-sum-eq0+else-protocol_byte-eq17 w ↦
          omega (arith, finish-other c.args.front.now c.args.tail.now c.args.start c.requires _ c.sum_bytes-near.ensures.0 c.sum_behind-far.ensures.0 c.folded-sum.ensures.0 (λ e. omega arith))
      | else-sum-eq0-via-else-sum-eq0 w ↦
          omega (arith, finish_nonzero c.args.front.now c.args.tail.now c.args.start c.requires _ c.sum_bytes-near.ensures.0 c.sum_behind-far.ensures.0 c.folded-sum.ensures.0 (λ e. omega arith))
    ]
