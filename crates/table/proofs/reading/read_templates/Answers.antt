-- The invariant is `Collecting`: the templates before i are found and stored.
use Rattle.std.proofs.Common.{arith, refl}
use Rattle.answer.proofs.Passing.{passed_on}
use Rattle.table.proofs.Gathering.{collect, collect_blank, collect-over, collect-end, collect-stop, collect-next}
use Rattle.table.proofs.reading.read_templates.Goals as goal

pub loop-i-init : goal.loop-i-init
loop-i-init c =
    collect _ _ _ c.requires.table_len c.requires.table_blank c.requires.in_bounds.0

pub read_template-requires-clause-t_blank : goal.read_template-requires-clause-t_blank
read_template-requires-clause-t_blank c =
    collect_blank c.loop-i.invariant (omega arith)

pub returns-in_err-read : goal.returns-in_err-read
returns-in_err-read c =
    rw (passed_on _ _ c.from_residual.ensures.1) (collect-stop c.loop-i.invariant c.loop-i-test.true c.in_err-read.ensures.told)

pub loop-i-preserved : goal.loop-i-preserved
loop-i-preserved c =
    collect-next c.loop-i.invariant c.loop-i-test.true c.in_ok-read.read c.in_ok-read.ensures (omega arith) refl

pub returns-then-next-bytes : goal.returns-then-next-bytes
returns-then-next-bytes c =
    collect-over c.loop-i.invariant c.loop-i-test.false c.if-next-bytes.true

pub returns : goal.returns
returns c =
    collect-end c.loop-i.invariant c.loop-i-test.false c.if-next-bytes.false
