-- By the flag: each return is one case of `sum_in`. Assumes nothing.
use Rattle.std.proofs.Common.{arith}
use Rattle.octets.specs.Scan.{from}
use Rattle.table.specs.Words.{segment_at}
use Rattle.table.proofs.Steps.{none_zero, none-some, flag-cut, flag-none, flag_zero, flag-other, flag_one}
use Rattle.table.proofs.reading.read_checksum.Goals as goal

pub returns-then-bytes-at : goal.returns-then-bytes-at
returns-then-bytes-at c =
    flag-cut c.args.bytes.now c.args.at (from (segment_at c.args.t.now) 0 c.args.n) c.if-bytes-at.true

pub returns-then-n-eq0 : goal.returns-then-n-eq0
returns-then-n-eq0 c =
    let a = c.args in
    flag-none a.bytes.now a.at (from (segment_at a.t.now) 0 a.n) c.if-bytes-at.false c.if-flag-eq0.true (none_zero (segment_at a.t.now) a.n c.if-n-eq0.true)

pub returns-then-flag-eq0 : goal.returns-then-flag-eq0
returns-then-flag-eq0 c =
    let a = c.args in
    record {
      within = omega arith;
      same = flag_zero a.bytes.now a.at (from (segment_at a.t.now) 0 a.n) c.if-bytes-at.false c.if-flag-eq0.true (none-some (segment_at a.t.now) a.n c.if-n-eq0.false);
    }

pub returns-then-flag-ne1 : goal.returns-then-flag-ne1
returns-then-flag-ne1 c =
    flag-other c.args.bytes.now c.args.at (from (segment_at c.args.t.now) 0 c.args.n) c.if-bytes-at.false c.if-flag-eq0.false c.if-flag-ne1.true

pub returns : goal.returns
returns c =
    rw (flag_one c.args.bytes.now c.args.at (from (segment_at c.args.t.now) 0 c.args.n) c.if-bytes-at.false c.if-flag-ne1.false) c.read_pair.ensures
