-- The invariant: what is added and what is left are all of it (`Adding`). Assumes nothing.
use Rattle.std.proofs.Common.{arith}
use Rattle.table.proofs.StaticBytes.{adding_none, adding_fits, adding_more, adding_done, adding_most}
use Rattle.table.proofs.template.Template.static_size.Goals as goal

pub loop-j-init : goal.loop-j-init
loop-j-init c = adding_none c.args.self.words.now c.head-n.ensures

pub overflow_add-size : goal.overflow_add-size
overflow_add-size c = omega (arith, adding_fits c.loop-j.invariant c.loop-j-test.true c.segment-size.ensures c.args.self.usable)

pub loop-j-preserved : goal.loop-j-preserved
loop-j-preserved c = adding_more c.loop-j.invariant c.loop-j-test.true c.segment-size.ensures

pub returns : goal.returns
returns c = (adding_done c.loop-j.invariant c.loop-j-test.false, adding_most c.loop-j.invariant c.args.self.usable)
