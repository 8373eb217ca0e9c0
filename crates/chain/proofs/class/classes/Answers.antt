-- The table is the one of which `class_rule` speaks. Assumes nothing.
use Rattle.chain.proofs.ClassTable.{class_table}
use Rattle.chain.proofs.ClassRule.{class_rule}
use Rattle.chain.proofs.class.classes.Goals as goal

pub returns : goal.returns
unfolding class_table
returns c = record { each = class_rule }
