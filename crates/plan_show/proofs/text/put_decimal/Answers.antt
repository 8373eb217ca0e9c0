-- A number has at most 20 digits: `decimal` is `digits_of` at that.
use Rattle.plan_show.specs.Text.{decimal}
use Rattle.plan_show.proofs.text.put_decimal.Goals as goal

pub put_digits-requires : goal.put_digits-requires
unfolding decimal
put_digits-requires c = c.requires

pub returns : goal.returns
unfolding decimal
returns c = c.put_digits.ensures
