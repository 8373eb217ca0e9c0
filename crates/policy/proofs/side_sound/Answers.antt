-- The first list breaks its rule, or the second one decides. Assumes nothing.
use mathlib.Core.Path.{◌∙◌}
use Rattle.lists.proofs.Calls.{called_true, called_false}
use Rattle.policy.specs.Granted.{side_in}
use Rattle.policy.proofs.PassLaws.{side-broken, side-routes}
use Rattle.policy.proofs.side_sound.Goals as goal

pub returns-then-addresses_sound : goal.returns-then-addresses_sound
returns-then-addresses_sound c =
    side-routes (side_in c.args.side.now) (called_true c.addresses_sound.ensures c.if-addresses_sound.true) c.routes_sound.ensures

pub returns-else-addresses_sound : goal.returns-else-addresses_sound
returns-else-addresses_sound c =
    c.if-addresses_sound.false
    ∙ side-broken (side_in c.args.side.now) (called_false c.addresses_sound.ensures c.if-addresses_sound.false)
