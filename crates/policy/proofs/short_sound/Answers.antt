-- Both lists keep their rules, or nothing is said. Assumes nothing.
use Rattle.policy.specs.Granted.{side_in}
use Rattle.policy.proofs.PassLaws.{facts_side}
use Rattle.policy.proofs.short_sound.Goals as goal

pub returns-then-short_addresses : goal.returns-then-short_addresses
returns-then-short_addresses c =
    λ e. facts_side (side_in c.args.side.now) (c.short_addresses.ensures c.if-short_addresses.true) (c.short_routes.ensures e)
