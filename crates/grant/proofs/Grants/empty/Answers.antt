-- Both lists are empty. Assumes nothing.
use Rattle.grant.proofs.StoreLaws.{empty-parts}
use Rattle.grant.proofs.Grants.empty.Goals as goal

pub returns : goal.returns
returns c = empty-parts c.empty-addresses.ensures c.empty-routes.ensures
