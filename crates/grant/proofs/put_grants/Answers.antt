-- Each list is stored behind the one before it (`put_steps`). Assumes nothing.
use Rattle.grant.specs.Lists.{put_grants}
use Rattle.grant.proofs.StoreLaws as Store
use Rattle.grant.proofs.put_grants.Goals as goal

pub returns : goal.returns
unfolding put_grants
returns c =
    Store.put_steps c.args.state.now c.put_words.ensures c.put_words-2.ensures c.put_words-3.ensures c.put_words-4.ensures
