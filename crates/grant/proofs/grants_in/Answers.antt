-- Each list is the part of the state that `grants_in` reads. Assumes nothing.
use Rattle.grant.proofs.StoreLaws as Store
use Rattle.grant.proofs.grants_in.Goals as goal

pub returns : goal.returns
returns c =
    Store.loaded c.args.state.now c.words_in.ensures c.words_in-2.ensures c.words_in-3.ensures c.words_in-4.ensures
