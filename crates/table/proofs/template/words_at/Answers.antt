-- The part that is cut out is the definition's: `words-at`. Assumes nothing.
use Rattle.table.proofs.Judging.{words-at}
use Rattle.table.proofs.template.words_at.Goals as goal

pub returns-clause-words : goal.returns-clause-words
returns-clause-words c = words-at c.args.table.now c.args.i
