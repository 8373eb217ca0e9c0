-- The bytes stand behind those kept, and their count is the one word that changes. Assumes nothing.
use Rattle.stream.proofs.CodeLaws.{keeps-none, keeps-some}
use Rattle.stream.proofs.feeding.keep.Goals as goal

pub returns-then-n-eq0 : goal.returns-then-n-eq0
returns-then-n-eq0 c = keeps-none c.requires.0 c.requires.1 c.put_bytes-n.ensures c.if-n-eq0.true

pub returns : goal.returns
returns c = keeps-some c.requires.0 c.requires.1 c.put_bytes-n.ensures c.if-n-eq0.false
