-- The bytes that are put are those of `lowered4`: the updated checksum is the one made again (`lower4_steps`). Assumes nothing.
use borrow.Author.Rules.{rules}
use Rattle.inet.proofs.UpdatedLaws.{lower4_steps}
use Rattle.inet.proofs.lower.lower4.Goals as goal

pub returns : goal.returns
returns c =
    lower4_steps c.args.p.now c.requires.headed4 (λ i. search rules) c.requires.bound c.word-hc.ensures.0 c.after_hop.ensures.0 c.put_word.ensures
