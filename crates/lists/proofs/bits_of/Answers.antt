-- The bits of two words are at least each, and at most their sum. Assumes nothing.
use Rattle.lists.proofs.RunLaws.{bits_of_three}
use Rattle.lists.proofs.bits_of.Goals as goal

pub returns : goal.returns
returns c = bits_of_three c.args.a c.args.b c.args.c
