-- The front woven, and its sum completed where there is one: `Completing`. Assumes nothing.
use borrow.Author.Rules.{rules}
use Rattle.template.proofs.Completing.{weavable, completable, continues_plain, continues_sum}
use Rattle.template.proofs.body.rebuild.Goals as goal

pub weave_into-n-requires : goal.weave_into-n-requires
weave_into-n-requires c = weavable _ _ _ c.requires _ (search rules)

pub complete-requires : goal.complete-requires
complete-requires c =
    completable _ _ _ c.requires c.weave_into-n.ensures c.head.ensures (search rules) c.in-Some.is

pub returns-in-Some : goal.returns-in-Some
returns-in-Some c =
    continues_sum _ _ _ c.requires c.weave_into-n.ensures c.head.ensures c.in-Some.is c.complete.ensures

pub returns-in_default : goal.returns-in_default
returns-in_default c =
    continues_plain _ _ _ c.requires c.weave_into-n.ensures c.head.ensures c.in_default.is
