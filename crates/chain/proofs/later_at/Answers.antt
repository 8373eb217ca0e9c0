-- The offset is 0 where byte 2 is 0 and byte 3 below 8. Assumes nothing.
use mathlib.Core.Path.{sym, ap, ◌∙◌}
use mathlib.Core.Bool.{not}
use mathlib.Core.List.{◌++◌}
use native.Mathlib.Omega.{arith}
use borrow.Author.Tests.{ne_eqb}
use lib.Dec.{leb}
use lib.ListN.{drop}
use lib.Seq.{get_or-drop}
use Rattle.chain.specs.Class.{number_of}
use Rattle.chain.proofs.ChainLaws.{later-other, later-high, later-low}
use Rattle.chain.proofs.Table.{is_fragment}
use Rattle.chain.proofs.later_at.Goals as goal

pub returns-in_default : goal.returns-in_default
returns-in_default c = later-other _ _ (λ e. c.in_default.not-Fragment (is_fragment _ e))

pub returns-then-byte_of-ne0 : goal.returns-then-byte_of-ne0
returns-then-byte_of-ne0 c =
    let a = c.args in
    let l = a.front.now ++ a.tail.now in
    ap not (ne_eqb _ _ (λ z. c.if-byte_of-ne0.true z)) ∙ later-high (number_of a.class) (drop a.at l) (ap number_of c.in-Fragment.is) (λ e. omega (arith, c.byte_of.ensures ∙ sym (get_or-drop a.at l 2 0)))

pub returns-else-byte_of-ne0 : goal.returns-else-byte_of-ne0
returns-else-byte_of-ne0 c =
    let a = c.args in
    let l = a.front.now ++ a.tail.now in
    let e = c.byte_of.ensures ∙ sym (get_or-drop a.at l 2 0) in
    ap (leb 8) (c.byte_of-else-byte_of-ne0.ensures ∙ sym (get_or-drop a.at l 3 0)) ∙ later-low (number_of a.class) (drop a.at l) (ap number_of c.in-Fragment.is) (omega arith)
