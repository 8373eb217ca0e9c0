-- The version tells which form is asked for; in IPv6, the number of the first header whether there is a chain to walk. Assumes nothing.
use mathlib.Core.Path.{◌≡◌, refl, sym, ◌∙◌}
use mathlib.Core.Bool.{Bool, true}
use mathlib.Core.List.{List, ◌++◌}
use Prim.Native.Nat.{ℕ, ◌+◌}
use lib.ListN.{length}
use native.Mathlib.Omega.{arith}
use borrow.Author.Tests.{eqb-true, not-false}
use Rattle.inet.specs.Packet.{fixed6}
use Rattle.inet.specs.Fronts.{Tells}
use Rattle.inet.proofs.CarriedLaws.{carried_4-bad, carried_4, carried_6-bad, fixed-inside, carried_6, carried_6-plain, carried_other}
use Rattle.inet.proofs.packet.carried.Goals as goal

fixed : {front : List ℕ} {b : Bool} (tail : List ℕ) → Tells fixed6 front (length front + length tail) b → b ≡ true → fixed6 (front ++ tail) ≡ true
fixed tail t e = sym (t.told tail refl) ∙ e

pub returns-then-ipv4_form : goal.returns-then-ipv4_form
returns-then-ipv4_form c =
    carried_4 c.args.front.now c.args.tail.now c.requires (omega arith) (sym (c.ipv4_form.ensures.told c.args.tail.now refl) ∙ c.if-ipv4_form.true) c.byte_at.ensures

pub returns-else-ipv4_form : goal.returns-else-ipv4_form
returns-else-ipv4_form c =
    carried_4-bad c.args.front.now c.args.tail.now c.requires (omega arith) (sym (c.ipv4_form.ensures.told c.args.tail.now refl) ∙ c.if-ipv4_form.false)

pub returns-then-not-ipv6_fixed : goal.returns-then-not-ipv6_fixed
returns-then-not-ipv6_fixed c =
    carried_6-bad c.args.front.now c.args.tail.now c.requires (omega arith) (sym (c.ipv6_fixed.ensures.0.told c.args.tail.now refl) ∙ c.if-not-ipv6_fixed.true)

pub walk-requires : goal.walk-requires
walk-requires c =
    (fixed-inside c.args.front.now c.args.tail.now c.requires (omega arith) (fixed c.args.tail.now c.ipv6_fixed.ensures.0 c.if-not-ipv6_fixed.false), c.ipv6_fixed.ensures.1 (c.if-not-ipv6_fixed.false))

pub returns-then-is_extension : goal.returns-then-is_extension
returns-then-is_extension c =
    carried_6 c.args.front.now c.args.tail.now c.requires (omega arith) (fixed c.args.tail.now c.ipv6_fixed.ensures.0 c.if-not-ipv6_fixed.false) c.byte_at-first.ensures c.walk.ensures

pub returns-else-is_extension : goal.returns-else-is_extension
returns-else-is_extension c =
    carried_6-plain c.args.front.now c.args.tail.now c.requires (omega arith) (fixed c.args.tail.now c.ipv6_fixed.ensures.0 c.if-not-ipv6_fixed.false) c.byte_at-first.ensures (eqb-true _ _ (not-false _ (sym c.is_extension.ensures ∙ c.if-is_extension.false)))

pub returns-in_default : goal.returns-in_default
returns-in_default c =
    carried_other c.args.front.now c.args.tail.now c.requires (λ e. grind arith) (λ e. grind arith)
