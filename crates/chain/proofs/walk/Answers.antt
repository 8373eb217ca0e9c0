-- What is left of the chain is all of it (`Walking`), and each header takes 8 bytes at least. Assumes nothing.
use mathlib.Core.Path.{◌≡◌, refl, sym, ap, ◌∙◌}
use mathlib.Core.List.{List, ◌++◌}
use Prim.Native.Nat.{ℕ, ◌+◌, ◌*◌, ◌≤◌, ◌<◌}
use native.Mathlib.Omega.{arith}
use lib.ListN.{length, get_or, drop, length-append}
use mathlib.Core.Bool.{true, false, not}
use denote.Enum.Bare.{sameb}
use Rattle.chain.specs.contracts.class.Class.{the_type}
use Rattle.chain.specs.declared.class.Class.{Class}
use Rattle.chain.specs.declared.class.Class.TheVariants.{Plain, Fragment, Fours, Eights}
use Rattle.chain.specs.Chain.{plain}
use Rattle.chain.specs.Class.{number_of}
use Rattle.chain.proofs.ClassRule.{class_read}
use Rattle.chain.proofs.ChainLaws.{size-least, walk-starts, walk-plain, walk-past, walk-later, walk-next, walk-counted}
use borrow.Author.Rules.{rules}
use Rattle.chain.proofs.walk.Goals as goal
use Rattle.chain.proofs.walk.Goals.{After-shared_slice_known-in-loop-step-1, In-loop-step, Start}

-- the packet
abbrev P : Start → List ℕ
P s = s.args.front.now ++ s.args.tail.now

joined : (s : Start) → length (P s) ≡ length s.args.front.now + length s.args.tail.now
joined s = length-append s.args.front.now s.args.tail.now

-- the test of the second loop, in numbers
goes-on : (c : Class) → true ≡ not (sameb the_type c Plain) → number_of c ≡ plain → ⊥
goes-on Plain t e = cc
goes-on Fragment t e = omega arith
goes-on Fours t e = omega arith
goes-on Eights t e = omega arith

ends : (c : Class) → false ≡ not (sameb the_type c Plain) → number_of c ≡ plain
ends Plain t = refl
ends Fragment t = cc
ends Fours t = cc
ends Eights t = cc

pub loop-step-init : goal.loop-step-init
loop-step-init c =
    ((c.classes-classes.ensures, search rules), (c.quads_in-step.ensures, walk-starts (P (goal.at.loop-step-init c).Start) _ (omega (arith, joined (goal.at.loop-step-init c).Start)) (class_read c.classes-classes.ensures _ (omega arith) refl)))

-- the header lies in the front
lies : (c : In-loop-step) → 40 + 4 * (c.loop-step.quads + c.loop-step.step) ≤ length c.args.front.now
lies c = c.loop-step.invariant.1.0.within (omega arith)

-- its number is a byte
number-byte : (c : After-shared_slice_known-in-loop-step-1) → get_or c.args.front.now (40 + 4 * c.loop-step.quads) 0 < 256
number-byte c = omega (arith, c.type_inv.front (40 + 4 * c.loop-step.quads))

pub overflow_mul-number : goal.overflow_mul-number
overflow_mul-number c = omega (arith, lies c)

pub overflow_add-number : goal.overflow_add-number
overflow_add-number c = omega (arith, lies c)

pub bounds-front-quads : goal.bounds-front-quads
bounds-front-quads c = omega (arith, lies (goal.at.bounds-front-quads c).In-loop-step)

pub overflow_add-quads : goal.overflow_add-quads
overflow_add-quads c = omega (arith, lies (goal.at.overflow_add-quads c).In-loop-step)

pub overflow_cast-class-in-loop-step : goal.overflow_cast-class-in-loop-step
overflow_cast-class-in-loop-step c = record { fits = omega (arith, c.type_inv.front (40 + 4 * c.loop-step.quads)) }

pub bounds-classes-number : goal.bounds-classes-number
bounds-classes-number c = omega (arith, c.type_inv.front (40 + 4 * c.loop-step.quads))

pub quads_in-step-requires-in-loop-step : goal.quads_in-step-requires-in-loop-step
quads_in-step-requires-in-loop-step c = lies (goal.at.quads_in-step-requires-in-loop-step c).In-loop-step

pub loop-step-smaller : goal.loop-step-smaller
loop-step-smaller c = omega (arith, lies (goal.at.loop-step-smaller c).In-loop-step)

pub loop-step-preserved : goal.loop-step-preserved
loop-step-preserved c =
    let i = c.loop-step.invariant.1.0 in
    let h = i.size (omega arith) in
    let n = ap (λ (j : ℕ). number_of c.loop-step.class * get_or c.args.front.now j 0) (let e : 41 + 4 * c.loop-step.quads ≡ 40 + 4 * c.loop-step.quads + 1 = omega arith in e) in (
      (c.loop-step.invariant.0.0, lies (goal.at.loop-step-preserved c).In-loop-step),
      (
        c.quads_in-step-in-loop-step.ensures,
        walk-counted c.args.front.now c.args.tail.now _ c.loop-step.invariant.1.1 (i.kind (omega arith)) (omega (arith, lies (goal.at.loop-step-preserved c).In-loop-step, n, h)) (class_read c.loop-step.invariant.0.0 _ (omega (arith, number-byte (goal.at.loop-step-preserved c).After-shared_slice_known-in-loop-step-1)) refl) (omega (arith, n, h)),
      ),
    )

pub overflow_mul-at : goal.overflow_mul-at
overflow_mul-at c = omega (arith, c.loop-step.invariant.0.1)

pub overflow_add-at : goal.overflow_add-at
overflow_add-at c = omega (arith, c.loop-step.invariant.0.1)

pub loop-classes-init : goal.loop-classes-init
loop-classes-init c = (c.loop-step.invariant.0.0, c.loop-step.invariant.1.1)

pub size_at-size-requires : goal.size_at-size-requires
size_at-size-requires c = omega (arith, c.loop-classes.invariant.1.within, joined (goal.at.size_at-size-requires c).Start)

pub overflow_sub-end : goal.overflow_sub-end
overflow_sub-end c = omega (arith, c.loop-classes.invariant.1.within, joined (goal.at.overflow_sub-end c).Start)

pub returns-then-end-at : goal.returns-then-end-at
returns-then-end-at c =
    walk-past (P (goal.at.returns-then-end-at c).Start) _ c.loop-classes.invariant.1 (goes-on _ c.loop-classes-test.ensures) (omega (arith, c.size_at-size.ensures, joined (goal.at.returns-then-end-at c).Start))

pub later_at-requires : goal.later_at-requires
later_at-requires c = omega (arith, c.loop-classes.invariant.1.within, joined (goal.at.later_at-requires c).Start)

pub returns-then-later_at : goal.returns-then-later_at
returns-then-later_at c =
    walk-later (P (goal.at.returns-then-later_at c).Start) _ c.loop-classes.invariant.1 (goes-on _ c.loop-classes-test.ensures) (omega (arith, c.size_at-size.ensures, joined (goal.at.returns-then-later_at c).Start)) (sym c.later_at.ensures ∙ c.if-later_at.true)

pub overflow_add-at-in-loop-classes : goal.overflow_add-at-in-loop-classes
overflow_add-at-in-loop-classes c = omega (arith, c.loop-classes.invariant.1.within, joined (goal.at.overflow_add-at-in-loop-classes c).Start)

pub loop-classes-smaller : goal.loop-classes-smaller
loop-classes-smaller c =
    omega (arith, c.size_at-size.ensures, size-least (number_of c.loop-classes.class) (drop c.loop-classes.at (P (goal.at.loop-classes-smaller c).Start)), joined (goal.at.loop-classes-smaller c).Start)

pub loop-classes-preserved : goal.loop-classes-preserved
loop-classes-preserved c =
    let z = c.size_at-size.ensures in
    (c.loop-classes.invariant.0, walk-next (P (goal.at.loop-classes-preserved c).Start) _ c.loop-classes.invariant.1 (goes-on _ c.loop-classes-test.ensures) (omega (arith, z, joined (goal.at.loop-classes-preserved c).Start)) (sym c.later_at.ensures ∙ c.if-later_at.false) c.byte_of-number.ensures z (class_read c.loop-classes.invariant.0 _ (omega arith) refl))

pub returns : goal.returns
returns c = walk-plain (P (goal.at.returns c).Start) _ c.loop-classes.invariant.1 (ends _ c.loop-classes-test.ensures)
