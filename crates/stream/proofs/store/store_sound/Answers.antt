-- One law a way out; a memory that is full holds no open capsule, since one keeps fewer bytes (`judged-full`). Assumes nothing.
use native.Mathlib.Omega.{arith}
use mathlib.Core.Path.{sym}
use borrow.Author.Tests.{le-ltb}
use lib.Seq.{length-take-le}
use Rattle.octets.specs.Big.{Bytes}
use Rattle.stream.proofs.StoreCases as Store
use Rattle.stream.proofs.store.store_sound.Goals as goal
use Rattle.stream.proofs.store.store_sound.Goals.{then-number-eq1-via-then-number-eq1, then-number-eq1-via-else-number-eq1+then-number-gt7}

pub returns-then-number-eq1 : goal.returns-then-number-eq1
returns-then-number-eq1 c =
    elim c.then-number-eq1.branch [
      | then-number-eq1-via-then-number-eq1 w ↦ Store.judged-one _ _ w.if-number-eq1.true
      | then-number-eq1-via-else-number-eq1+then-number-gt7 w ↦ Store.judged-over _ _ w.if-number-gt7.true
    ]

pub returns-then-count : goal.returns-then-count
returns-then-count c = let h : Bytes c.args.kept.now = λ i. omega (arith, c.type_inv.kept i) in Store.judged-full _ _ c.requires.1 c.if-number-eq1.false c.if-number-gt7.false c.if-skip-gt0.false h c.if-count.true

pub slice_bounds-is_open-end : goal.slice_bounds-is_open-end
slice_bounds-is_open-end c = sym (length-take-le _ _ (omega (arith, c.requires.1, c.if-count.false)))

pub is_open-requires : goal.is_open-requires
is_open-requires c = c.requires.2 c.if-count.false

pub returns : goal.returns
returns c = Store.judged_open _ _ c.requires.1 c.if-number-eq1.false c.if-number-gt7.false c.if-skip-gt0.false c.if-count.false c.is_open.ensures

pub returns-then-skip-lt-NUMBER_LIMIT : goal.returns-then-skip-lt-NUMBER_LIMIT
returns-then-skip-lt-NUMBER_LIMIT c = Store.judged-skip _ _ c.requires.1 c.if-number-eq1.false c.if-number-gt7.false c.if-skip-gt0.true c.if-skip-lt-NUMBER_LIMIT.true

pub returns-else-skip-lt-NUMBER_LIMIT : goal.returns-else-skip-lt-NUMBER_LIMIT
returns-else-skip-lt-NUMBER_LIMIT c = rw (le-ltb _ _ c.if-skip-lt-NUMBER_LIMIT.false) (Store.judged_far _ _ c.requires.1 c.if-number-eq1.false c.if-number-gt7.false c.if-skip-gt0.true c.if-skip-lt-NUMBER_LIMIT.false)
