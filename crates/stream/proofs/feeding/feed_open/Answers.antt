-- What type and length say of the bytes kept and given decides, one law a way out. Assumes nothing.
use native.Mathlib.Omega.{arith}
use mathlib.Core.Logic.{inl, inr}
use mathlib.Core.Path.{refl, sym}
use lib.Seq.{length-take-le}
use Rattle.stream.proofs.CodeLaws as Code
use Rattle.stream.proofs.feeding.feed_open.Goals as goal

pub slice_bounds-head_over-end-2 : goal.slice_bounds-head_over-end-2
slice_bounds-head_over-end-2 c = sym (length-take-le _ _ (omega (arith, c.requires.0.within, c.requires.0.room)))

pub overflow_add-left : goal.overflow_add-left
overflow_add-left c = let b = Code.bounds c.requires.0 c.args.bytes.now c.head_over.ensures c.in-Some.is in omega (arith, b.0, b.2)

pub overflow_sub-left : goal.overflow_sub-left
overflow_sub-left c = let b = Code.ends c.requires.0 c.args.bytes.now c.head_over.ensures c.in-Some.is (inl c.if-kind-gt3.true) in omega (arith, b)

pub pass_over-requires : goal.pass_over-requires
pass_over-requires c = (c.requires.0.live.size, c.requires.0.live.stopped)

pub returns-then-kind-gt3 : goal.returns-then-kind-gt3
returns-then-kind-gt3 c = Code.goes_other c.requires.0 c.args.bytes.now c.head_over.ensures c.in-Some.is c.if-kind-gt3.true _ refl c.pass_over.ensures

pub returns-then-length : goal.returns-then-length
returns-then-length c = Code.goes-long c.requires.0 c.args.bytes.now c.head_over.ensures c.in-Some.is c.if-kind-gt3.false c.if-length.true c.remember.ensures

pub overflow_add-end : goal.overflow_add-end
overflow_add-end c = let b = Code.bounds c.requires.0 c.args.bytes.now c.head_over.ensures c.in-Some.is in omega (arith, b.0, c.if-length.false)

pub overflow_sub-need : goal.overflow_sub-need
overflow_sub-need c = let b = Code.ends c.requires.0 c.args.bytes.now c.head_over.ensures c.in-Some.is (inr c.if-length.false) in omega (arith, b)

pub keep-requires-then-bytes-need : goal.keep-requires-then-bytes-need
keep-requires-then-bytes-need c = (c.requires.0.live, Code.lacks-fits c.requires.0 c.args.bytes.now c.head_over.ensures c.in-Some.is c.if-kind-gt3.false c.if-length.false c.if-bytes-need.true)

pub returns-then-bytes-need : goal.returns-then-bytes-need
returns-then-bytes-need c = Code.goes-lacks c.requires.0 c.args.bytes.now c.head_over.ensures c.in-Some.is c.if-kind-gt3.false c.if-length.false c.if-bytes-need.true c.keep-then-bytes-need.ensures

pub slice_bounds-hand_value-end-then-kind-eq0 : goal.slice_bounds-hand_value-end-then-kind-eq0
slice_bounds-hand_value-end-then-kind-eq0 c = sym (length-take-le _ _ (omega (arith, c.requires.0.within, c.requires.0.room)))

pub slice_bounds-hand_value-end-then-kind-eq0-2 : goal.slice_bounds-hand_value-end-then-kind-eq0-2
slice_bounds-hand_value-end-then-kind-eq0-2 c = sym (length-take-le _ _ (omega (arith, c.if-bytes-need.false)))

pub hand_value-n-requires : goal.hand_value-n-requires
hand_value-n-requires c = Code.value-fits c.requires.0 c.args.bytes.now c.head_over.ensures c.in-Some.is _ refl c.if-bytes-need.false c.if-length.false c.args.out.now c.requires.1

pub returns-then-kind-eq0 : goal.returns-then-kind-eq0
returns-then-kind-eq0 c = Code.goes-datagram c.requires.0 c.args.bytes.now c.head_over.ensures c.in-Some.is _ refl c.if-bytes-need.false c.if-length.false c.if-kind-eq0.true c.hand_value-n.ensures c.hand_out.ensures

pub slice_bounds-take_capsule-end : goal.slice_bounds-take_capsule-end
slice_bounds-take_capsule-end c = sym (length-take-le _ _ (omega (arith, c.if-bytes-need.false)))

pub returns-then-count-eq0 : goal.returns-then-count-eq0
returns-then-count-eq0 c = Code.goes-read c.requires.0 c.args.bytes.now c.head_over.ensures c.in-Some.is _ refl c.if-bytes-need.false c.if-length.false c.if-kind-eq0.false c.if-kind-gt3.false (Code.none_kept c.args.kept.now _ c.if-count-eq0.true) c.take_capsule-read.ensures c.settle.ensures

pub take_cut-read-requires : goal.take_cut-read-requires
take_cut-read-requires c = Code.whole-fits c.requires.0 c.args.bytes.now c.head_over.ensures c.in-Some.is _ refl c.if-bytes-need.false c.if-length.false

pub keep-requires : goal.keep-requires
keep-requires c = (c.requires.0.live, Code.cut_fits c.requires.0 c.args.bytes.now c.head_over.ensures c.in_default.is)

pub returns : goal.returns
returns c = Code.goes-read c.requires.0 c.args.bytes.now c.head_over.ensures c.in-Some.is _ refl c.if-bytes-need.false c.if-length.false c.if-kind-eq0.false c.if-kind-gt3.false refl c.take_cut-read.ensures c.settle-2.ensures

pub returns-in_default : goal.returns-in_default
returns-in_default c = Code.cut_keeps c.requires.0 c.args.bytes.now c.head_over.ensures c.in_default.is c.keep.ensures
