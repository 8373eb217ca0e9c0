-- The records up to the place are answered, and the place grows by one with each turn (`Passing`); each leaves a sound memory sound.
use Rattle.van_box.proofs.Passing.{passing-none, passing-more, size_none, closed}
use Rattle.van_box.proofs.SoundStates.{passed-sound}
use Rattle.van_box.specs.Records.{memory}
use mathlib.Core.Path.{refl, ◌∙◌}
use native.Mathlib.Omega.{arith}
use borrow.Author.Rules.{rules}
use Rattle.van_box.proofs.answer_records.Goals as goal

pub loop-output-init : goal.loop-output-init
loop-output-init g c =
    let m = memory c.args.state.now c.args.kept.now in
    (passing-none m c.args.bytes.now _ c.args.out.now refl, c.requires.record_room_in_bounds, refl, c.requires.sound)

pub answer_record-output-requires : goal.answer_record-output-requires
answer_record-output-requires g c =
    let i = c.loop-output.invariant in
    record { state_len = i.3.lent.words; record_room_in_bounds = search rules; body_len_bound = search rules }

pub loop-output-preserved : goal.loop-output-preserved
loop-output-preserved g c =
    let k = c.answer_record-output in
    let w = c.with_room-room in
    let i = c.loop-output.invariant in
    let p = passing-more i.0 c.record_size-n.ensures c.if-n-lt-RECORD_HEAD.false w.ensures k.ensures in (
      p,
      omega arith,
      k.auto.out ∙ w.auto.out ∙ i.2,
      passed-sound (λ j. omega (arith, c.type_inv.bytes j)) c.requires.sound p.passed,
    )

pub returns-after-loop-output : goal.returns-after-loop-output
returns-after-loop-output g c = let i = c.loop-output.invariant in record { records = i.0; all = closed _ c.loop-output-test.false; sound = i.3 }

pub returns-then-n-lt-RECORD_HEAD : goal.returns-then-n-lt-RECORD_HEAD
returns-then-n-lt-RECORD_HEAD g c =
    let i = c.loop-output.invariant in
    record { records = i.0; all = λ e. size_none _ _ c.record_size-n.ensures c.if-n-lt-RECORD_HEAD.true; sound = i.3 }
