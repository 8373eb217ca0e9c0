-- The packet is judged as a front with nothing behind it, and then copied. Assumes nothing.
use Rattle.std.proofs.Common.{Result}
use mathlib.Core.Path.{◌≡◌, ap, ◌∙◌}
use mathlib.Core.Bool.{false}
use mathlib.Core.List.{List, ◌++◌}
use Prim.Native.Nat.{ℕ}
use native.Mathlib.Omega.{arith}
use Rattle.answer.specs.declared.Refusal.{Refusal}
use Rattle.answer.proofs.Passing.{passed_on}
use Rattle.answer.specs.Verdict.{first_of}
use Rattle.inet.proofs.CarriedLaws.{Rest, alone, alone_parted}
use Rattle.state.specs.State.{State}
use Rattle.tunnel.specs.Tunnel.{packet_tests}
use Rattle.tunnel.specs.Judging.{judge_tests}
use Rattle.tunnel.proofs.JudgingLaws.{judged-received}
use Rattle.tunnel.proofs.ReceivingSteps.{judged-stop, judged-copied}
use Rattle.tunnel.proofs.receiving.take_in.Goals as goal

judged : (s : State) (p : List ℕ) {v : Result Unit Refusal} → v ≡ first_of (judge_tests false s (p ++ Rest p)) → v ≡ first_of (packet_tests s p)
judged s p e = e ∙ ap (λ (q : List ℕ). first_of (judge_tests false s q)) (alone p) ∙ judged-received s p

pub judge-requires : goal.judge-requires
judge-requires c = (c.requires.sound, alone_parted c.args.inner.now (omega arith))

pub returns-in_err-judge : goal.returns-in_err-judge
returns-in_err-judge c =
    rw (passed_on _ _ c.from_residual.ensures.1) (judged-stop _ _ (judged _ c.args.inner.now c.judge.ensures) c.in_err-judge.was)

pub returns : goal.returns
returns c =
    judged-copied _ _ (judged _ c.args.inner.now c.judge.ensures) c.in_ok-judge.was c.copy.ensures.value c.copy.ensures.dst_after
