-- The packet is judged in its two parts, and then both are copied. Assumes nothing.
use mathlib.Core.Path.{◌∙◌}
use native.Mathlib.Omega.{arith}
use Rattle.answer.proofs.Passing.{passed_on}
use Rattle.output.proofs.Placing.{put_then}
use Rattle.tunnel.proofs.JudgingLaws.{judged-received}
use Rattle.tunnel.proofs.ReceivingSteps.{judged-stop, judged-put}
use Rattle.tunnel.proofs.receiving.take_joined.Goals as goal

pub judge-requires : goal.judge-requires
judge-requires c =
    (c.requires.sound, record { short = omega (arith, c.requires.room); header = c.requires.header })

pub returns-in_err-judge : goal.returns-in_err-judge
returns-in_err-judge c =
    rw (passed_on _ _ c.from_residual.ensures.1) (judged-stop _ _ (c.judge.ensures ∙ judged-received _ _) c.in_err-judge.was)

pub returns : goal.returns
returns c =
    judged-put _ _ (c.judge.ensures ∙ judged-received _ _) c.in_ok-judge.was (put_then c.put_bytes-n.ensures c.put_bytes.ensures)
