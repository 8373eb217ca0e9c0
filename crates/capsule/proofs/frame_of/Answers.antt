-- Each return is a case of `frame_of` by the head: type and length, whose value starts within the bytes, or not all of them.
use Rattle.std.specs.Result.{result_ok}
use mathlib.Core.Path.{sym, ap, ◌∙◌}
use Rattle.answer.proofs.Passing.{passed_on, lacking}
use Rattle.capsule.proofs.HeadLaws.{frame-known, frame-cut}
use Rattle.capsule.proofs.frame_of.Goals as goal

pub frame_at-requires : goal.frame_at-requires
frame_at-requires c = (rw (c.ok_or.ensures.ok_part ∙ ap result_ok c.in_ok-head.was) at c.read_head.ensures.within).1

pub returns : goal.returns
returns c = c.frame_at.ensures ∙ sym (frame-known _ _ _ _ (sym c.read_head.ensures.reading ∙ (c.ok_or.ensures.ok_part ∙ ap result_ok c.in_ok-head.was)))

pub returns-in_err-head : goal.returns-in_err-head
returns-in_err-head c =
    let l = lacking _ _ _ c.in_err-head.ensures.value in
    rw (passed_on _ _ c.from_residual.ensures.1, l.1) (sym (frame-cut _ (sym c.read_head.ensures.reading ∙ l.0)))
