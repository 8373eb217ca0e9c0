-- A refused frame is the answer; of a frame that was found the value lies within the bytes, and its verdict decides.
use native.Mathlib.Omega.{arith}
use mathlib.Core.Path.{sym, ◌∙◌}
use Rattle.answer.proofs.Passing.{passed_on}
use Rattle.capsule.proofs.ValueCases as Value
use Rattle.capsule.proofs.read.Goals as goal
use Rattle.capsule.proofs.read.Goals.{In_ok-found}

-- the capsule that its frame found
found : (c : In_ok-found) → Value.Found c.args.bytes.now c.args.at c.in_ok-found.found
found c = Value.found _ _ _ (sym c.in_ok-found.was ∙ c.frame.ensures)

pub slice_bounds-value_verdict-count : goal.slice_bounds-value_verdict-count
slice_bounds-value_verdict-count c = omega (arith, Value.start-within (found (goal.at.slice_bounds-value_verdict-count c).In_ok-found))

pub slice_bounds-value_verdict-start : goal.slice_bounds-value_verdict-start
slice_bounds-value_verdict-start c = omega (arith, Value.start-within (found (goal.at.slice_bounds-value_verdict-start c).In_ok-found))

pub slice_bounds-value_verdict-end : goal.slice_bounds-value_verdict-end
slice_bounds-value_verdict-end c = Value.next-within (found (goal.at.slice_bounds-value_verdict-end c).In_ok-found)

pub returns : goal.returns
returns c = Value.found-read (found (goal.at.returns c).In_ok-found) (sym c.value_verdict.ensures ∙ c.in_ok-value_verdict.was)

pub returns-in_err-value_verdict : goal.returns-in_err-value_verdict
returns-in_err-value_verdict c =
    rw (passed_on _ _ c.from_residual-in_err-value_verdict.ensures.1)
    (Value.found-fault (found (goal.at.returns-in_err-value_verdict c).In_ok-found) _ (sym c.value_verdict.ensures ∙ c.in_err-value_verdict.was))

pub returns-in_err-found : goal.returns-in_err-found
returns-in_err-found c = rw (passed_on _ _ c.from_residual.ensures.1) (Value.frame_refused _ _ _ (sym c.frame.ensures ∙ c.in_err-found.was))
