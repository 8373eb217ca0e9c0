-- A refused frame, or a frame whose value lies within the bytes and decides.
use Rattle.std.proofs.Common.{Result}
use native.Mathlib.Omega.{arith}
use mathlib.Core.Path.{sym, ap, ◌∙◌}
use Rattle.answer.specs.declared.Refusal.{Refusal}
use Rattle.answer.proofs.Passing.{passed_on}
use Rattle.capsule.specs.Results.{judged_found}
use Rattle.capsule.proofs.ValueCases as Value
use Rattle.exchange.proofs.ReadCases as Read
use Rattle.exchange.proofs.reading.take_capsule.Goals as goal
use Rattle.exchange.proofs.reading.take_capsule.Goals.{In_ok-found}

-- the capsule that its frame found
found : (c : In_ok-found) → Value.Found c.args.bytes.now c.args.at c.in_ok-found.found
found c = Value.found _ _ _ (sym c.in_ok-found.was ∙ c.frame.ensures)

pub slice_bounds-take_value-count : goal.slice_bounds-take_value-count
slice_bounds-take_value-count c = omega (arith, Value.start-within (found (goal.at.slice_bounds-take_value-count c).In_ok-found))

pub slice_bounds-take_value-start : goal.slice_bounds-take_value-start
slice_bounds-take_value-start c = omega (arith, Value.start-within (found (goal.at.slice_bounds-take_value-start c).In_ok-found))

pub slice_bounds-take_value-end : goal.slice_bounds-take_value-end
slice_bounds-take_value-end c = Value.next-within (found (goal.at.slice_bounds-take_value-end c).In_ok-found)

pub returns : goal.returns
returns c =
    Read.read_taken _ _ _ _ (found (goal.at.returns c).In_ok-found) c.take_value.ensures
    (ap (λ (v : Result Unit Refusal). judged_found v c.in_ok-found.found) (sym c.in_ok-take_value.was))

pub returns-in_err-take_value : goal.returns-in_err-take_value
returns-in_err-take_value c =
    Read.read_taken _ _ _ _ (found (goal.at.returns-in_err-take_value c).In_ok-found) c.take_value.ensures
    (passed_on _ _ c.from_residual-in_err-take_value.ensures.1 ∙ ap (λ (v : Result Unit Refusal). judged_found v c.in_ok-found.found) (sym c.in_err-take_value.was))

pub returns-in_err-found : goal.returns-in_err-found
returns-in_err-found c = rw (passed_on _ _ c.from_residual.ensures.1) (Read.read-refused _ _ _ _ (sym c.frame.ensures ∙ c.in_err-found.was))
