-- What `?` hands on: the refusal of the call before it, or the one that `ok_or` names. Assumes nothing.
use Rattle.std.proofs.Common.{◌≡◌, ℕ, refl, ap, ◌∙◌, sym, Option, Some, None, Result, Ok, Err, arith}
use Rattle.std.specs.Option.{ok_or}
use Rattle.std.specs.Result.{IsErrAnd}
use Rattle.std.proofs.lemmas.Result.{err_from_is_err_and}
use Rattle.answer.specs.declared.Refusal.{Refusal}

-- the refusal itself
pub passed_on : {A : Type 0} (r : Result A Refusal) (why : Refusal) → IsErrAnd r (λ x. x ≡ why) → r ≡ Err why
passed_on r why h = let p = err_from_is_err_and r h in p.1 ∙ ap Err p.2

-- where `ok_or` refuses there is no value, and the refusal is the one that it was given
pub lacking : {A : Type 0} (o : Option A) (r why : Refusal) → Err r ≡ ok_or o why → (o ≡ None) × (r ≡ why)
lacking None r why e = (refl, cc)
lacking (Some x) r why e = let z : ◌≡◌ {A = ℕ} 0 1 = cc in absurd (omega arith)
