-- Walking down a table of refusals, and what an `Ok` at its end says. Assumes nothing.
use Rattle.std.proofs.Common.{Result, Ok, Err}
use Prim.Native.Nat.{ℕ, zero, suc, ◌<◌}
use native.Mathlib.Nat.{not-suc-le-zero, le_of_suc-le-suc}
use native.Mathlib.Omega.{arith}
use mathlib.Core.Path.{◌≡◌, refl}
use mathlib.Core.Bool.{Bool, true, false}
use mathlib.Core.List.{List, [], ◌∷◌}
use lib.ListN.{length, get_or}
use Rattle.answer.specs.declared.Refusal.{Refusal}
use Rattle.answer.specs.Number.{answer_number, number_of_positive}
use Rattle.answer.specs.Verdict.{Test, stop_if, first_of, answer_of, ◌then◌}

-- one step along a table
pub stops : (b : Bool) (r : Refusal) (v : Result Unit Refusal) → b ≡ true → stop_if b r v ≡ Err r
stops true r v e = refl
stops false r v e = cc

pub passes : (b : Bool) (r : Refusal) (v : Result Unit Refusal) → b ≡ false → stop_if b r v ≡ v
passes true r v e = cc
passes false r v e = refl

-- an `Ok` says that the test failed, and that what follows is an `Ok`
pub go_test : (b : Bool) (r : Refusal) (v : Result Unit Refusal) → stop_if b r v ≡ Ok tt → b ≡ false
go_test true r v e = let z : true ≡ false = cc in z
go_test false r v e = refl

pub go-rest : (b : Bool) (r : Refusal) (v : Result Unit Refusal) → stop_if b r v ≡ Ok tt → v ≡ Ok tt
go-rest true r v e = cc
go-rest false r v e = e

-- `Ok` says that every test of the table failed
pub go-at : (ts : List Test) (d : Test) (k : ℕ) → first_of ts ≡ Ok tt → k < length ts → (get_or ts k d).holds ≡ false
go-at [] d k g h = absurd (not-suc-le-zero h)
go-at (t ∷ ts) d zero g h = go_test t.holds t.why (first_of ts) g
go-at (t ∷ ts) d (suc k) g h = go-at ts d k (go-rest t.holds t.why (first_of ts) g) (le_of_suc-le-suc h)

-- only `Ok` answers with a length
pub done-go : (v : Result Unit Refusal) (m n : ℕ) → answer_of v m ≡ Ok n → v ≡ Ok tt
done-go (Ok _) m n e = refl
done-go (Err r) m n e = cc

pub done-count : (v : Result Unit Refusal) (m n : ℕ) → answer_of v m ≡ Ok n → m ≡ n
done-count (Ok _) m n e = cc
done-count (Err r) m n e = cc

-- two verdicts one after the other are an `Ok` where both are
pub then_first : (v w : Result Unit Refusal) → (v then w) ≡ Ok tt → v ≡ Ok tt
then_first (Ok _) w e = refl
then_first (Err r) w e = e

pub then_second : (v w : Result Unit Refusal) → (v then w) ≡ Ok tt → w ≡ Ok tt
then_second (Ok _) w e = e
then_second (Err r) w e = cc

-- only `Ok` is answered with 0
pub zero_go : (v : Result Unit Refusal) (n : ℕ) → answer_number (answer_of v n) ≡ 0 → v ≡ Ok tt
zero_go (Ok _) n e = refl
zero_go (Err r) n e = absurd (omega (arith, number_of_positive r))
