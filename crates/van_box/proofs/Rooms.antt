-- Room in the output for what an answer says was written behind its head. Assumes nothing.
use Rattle.std.proofs.Common.{Result, Ok, Err, ℕ}
use Prim.Native.Nat.{ℕ, ◌+◌, ◌-◌, ◌≤◌}
use mathlib.Core.Path.{◌≡◌}
use mathlib.Core.List.{List}
use native.Mathlib.Omega.{arith}
use lib.ListN.{length, take, drop, length-append, length-take, length-drop}
use borrow.Rule.Slice.PartMut.{put_mid, same_len_mid}
use Rattle.answer.specs.declared.Refusal.{Refusal}
use Rattle.answer.specs.Number.{answer_length}
use Rattle.answer.specs.Verdict.{answer_of, output_of, Writes}

-- what an answer says was written lies within the output
output-within : (v : Result Unit Refusal) (m a : List ℕ) → answer_length (answer_of v (length m)) ≤ length (output_of v m a)
output-within (Ok _) m a = omega (arith, length-append m (drop (length m) a))
output-within (Err r) m a = omega arith

answered-within : {v : Result Unit Refusal} {m a b : List ℕ} {r : Result ℕ Refusal} → Writes v m a r b → answer_length r ≤ length b
answered-within {v} {m} {a} {b} {r} w = rw (w.answer, w.output) (output-within v m a)

-- `&mut out[start..]` was lent to a function that writes, and came back as b
pub answer-room : (out : List ℕ) (start : ℕ) {v : Result Unit Refusal} {m b : List ℕ} {r : Result ℕ Refusal} → start ≤ length out
    → Writes v m (take (length out - start) (drop start out)) r b → length b ≡ length (take (length out - start) (drop start out))
    → start + answer_length r ≤ length (put_mid start (length out - start) out b)
answer-room out start {b = b} h w k =
    let l : length (take (length out - start) (drop start out)) ≡ length out - start = simp (length-take, length-drop) (omega arith) in
    omega (arith, answered-within w, same_len_mid start (length out - start) out b k)
