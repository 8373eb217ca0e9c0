-- Calls come to their end: what is left is handed in again until all is taken, and after a refusal every call repeats it. Assumes nothing.
use Rattle.std.proofs.Common.{Result, Ok, Err}
use Prim.Native.Nat.{ℕ, suc, ◌-◌, ◌≤◌, ◌<◌}
use mathlib.Core.Path.{◌≡◌, refl, sym, ap, ◌∙◌}
use mathlib.Core.List.{List, [], ◌++◌, append-nil, flatten}
use mathlib.Core.Logic.{inl, inr, ⊎_elim}
use native.Mathlib.Omega.{arith}
use lib.ListN.{length, drop, length-drop}
use lib.Seq.{take_all}
use Rattle.answer.specs.declared.Refusal.{Refusal}
use Rattle.answer.proofs.Tests.{order}
use Rattle.octets.specs.Big.{Bytes}
use Rattle.octets.proofs.BigLaws.{bytes_drop}
use Rattle.capsule.specs.Capsules.{Capsule}
use Rattle.state.specs.State.{state_in}
use Rattle.stream.specs.declared.feeding.Piece.{Piece}
use Rattle.stream.specs.Feeding.{store_in, call_by, taken_by}
use Rattle.stream.specs.Runs.{Ready, seen, Calls, no_call, call, Through, Repeats}
use Rattle.stream.proofs.FeedLaws.{call-follows}
use Rattle.stream.proofs.CallLaws.{append_none, repeats}

-- ---- after a refusal

pub calls_repeat : {w held left : List ℕ} {ps : List (List ℕ)} {handed : List Capsule} {later holds rest : List ℕ}
    → Calls w held left ps handed later holds rest → Ready w held → (why : Refusal) → (store_in w held).stopped ≡ Err why
    → Repeats w held handed later holds
calls_repeat no_call k why e = record { none = refl; state = refl; bytes = refl }
calls_repeat (call {w} {held} {r = r} {mid} {now} {after} {list} {handed = handed} room x next) k why e =
    let q = repeats x k room why e in
    let a : mid ≡ w = q.untouched.state in
    let b : now ≡ held = q.untouched.bytes in
    let n = calls_repeat next (rw (a, b) k) why (rw a e) in
    record {
      none = ap (λ (y : Result Piece Refusal). seen (call_by y) after list (state_in mid) ++ handed) q.answer ∙ n.none;
      state = n.state ∙ a;
      bytes = n.bytes ∙ b;
    }

-- ---- to the end

shorter : (a b n m : ℕ) → b ≡ a → a ≤ suc m → (0 < b → 0 < n) → b - n ≤ m
shorter a b n m e h f = ⊎_elim (λ i. omega (arith, f i)) (λ i. omega arith) (order 0 b)

-- a call takes a byte at least, or refuses: as many calls as there are bytes left are enough
pub calls_through : {w held left : List ℕ} {ps : List (List ℕ)} {handed : List Capsule} {later holds rest : List ℕ}
    → Calls w held left ps handed later holds rest → Ready w held → Bytes left → flatten ps ≡ [] → length left ≤ length ps
    → Through later holds rest
unfolding flatten
calls_through (no_call {left = left}) k b e h = inl (sym (take_all 0 left h))
calls_through (call {left = left} {p} {r = r} {mid} {now} {ps = ps} {later = later} {holds} {rest} room x next) k b e h =
    let z = append_none p (flatten ps) e in
    let same : left ++ p ≡ left = ap (λ (y : List ℕ). left ++ y) z.0 ∙ append-nil left in
    let bs : Bytes (left ++ p) = rw same b in
    let c = call-follows x k room bs in
    let after = bytes_drop (taken_by r) (left ++ p) bs in
    of (store_in mid now).stopped refl c.ready (ap length same) c.moves (λ l. calls_through next c.ready after z.1 l)
  where
    of : (v : Result Unit Refusal) → (store_in mid now).stopped ≡ v → Ready mid now → length (left ++ p) ≡ length left
        → (0 < length (left ++ p) → (store_in mid now).stopped ≡ Ok tt → 0 < taken_by r)
        → (length (drop (taken_by r) (left ++ p)) ≤ length ps → Through later holds rest) → Through later holds rest
    of (Ok _) g ready same moves more =
        more (simp length-drop (shorter (length left) (length (left ++ p)) (taken_by r) (length ps) same h (λ i. moves i g)))
    of (Err why) g ready same moves more =
        let q = calls_repeat next ready why g in
        inr (λ i.
        let y : Err why ≡ (Ok tt) = sym g ∙ ap (λ (s : List ℕ). (store_in s now).stopped) (sym q.state) ∙ i in
        let o : ◌≡◌ {A = ℕ} 0 1 = cc in omega arith)
