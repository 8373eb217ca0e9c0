-- Laws of walking: a capsule is handed back and the walk goes on behind it, a refusal leaves the place, and at the end the answer is 1.
-- So a buffer of written capsules gives each of them in order. Assumes nothing.
use Rattle.std.proofs.Common.{Result, Ok, Err}
use Prim.Native.Nat.{ℕ, suc, ◌+◌, ◌-◌, ◌≤◌}
use mathlib.Core.Path.{◌≡◌, refl, sym, ap, ◌∙◌}
use mathlib.Core.List.{List, [], ◌∷◌, ◌++◌, append_assoc, append-nil}
use native.Mathlib.Nat.{zero-add}
use native.Mathlib.Omega.{arith}
use lib.ListN.{length, drop, length-append, drop_of_length-le}
use lib.Seq.{drop-append_seam, drop-drop}
use Rattle.answer.specs.declared.Refusal.{Refusal}
use Rattle.answer.specs.declared.Refusal.TheVariants.{Incomplete}
use Rattle.answer.specs.Number.{answer_number}
use Rattle.capsule.specs.declared.CapsuleRead.{CapsuleRead}
use Rattle.capsule.specs.Capsules.{Capsule, Reading, kind_of, refused, capsule, read_capsule, frame_of, value_of, capsule_bytes}
use Rattle.capsule.specs.Results.{found_at, result_at, read_at}
use Rattle.capsule.specs.Sound.{value_start}
use Rattle.capsule.proofs.RoundTrip.{read-written, length_capsule}
use Rattle.varint.specs.Numbers.{read_number}
use Rattle.walker.specs.declared.RefusedAt.{RefusedAt}
use Rattle.walker.specs.Walk.{refused_at, placed, reading_at, next_of, walk, capsules_bytes, found_all, AllWritable}

-- ---- one reading

-- a reading stays where it is, or goes on behind the capsule
module _ (n : ℕ) (s : List ℕ) (at : ℕ) where
  walk-read : (r : Result CapsuleRead RefusedAt) → reading_at s at ≡ r → walk (suc n) s at ≡ r ∷ walk n s (next_of r)
  unfolding walk
  walk-read r e = ap (λ (x : Result CapsuleRead RefusedAt). x ∷ walk n s (next_of x)) e

  -- whatever capsule stands at the place, written by the box or not
  pub walk-capsule : (c : Capsule) (start count : ℕ) → read_capsule (drop at s) ≡ capsule c start (start + count)
      → walk (suc n) s at ≡ Ok (found_at at (kind_of c) start count) ∷ walk n s (at + (start + count))
  unfolding read_at
  walk-capsule c start count e =
      let z : start + count - start ≡ count = omega arith in
      let y : at + start + count ≡ at + (start + count) = omega arith in
      walk-read (Ok (found_at at (kind_of c) start count)) (ap (λ (r : Reading). placed at (result_at at r)) e ∙ ap (λ (k : ℕ). Ok (found_at at (kind_of c) start k)) z)
      ∙ ap (λ (i : ℕ). Ok (found_at at (kind_of c) start count) ∷ walk n s i) y

  -- a refusal leaves the place
  pub walk_refused : (r : Refusal) → read_at s at ≡ Err r → walk (suc n) s at ≡ reading_at s at ∷ walk n s at
  walk_refused r e =
      walk-read (reading_at s at) refl ∙ ap (λ (x : Result CapsuleRead Refusal). reading_at s at ∷ walk n s (next_of (placed at x))) e

-- ---- no bytes left
nothing-there : read_capsule [] ≡ refused Incomplete
unfolding read_capsule frame_of read_number
nothing-there = refl

module _ (s : List ℕ) (at : ℕ) (h : length s ≤ at) where
  -- there is no capsule
  pub read-end : read_at s at ≡ Err Incomplete
  unfolding read_at
  read-end = ap (λ (t : List ℕ). result_at at (read_capsule t)) (drop_of_length-le s h) ∙ ap (result_at at) nothing-there

  -- and a walker tells the place
  pub reading-end : reading_at s at ≡ Err (refused_at at Incomplete)
  reading-end = ap (placed at) read-end

  -- the number is 1
  pub end-number : answer_number (read_at s at) ≡ 1
  end-number = ap (λ (r : Result CapsuleRead Refusal). answer_number r) read-end

  -- and stays so
  pub walk_end : (n : ℕ) → walk (suc n) s at ≡ Err (refused_at at Incomplete) ∷ walk n s at
  walk_end n = walk_refused n s at Incomplete read-end ∙ ap (λ (r : Result CapsuleRead RefusedAt). r ∷ walk n s at) reading-end

-- ---- capsules written one after the other

-- from any place on, and whatever follows them
pub walk_more : (cs : List Capsule) → AllWritable cs → (n : ℕ) (s : List ℕ) (at : ℕ) (rest : List ℕ) → drop at s ≡ capsules_bytes cs ++ rest
    → walk (length cs + n) s at ≡ found_all at cs ++ walk n s (at + length (capsules_bytes cs))
walk_more [] ws n s at rest h =
    let e : 0 + n ≡ n = omega arith in
    let f : at ≡ at + 0 = omega arith in
    ap (λ (i : ℕ). walk i s at) e ∙ ap (walk n s) f
walk_more (c ∷ cs) ws n s at rest h =
    let b = capsule_bytes c in
    let tail = capsules_bytes cs in
    let e : drop at s ≡ b ++ (tail ++ rest) = h ∙ append_assoc b tail rest in
    let size : value_start c + length (value_of c) ≡ length b = length_capsule c ws.0.sound ws.0.known in
    let first : read_capsule (drop at s) ≡ capsule c (value_start c) (value_start c + length (value_of c)) =
    ap read_capsule e ∙ read-written c (tail ++ rest) ws.0.sound ws.0.words ws.0.known ∙ ap (capsule c (value_start c)) (sym size) in
    let place : at + (value_start c + length (value_of c)) ≡ at + length b = ap (λ (i : ℕ). at + i) size in
    let there : drop (at + length b) s ≡ tail ++ rest =
    sym (drop-drop (length b) at s) ∙ ap (drop (length b)) e ∙ drop-append_seam b (tail ++ rest) in
    let ends : at + length b + length tail ≡ at + length (b ++ tail) = omega (arith, length-append b tail) in
    let more : length (c ∷ cs) + n ≡ suc (length cs + n) = omega arith in
    ap (λ (i : ℕ). walk i s at) more
    ∙ walk-capsule (length cs + n) s at c (value_start c) (length (value_of c)) first
    ∙ ap (λ (l : List (Result CapsuleRead RefusedAt)). Ok (found_at at (kind_of c) (value_start c) (length (value_of c))) ∷ l)
    (ap (walk (length cs + n) s) place ∙ walk_more cs ws.1 n s (at + length b) rest there ∙ ap (λ (i : ℕ). found_all (at + length b) cs ++ walk n s i) ends)

-- a buffer of any number of written capsules, walked from its front: each of them in order, then 1 at its end
pub walk-written : (cs : List Capsule) → AllWritable cs
    → walk (length cs + 1) (capsules_bytes cs) 0 ≡ found_all 0 cs ++ (Err (refused_at (length (capsules_bytes cs)) Incomplete) ∷ [])
unfolding walk
walk-written cs ws =
    walk_more cs ws 1 (capsules_bytes cs) 0 [] (sym (append-nil (capsules_bytes cs)))
    ∙ ap (λ (r : Result CapsuleRead RefusedAt). found_all 0 cs ++ (r ∷ [])) (reading-end (capsules_bytes cs) (0 + length (capsules_bytes cs)) (omega arith))
    ∙ ap (λ (i : ℕ). found_all 0 cs ++ (Err (refused_at i Incomplete) ∷ [])) (zero-add (length (capsules_bytes cs)))
