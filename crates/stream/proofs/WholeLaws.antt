-- A buffer read whole, capsule by capsule. Assumes nothing.
use Rattle.std.proofs.Common.{Ok}
use Prim.Native.Nat.{ℕ, zero, suc, ◌≤◌}
use mathlib.Core.Path.{◌≡◌, refl, sym, ap, ◌∙◌}
use mathlib.Core.List.{List, [], ◌∷◌}
use native.Mathlib.Omega.{arith}
use lib.ListN.{length, drop, length-drop}
use Rattle.capsule.specs.Capsules.{Reading, refused, capsule, read_capsule}
use Rattle.capsule.proofs.ReadLaws.{read-within}
use Rattle.capsule.proofs.FrontLaws.{nothing-there}
use Rattle.stream.specs.Buffer.{Told, ended, before, after_reading, read_all, whole}

no_bytes : (s : List ℕ) (next : List ℕ → Told) → length s ≤ 0 → ended (Ok tt) ≡ after_reading next s (read_capsule s)
no_bytes [] next h = sym (ap (after_reading next []) nothing-there)
no_bytes (b ∷ s) next h = absurd (omega arith)

-- fuel of the length is enough, and more changes nothing
pub enough : (n m : ℕ) (s : List ℕ) → length s ≤ n → length s ≤ m → read_all n s ≡ read_all m s
unfolding read_all
enough zero zero s h l = refl
enough zero (suc m) s h l = no_bytes s (read_all m) h
enough (suc n) zero s h l = sym (no_bytes s (read_all n) l)
enough (suc n) (suc m) s h l = of (read_capsule s) refl (λ (t : List ℕ). enough n m t)
  where
    of : (r : Reading) → read_capsule s ≡ r → ((t : List ℕ) → length t ≤ n → length t ≤ m → read_all n t ≡ read_all m t)
        → after_reading (read_all n) s r ≡ after_reading (read_all m) s r
    of (refused r) e next = refl
    of (capsule c start size) e next =
        let w = read-within s c start size e in
        let a : length (drop size s) ≤ n = simp length-drop (omega (arith, w.0, w.1)) in
        let b : length (drop size s) ≤ m = simp length-drop (omega (arith, w.0, w.1)) in
        ap (before (c ∷ [])) (next (drop size s) a b)

-- one capsule, and the rest whole
pub whole-read : (s : List ℕ) (r : Reading) → read_capsule s ≡ r → whole s ≡ after_reading whole s r
unfolding read_all
whole-read s r e = enough (length s) (suc (length s)) s (omega arith) (omega arith) ∙ ap (after_reading (read_all (length s)) s) e ∙ of r e
  where
    of : (r : Reading) → read_capsule s ≡ r → after_reading (read_all (length s)) s r ≡ after_reading whole s r
    of (refused r) e = refl
    of (capsule c start size) e =
        let l : length (drop size s) ≤ length s = simp length-drop (omega arith) in
        ap (before (c ∷ [])) (enough (length s) (length (drop size s)) (drop size s) l (omega arith))
