-- The fields of an element on bytes: a number of k bytes and a byte, read where they were written. Assumes nothing.
use Prim.Native.Nat.{ℕ, zero, suc, ◌+◌, ◌*◌, ◌/◌, ◌%◌, ◌^◌, ◌≤◌, ◌<◌}
use mathlib.Core.Path.{◌≡◌, sym, ap, ◌∙◌}
use mathlib.Core.List.{List, [], ◌∷◌, ◌++◌}
use native.Mathlib.Nat.{pow-suc, pow-le-pow_right, one-mul, zero-add}
use lib.Dec.{lit<}
use native.Mathlib.Omega.{arith}
use lib.ListN.{length, take, drop, length-take, length-drop, take-append-drop}
use lib.Seq.{drop-drop}
use Rattle.octets.specs.Big.{big_from, big, big_at, digits, Bytes}
use Rattle.octets.proofs.BigLaws as Big

-- the digits of a number are its bytes
pub big-digits : (n v : ℕ) → v < 256 ^ n → big (digits n v) ≡ v
big-digits zero v h = omega arith
big-digits (suc n) v h =
    let g : v / 256 < 256 ^ n = let k : 256 ^ suc n ≡ 256 ^ n * 256 = pow-suc 256 n in omega arith in
    Big.append 0 (digits n (v / 256)) (v % 256 ∷ []) ∙ rw (big-digits n (v / 256) g) (omega arith)

-- bytes at a place are the digits of their number
module _ (s : List ℕ) (h : Bytes s) where
  pub field-digits : (i k : ℕ) → i + k ≤ length s → drop i s ≡ digits k (big_at i k s) ++ drop (i + k) s
  field-digits i k l =
      let t = take k (drop i s) in
      let n : length t ≡ k = simp (length-take, length-drop) (omega arith) in
      let d : digits (0 + length t) (big_from 0 t) ≡ t = Big.digits-big 0 0 t (Big.bytes_take k (drop i s) (Big.bytes_drop i s h)) in
      sym (take-append-drop k (drop i s)) ∙ rw (drop-drop k i s) (ap (λ (x : List ℕ). x ++ drop (i + k) s) (sym (rw (zero-add, n) at d)))

  pub field_bound : (i k : ℕ) → big_at i k s < 256 ^ k
  field_bound i k =
      let t = take k (drop i s) in
      let b = Big.bound 0 t (Big.bytes_take k (drop i s) (Big.bytes_drop i s h)) in
      let m : length t ≤ k = simp length-take (omega arith) in
      let p : 256 ^ length t ≤ 256 ^ k = pow-le-pow_right (lit< tt) m in
      let z : (0 + 1) * 256 ^ length t ≡ 256 ^ length t = one-mul (256 ^ length t) in
      omega arith
