-- Parts of slices: `&s[n..]`, `&w[a..e]`, and the same lent to be written and handed back. Assumes nothing.
use Prim.Native.Nat.{ℕ, zero, suc, ◌+◌, ◌-◌, ◌≤◌}
use mathlib.Core.Path.{◌≡◌, sym, ap, ◌∙◌}
use mathlib.Core.List.{List, [], ◌∷◌, ◌++◌, append-nil, append_assoc}
use native.Mathlib.Nat.{le_of_eq, sub-zero}
use native.Mathlib.Omega.{arith}
use lib.ListN.{length, take, drop, length-append, length-drop, drop_of_length-le, take-append-drop}
use lib.Seq.{take_all, length-take-le, take_at, drop_at, drop-append-le, take-append-le, drop-drop, take-take, take-add, take-nil}
use borrow.Rule.Slice.PartMut.{put_mid, Post-is}
use Rattle.octets.specs.Parts.{part, with_part}

-- `&s[n..]`
pub tail : (n : ℕ) (s : List ℕ) → take (length s - n) (drop n s) ≡ drop n s
tail n s = take_all (length s - n) (drop n s) (le_of_eq (length-drop n s))

-- `&mut out[n..]` comes back as ys
pub put_tail : (n : ℕ) (xs ys : List ℕ) → n ≤ length xs → put_mid n (length xs - n) xs ys ≡ take n xs ++ ys
put_tail n xs ys h =
    let e : drop (length xs - n) (drop n xs) ≡ [] = drop_of_length-le (drop n xs) (le_of_eq (length-drop n xs)) in
    simp (e, append-nil)

-- `&w[a..e]`, of n words
pub is-part : (w : List ℕ) (a e n : ℕ) → e - a ≡ n → take (e - a) (drop a w) ≡ part w a n
is-part w a e n h = ap (λ (k : ℕ). take k (drop a w)) h

-- `&mut w[a..e]` comes back as v
pub put-part : (w : List ℕ) (a e : ℕ) (v : List ℕ) → a ≤ e → put_mid a (e - a) w v ≡ with_part w a e v
put-part w a e v h = ap (λ (l : List ℕ). take a w ++ (v ++ l)) (Post-is a e w h)

-- ---- a part stored: read back it is what was stored, and every part before or after it is as it was

module _ (w : List ℕ) (a n : ℕ) (v : List ℕ) (s : length v ≡ n) (h : a + n ≤ length w) where
  front : length (take a w) ≡ a
  front = length-take-le a w (omega arith)

  pub part-put : part (with_part w a (a + n) v) a n ≡ v
  part-put =
      ap (take n) (drop_at (take a w) (v ++ drop (a + n) w) a front)
      ∙ take_at v (drop (a + n) w) n s

  pub part-before : (o m : ℕ) → o + m ≤ a → part (with_part w a (a + n) v) o m ≡ part w o m
  part-before o m g =
      ap (take m) (drop-append-le o (take a w) (v ++ drop (a + n) w) (omega (arith, front)))
      ∙ take-append-le m (drop o (take a w)) (v ++ drop (a + n) w) (omega (arith, front, length-drop o (take a w)))
      ∙ sym
      (ap (λ (l : List ℕ). part l o m) (sym (take-append-drop a w))
      ∙ ap (take m) (drop-append-le o (take a w) (drop a w) (omega (arith, front)))
      ∙ take-append-le m (drop o (take a w)) (drop a w) (omega (arith, front, length-drop o (take a w))))

  pub part-after : (o m : ℕ) → a + n ≤ o → part (with_part w a (a + n) v) o m ≡ part w o m
  part-after o m g =
      let e : a + n + (o - (a + n)) ≡ o = omega arith in
      ap (take m)
      (ap (λ (k : ℕ). drop k (with_part w a (a + n) v)) (sym e)
      ∙ sym (drop-drop (o - (a + n)) (a + n) (with_part w a (a + n) v))
      ∙ ap (drop (o - (a + n))) (ap (drop (a + n)) (sym (append_assoc (take a w) v (drop (a + n) w))) ∙ drop_at (take a w ++ v) (drop (a + n) w) (a + n) (length-append (take a w) v ∙ (rw (front, s))))
      ∙ drop-drop (o - (a + n)) (a + n) w
      ∙ ap (λ (k : ℕ). drop k w) e)

-- ---- parts beside each other, and within each other

module _ (w : List ℕ) (a n : ℕ) where
  -- a part and what is behind it, before it
  pub part-rest : part w a n ++ drop (a + n) w ≡ drop a w
  part-rest = ap (λ (l : List ℕ). part w a n ++ l) (sym (drop-drop n a w)) ∙ take-append-drop n (drop a w)

  pub front-part : take a w ++ part w a n ≡ take (a + n) w
  front-part = sym (take-add a n w)

  pub length_part : a + n ≤ length w → length (part w a n) ≡ n
  length_part h = length-take-le n (drop a w) (omega (arith, length-drop a w))

-- what is behind the first o of m
drop_part : (o m : ℕ) (w : List ℕ) → drop o (take m w) ≡ take (m - o) (drop o w)
drop_part zero m w = rw sub-zero
drop_part (suc o) zero w = let z : 0 - suc o ≡ 0 = omega arith in rw z
drop_part (suc o) (suc m) [] = sym (take-nil (suc m - suc o))
drop_part (suc o) (suc m) (x ∷ w) = let q : suc m - suc o ≡ m - o = omega arith in rw q (drop_part o m w)

pub part-part : (w : List ℕ) (a m o n : ℕ) → o + n ≤ m → part (part w a m) o n ≡ part w (a + o) n
part-part w a m o n h =
    ap (take n) (drop_part o m (drop a w))
    ∙ take-take n (m - o) (drop o (drop a w)) (omega arith)
    ∙ ap (take n) (drop-drop o a w)

-- words of as many stored: the length stays
pub length_with_part : (w : List ℕ) (a n : ℕ) (v : List ℕ) → length v ≡ n → a + n ≤ length w
    → length (with_part w a (a + n) v) ≡ length w
length_with_part w a n v s h =
    length-append (take a w) (v ++ drop (a + n) w)
    ∙ rw (length-append v (drop (a + n) w), s, length-take-le a w (omega arith), length-drop (a + n) w) (omega arith)

-- a part stored right behind words that are stored already
pub put_next : (f w v : List ℕ) (a e : ℕ) → length f ≡ a → a ≤ e → with_part (f ++ drop a w) a e v ≡ (f ++ v) ++ drop e w
put_next f w v a e l h =
    let q : a + (e - a) ≡ e = omega arith in
    ap (λ (x : List ℕ). x ++ (v ++ drop e (f ++ drop a w))) (take_at f (drop a w) a l)
    ∙ ap (λ (x : List ℕ). f ++ (v ++ x))
    (ap (λ (k : ℕ). drop k (f ++ drop a w)) (sym q)
    ∙ sym (drop-drop (e - a) a (f ++ drop a w))
    ∙ ap (drop (e - a)) (drop_at f (drop a w) a l)
    ∙ drop-drop (e - a) a w
    ∙ ap (λ (k : ℕ). drop k w) q)
    ∙ sym (append_assoc f v (drop e w))
