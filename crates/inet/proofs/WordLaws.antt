-- The laws of `words` and `fold` that proofs cite, beside those of `SumLaws`. Assumes nothing.
use mathlib.Core.Path.{◌≡◌, refl, ap, sym, ◌∙◌}
use mathlib.Core.List.{List, [], ◌∷◌, ◌++◌, append-nil}
use Prim.Native.Nat.{ℕ, zero, suc, ◌+◌, ◌-◌, ◌*◌, ◌/◌, ◌%◌, ◌≤◌, ◌<◌}
use native.Mathlib.Omega.{arith}
use native.Mathlib.Numerals.{add-one}
use lib.ListN.{length, take, drop, get_or, drop_of_length-le}
use lib.Seq.{drop-cons}
use Rattle.inet.specs.Sum.{words, fold}
use Rattle.inet.specs.SumLaws.{fold_quot, fold-past, fold_pos}

pub fold_zero : fold 0 ≡ 0
unfolding fold
fold_zero = refl

-- folding a part first changes no fold
pub fold_add : (a b : ℕ) → fold (fold a + b) ≡ fold (a + b)
fold_add zero b = ap (λ (n : ℕ). fold (n + b)) fold_zero
fold_add (suc a) b =
    let p : 0 < fold (suc a) = fold_pos (suc a) (omega arith) in
    let e : suc a + b ≡ (fold (suc a) + b) + 65535 * ((suc a - 1) / 65535) = omega (arith, fold_quot (suc a)) in
    sym (ap fold e ∙ fold-past (fold (suc a) + b) ((suc a - 1) / 65535) (omega arith))

-- what folds alike folds alike with the same added
pub fold_cong : (a b k : ℕ) → fold a ≡ fold b → fold (a + k) ≡ fold (b + k)
fold_cong a b k e = sym (fold_add a k) ∙ ap (λ (n : ℕ). fold (n + k)) e ∙ fold_add b k

-- a word may count 65536 times, since that is 1 more than 65535
pub fold-high : (a x : ℕ) → fold (x + 65536 * a) ≡ fold (x + a)
fold-high zero x = refl
fold-high (suc a) x =
    let e : x + 65536 * suc a ≡ (x + suc a) + 65535 * suc a = omega arith in
    ap fold e ∙ fold-past (x + suc a) (suc a) (omega arith)

-- a part of at most 65535 is taken away by adding what it lacks of 65535, where something else counts
pub fold_less : (a w own k : ℕ) → own ≤ 65535 → own ≤ w → 0 < k → fold a ≡ fold w → fold (a + (65535 - own) + k) ≡ fold (w - own + k)
fold_less a w own k h l z e =
    let x : a + (65535 - own) + k ≡ a + (65535 - own + k) = omega arith in
    let y : w + (65535 - own + k) ≡ w - own + k + 65535 * 1 = omega arith in
    ap fold x ∙ fold_cong a w (65535 - own + k) e ∙ ap fold y ∙ fold-past (w - own + k) 1 (omega arith)

-- no bytes have no words
pub words_none : (s : List ℕ) → length s ≡ 0 → words s ≡ 0
unfolding words
words_none [] h = refl
words_none (a ∷ s) h = absurd (omega arith)

-- the words from i on are the word at i and the words from i + 2 on
pub words_step : (s : List ℕ) (i : ℕ) → i + 1 < length s → words (drop i s) ≡ get_or s i 0 * 256 + get_or s (i + 1) 0 + words (drop (i + 2) s)
unfolding words
words_step s i h =
    let e : i + 2 ≡ suc (suc i) = omega arith in
    let k : i < length s = omega arith in
    let k2 : suc i < length s = omega arith in
    rw (e, add-one, drop-cons s i 0, drop-cons s (suc i) 0)

-- the four bytes at i as two words
pub words_quad : (s : List ℕ) (i : ℕ) → i + 3 < length s
    → words (drop i s) ≡ get_or s i 0 * 256 + get_or s (i + 1) 0 + (get_or s (i + 2) 0 * 256 + get_or s (i + 3) 0) + words (drop (i + 4) s)
words_quad s i h =
    let three : i + 2 + 1 ≡ i + 3 = omega arith in
    let four : i + 2 + 2 ≡ i + 4 = omega arith in
    let b : get_or s (i + 2 + 1) 0 ≡ get_or s (i + 3) 0 = ap (λ (n : ℕ). get_or s n 0) three in
    let r : words (drop (i + 2 + 2) s) ≡ words (drop (i + 4) s) = ap (λ (n : ℕ). words (drop n s)) four in
    omega (arith, words_step s i (omega arith), words_step s (i + 2) (omega arith))

-- a last byte alone
pub words_last : (s : List ℕ) (i : ℕ) → i + 1 ≡ length s → words (drop i s) ≡ get_or s i 0 * 256
unfolding words
words_last s i h =
    let k : i < length s = omega arith in
    let e : length s ≤ suc i = omega arith in
    rw (drop-cons s i 0, drop_of_length-le)

-- nothing is left
pub words-end : (s : List ℕ) (i : ℕ) → length s ≤ i → words (drop i s) ≡ 0
unfolding words
words-end s i h = rw drop_of_length-le

-- a list whose first byte is not 0 has a sum above 0
pub words_pos : (l : List ℕ) → 0 < get_or l 0 0 → 0 < words l
unfolding words
words_pos [] h = h
words_pos (a ∷ []) h = omega arith
words_pos (a ∷ b ∷ r) h = omega arith

-- the words of a front of even length and of the rest
pub words-cut : (n : ℕ) (l : List ℕ) → n % 2 ≡ 0 → words l ≡ words (take n l) + words (drop n l)
unfolding words
words-cut zero l h = omega arith
words-cut (suc zero) l h = absurd (omega arith)
words-cut (suc (suc n)) [] h = refl
words-cut (suc (suc n)) (a ∷ []) h = omega arith
words-cut (suc (suc n)) (a ∷ b ∷ r) h = omega (arith, words-cut n r (omega arith))

-- a byte in front of others is a high half, and they change halves
words_cons : (x : ℕ) (l : List ℕ) → words (x ∷ l) ≡ x * 256 + words (0 ∷ l)
unfolding words
words_cons x [] = omega arith
words_cons x (y ∷ l) = omega arith

-- the sum of the bytes that are high halves
unfoldable highs : List ℕ → ℕ
highs [] = 0
highs (a ∷ []) = a
highs (a ∷ b ∷ r) = a + highs r

words-shift : (l : List ℕ) → 256 * words l ≡ words (0 ∷ l) + 65535 * highs l
unfolding words highs
words-shift [] = refl
words-shift (a ∷ []) = omega arith
words-shift (a ∷ b ∷ r) = omega (arith, words_cons b r, words-shift r)

highs-low : (l : List ℕ) → highs l ≤ words (0 ∷ l)
unfolding words highs
highs-low [] = omega arith
highs-low (a ∷ []) = omega arith
highs-low (a ∷ b ∷ r) = omega (arith, words_cons b r, highs-low r)

fold_multiple : (s k : ℕ) → k ≤ s → fold (s + 65535 * k) ≡ fold s
fold_multiple zero k h = let e : 0 + 65535 * k ≡ 0 = omega arith in ap fold e
fold_multiple (suc s) k h = fold-past (suc s) k (omega arith)

pub words_append_even : (s l : List ℕ) → length s % 2 ≡ 0 → words (s ++ l) ≡ words s + words l
unfolding words
words_append_even [] l h = omega arith
words_append_even (a ∷ []) l h = absurd (omega arith)
words_append_even (a ∷ b ∷ r) l h = omega (arith, words_append_even r l (omega arith))

words_append_odd : (s l : List ℕ) → length s % 2 ≡ 1 → words (s ++ l) ≡ words s + words (0 ∷ l)
unfolding words
words_append_odd [] l h = absurd (omega arith)
words_append_odd (a ∷ []) l h = omega (arith, words_cons a l)
words_append_odd (a ∷ b ∷ r) l h = omega (arith, words_append_odd r l (omega arith))

-- behind an odd number of bytes a sum counts 256 times
pub fold_append_odd : (s l : List ℕ) → length s % 2 ≡ 1 → fold (words s + words l * 256) ≡ fold (words (s ++ l))
fold_append_odd s l h =
    let e : words s + words l * 256 ≡ words s + words (0 ∷ l) + 65535 * highs l = omega (arith, words-shift l) in
    ap fold e ∙ fold_multiple (words s + words (0 ∷ l)) (highs l) (omega (arith, highs-low l)) ∙ ap fold (sym (words_append_odd s l h))

pub fold_append_even : (s l : List ℕ) → length s % 2 ≡ 0 → fold (words s + words l) ≡ fold (words (s ++ l))
fold_append_even s l h = ap fold (sym (words_append_even s l h))

pub fold_append_none : (s l : List ℕ) → length l ≡ 0 → fold (words s + 0) ≡ fold (words (s ++ l))
fold_append_none s [] h = let e : words s + 0 ≡ words s = omega arith in ap fold e ∙ ap (λ (x : List ℕ). fold (words x)) (sym (append-nil s))
fold_append_none s (x ∷ l) h = absurd (omega arith)
