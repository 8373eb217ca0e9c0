-- The sum so far and the words still to come make the words of all; a block is an even front of these (`words-cut`). Assumes nothing.
use Prim.Native.Nat.{ℕ, ◌*◌, ◌/◌, ◌-◌, ◌+◌}
use mathlib.Core.Path.{◌≡◌, refl, ap, ◌∙◌}
use mathlib.Core.List.{List}
use native.Mathlib.Omega.{arith}
use lib.ListN.{length, take, drop}
use lib.Seq.{drop-drop}
use Rattle.octets.proofs.Parts.{tail}
use Rattle.inet.specs.Sum.{words}
use Rattle.inet.proofs.WordLaws.{words-cut}
use Rattle.inet.proofs.sum.sum_words.Goals as goal

-- n quads of `&s[4 * k..]`
next-block : (s : List ℕ) (k n m r : ℕ) → m ≡ k + n → r ≡ words (take (4 * n) (take (length s - 4 * k) (drop (4 * k) s))) → words (drop (4 * k) s) ≡ r + words (drop (4 * m) s)
next-block s k n m r e f =
    let i : 4 * k + 4 * n ≡ 4 * m = omega arith in
    let a : r ≡ words (take (4 * n) (drop (4 * k) s)) = f ∙ ap (λ (l : List ℕ). words (take (4 * n) l)) (tail (4 * k) s) in
    let b : words (drop (4 * n) (drop (4 * k) s)) ≡ words (drop (4 * m) s) = ap words (drop-drop (4 * n) (4 * k) s) ∙ ap (λ (j : ℕ). words (drop j s)) i in
    omega (arith, words-cut (4 * n) (drop (4 * k) s) (omega arith))

pub loop-k-preserved : goal.loop-k-preserved
loop-k-preserved c =
    let l = c.loop-k in
    let s = c.args.s.now in
    omega (arith, next-block s l.k 256 (l.k + 256) _ refl c.sum_block-sum.ensures.0)

pub returns : goal.returns
returns c =
    let l = c.loop-k in
    let s = c.args.s.now in
    let q = length s / 4 in
    omega (arith, next-block s l.k (q - l.k) q _ (omega arith) c.sum_block-sum-2.ensures.0, ap words (tail (4 * q) s))
