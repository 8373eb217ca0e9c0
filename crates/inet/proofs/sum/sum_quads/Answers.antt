-- The numbers so far and the words still to come fold to what all words fold to: the first word of four bytes counts 65536 times in their number, and
-- that folds as once (`fold-high`). Assumes nothing.
use Prim.Native.Nat.{ℕ, ◌*◌, ◌+◌}
use mathlib.Core.Path.{◌≡◌, sym, ap, ◌∙◌}
use mathlib.Core.List.{List, [], ◌∷◌, ◌++◌}
use native.Mathlib.Omega.{arith}
use lib.ListN.{length, length-append}
use Rattle.std.specs.Slice.Iter.{chunks_exact_rest}
use Rattle.octets.specs.Big.{big_at}
use Rattle.inet.specs.Sum.{words, fold}
use Rattle.inet.proofs.WordLaws.{words_none, fold-high}
use Rattle.inet.proofs.sum.sum_quads.Goals as goal

-- one turn
next-quad : (q r : List ℕ) (acc n : ℕ) → length q ≡ 4 → n ≡ big_at 0 4 q → fold (acc + n + words r) ≡ fold (acc + words (q ++ r))
unfolding words
next-quad (a ∷ b ∷ c ∷ d ∷ []) r acc n h e =
    let x : acc + n + words r ≡ acc + (c * 256 + d) + words r + 65536 * (a * 256 + b) = omega (arith, e) in
    let y : acc + (c * 256 + d) + words r + (a * 256 + b) ≡ acc + (a * 256 + b + (c * 256 + d + words r)) = omega arith in
    ap fold x ∙ fold-high (a * 256 + b) (acc + (c * 256 + d) + words r) ∙ ap fold y
next-quad [] r acc n h e = absurd (omega arith)
next-quad (a ∷ []) r acc n h e = absurd (omega arith)
next-quad (a ∷ b ∷ []) r acc n h e = absurd (omega arith)
next-quad (a ∷ b ∷ c ∷ []) r acc n h e = absurd (omega arith)
next-quad (a ∷ b ∷ c ∷ d ∷ f ∷ q) r acc n h e = absurd (omega arith)

pub loop-quad-preserved : goal.loop-quad-preserved
loop-quad-preserved c =
    let l = c.loop-quad in
    let q = c.in-Some.quad.now in
    let r = chunks_exact_rest c.next.new.self in
    let s = c.in-Some.ensures.steps in
    let n = ap length s.1.0 ∙ length-append q r in (
      s.0 ∙ l.invariant.0,
      omega arith,
      omega arith,
      next-quad q r l.acc c.big_at-acc.result (s.1.1 ∙ l.invariant.0) c.big_at-acc.ensures.0 ∙ ap (λ (p : List ℕ). fold (l.acc + words p)) (sym s.1.0) ∙ l.invariant.3,
    )

-- fewer than four bytes are left, and their number is a multiple of 4
pub returns : goal.returns
returns c =
    let l = c.loop-quad in
    let s = c.in-None.ensures.steps in
    let e : l.acc ≡ l.acc + words (chunks_exact_rest l.quad-iterator) = omega (arith, words_none (chunks_exact_rest l.quad-iterator) (omega arith)) in
    (ap fold e ∙ l.invariant.3, omega arith)
