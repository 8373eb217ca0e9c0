-- Few bytes are a front of quads, whose number folds as its words do, and the words of the rest: `quads-then`. Assumes nothing.
use Prim.Native.Nat.{ℕ, ◌+◌, ◌-◌, ◌*◌, ◌/◌, ◌%◌}
use mathlib.Core.Path.{◌≡◌, ap, ◌∙◌}
use mathlib.Core.List.{List}
use native.Mathlib.Omega.{arith}
use lib.ListN.{length, take, drop}
use Rattle.octets.proofs.Parts.{tail}
use Rattle.inet.specs.Sum.{words, fold}
use Rattle.inet.proofs.WordLaws.{words-cut, fold_cong}
use Rattle.inet.proofs.sum.sum_bytes.Goals as goal

-- q folds to what the words of `&s[..n]` fold to, and r is the words of `&s[n..]`
quads-then : (s : List ℕ) (n q r : ℕ) → n % 2 ≡ 0 → fold q ≡ fold (words (take n s)) → r ≡ words (take (length s - n) (drop n s)) → fold (q + r) ≡ fold (words s)
quads-then s n q r h e f =
    let g : words (take n s) + r ≡ words s = omega (arith, words-cut n s h, f ∙ ap words (tail n s)) in
    fold_cong q (words (take n s)) r e ∙ ap fold g

pub returns-then-s-le-SHORT : goal.returns-then-s-le-SHORT
returns-then-s-le-SHORT c =
    let s = c.args.s.now in
    (quads-then s (length s / 4 * 4) _ _ (omega arith) c.sum_quads.ensures.0 c.sum_pairs.ensures.0, omega arith)

pub returns : goal.returns
returns c = (ap fold c.sum_words.ensures.0, omega arith)
