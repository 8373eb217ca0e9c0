-- The table of classes keeps its rule at each of its entries if one test, computed over all of them, says so. Assumes nothing.
use mathlib.Core.Path.{◌≡◌, refl, sym, ap, ◌∙◌}
use mathlib.Core.Bool.{Bool, true, ◌&&◌}
use mathlib.Core.List.{List, [], ◌∷◌}
use Prim.Native.Nat.{ℕ, zero, suc, ◌+◌, ◌<◌}
use native.Mathlib.Nat.{add-zero, zero-add, add-suc, suc-add, le_of_suc-le-suc, not-suc-le-zero}
use native.Mathlib.Omega.{arith}
use lib.Dec.{eqb}
use lib.ListN.{length, get_or}
use borrow.Author.Tests.{eqb-true}
use Rattle.answer.proofs.Tests.{and_both}
use Rattle.chain.specs.declared.class.Class.{Class}
use Rattle.chain.specs.declared.class.Class.TheVariants.{Plain, Fragment, Fours, Eights}
use Rattle.chain.specs.Chain.{plain, fragment}
use Rattle.chain.specs.Class.{number_of}

-- the number of each entry is what the rule says of its place, counted from i
abbrev pub follows : (ℕ → ℕ) → ℕ → List Class → Bool
follows rule i [] = true
follows rule i (x ∷ xs) = eqb (number_of x) (rule i) && follows rule (suc i) xs

entry-from : (rule : ℕ → ℕ) (xs : List Class) (d : Class) (i : ℕ) → follows rule i xs ≡ true → (k : ℕ) → k < length xs → number_of (get_or xs k d) ≡ rule (i + k)
entry-from rule [] d i t k h = absurd (not-suc-le-zero h)
entry-from rule (x ∷ xs) d i t zero h = eqb-true (number_of x) (rule i) (and_both _ _ t).0 ∙ ap rule (sym (add-zero i))
entry-from rule (x ∷ xs) d i t (suc k) h =
    entry-from rule xs d (suc i) (and_both (eqb (number_of x) (rule i)) _ t).1 k (le_of_suc-le-suc h) ∙ ap rule (suc-add i k ∙ sym (add-suc i k))

pub entry : (rule : ℕ → ℕ) (xs : List Class) (d : Class) → follows rule 0 xs ≡ true → (k : ℕ) → k < length xs → number_of (get_or xs k d) ≡ rule k
entry rule xs d t k h = entry-from rule xs d 0 t k h ∙ ap rule (zero-add k)

-- the classes by their numbers
pub is_plain : (c : Class) → number_of c ≡ plain → c ≡ Plain
is_plain Plain e = refl
is_plain Fragment e = absurd (omega arith)
is_plain Fours e = absurd (omega arith)
is_plain Eights e = absurd (omega arith)

pub is_fragment : (c : Class) → number_of c ≡ fragment → c ≡ Fragment
is_fragment Plain e = absurd (omega arith)
is_fragment Fragment e = refl
is_fragment Fours e = absurd (omega arith)
is_fragment Eights e = absurd (omega arith)
