-- The table of classes keeps its rule: one test over all of it, which is computed. Assumes nothing.
use mathlib.Core.Path.{◌≡◌, refl, ap, ◌∙◌}
use mathlib.Core.Bool.{Bool, true, false, not}
use mathlib.Core.List.{List}
use Prim.Native.Nat.{ℕ, ◌<◌}
use lib.Dec.{eqb}
use lib.ListN.{get_or}
use borrow.Author.Tests.{ne_eqb}
use Rattle.chain.specs.Chain.{plain, class_of}
use Rattle.chain.proofs.Table.{entry}
use Rattle.chain.specs.declared.class.Class.{Class}
use Rattle.chain.specs.Class.{number_of, Classes}
use Rattle.chain.proofs.ClassTable.{class_table}

pub class_rule : (n : ℕ) (d : Class) → n < 256 → number_of (get_or class_table n d) ≡ class_of n
unfolding class_table class_of
class_rule n d h = entry class_of class_table d refl n h

-- what is read from a table of classes
pub class_read : {t : List Class} → Classes t → {n : ℕ} {c : Class} (d : Class) → n < 256 → c ≡ get_or t n d → number_of c ≡ class_of n
class_read t {n = n} d h q = ap number_of q ∙ t.each n d h

-- the numbers of extension headers, and no others
module _ (n : ℕ) where
  pub no-extension : (n ≡ 0 → ⊥) → (n ≡ 43 → ⊥) → (n ≡ 44 → ⊥) → (n ≡ 51 → ⊥) → (n ≡ 60 → ⊥) → (n ≡ 135 → ⊥) → false ≡ not (eqb (class_of n) plain)
  unfolding class_of
  no-extension a b c d e f = rw (ne_eqb n 0 a, ne_eqb n 43 b, ne_eqb n 44 c, ne_eqb n 51 d, ne_eqb n 60 e, ne_eqb n 135 f) refl

  pub extension : ((n ≡ 0 → ⊥) → (n ≡ 43 → ⊥) → (n ≡ 44 → ⊥) → (n ≡ 51 → ⊥) → (n ≡ 60 → ⊥) → (n ≡ 135 → ⊥) → ⊥) → true ≡ not (eqb (class_of n) plain)
  unfolding class_of
  extension g = go (not (eqb (class_of n) plain)) refl
    where
      named : (m : ℕ) → not (eqb (class_of m) plain) ≡ true → not (eqb (class_of n) plain) ≡ false → n ≡ m → ⊥
      named m t e q = cc

      go : (t : Bool) → not (eqb (class_of n) plain) ≡ t → true ≡ t
      go true e = refl
      go false e = absurd (g (named 0 refl e) (named 43 refl e) (named 44 refl e) (named 51 refl e) (named 60 refl e) (named 135 refl e))
