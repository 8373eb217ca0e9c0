-- The words of three bytes, of two, of one and of none. Assumes nothing.
use mathlib.Core.Path.{◌≡◌, refl}
use mathlib.Core.List.{List, [], ◌∷◌}
use Prim.Native.Nat.{ℕ, ◌*◌, ◌+◌, ◌-◌, ◌%◌, ◌≤◌, ◌<◌}
use native.Mathlib.Omega.{arith}
use lib.ListN.{length, get_or}
use Rattle.inet.specs.Sum.{words}
use Rattle.inet.proofs.WordLaws.{words_none}
use Rattle.inet.proofs.sum.sum_pairs.Goals.{then-s-ge2, else-s-ge2, then-s-eq1, else-s-eq1}
use Rattle.inet.proofs.sum.sum_pairs.Goals as goal

-- the first two of them, and an odd last one
both : (s : List ℕ) → length s ≤ 3 → 2 ≤ length s → length s % 2 ≡ 1 → get_or s 0 0 * 256 + get_or s 1 0 + get_or s (length s - 1) 0 * 256 ≡ words s
unfolding words
both (a ∷ b ∷ c ∷ []) l h k = refl
both [] l h k = absurd (omega arith)
both (a ∷ []) l h k = absurd (omega arith)
both (a ∷ b ∷ []) l h k = absurd (omega arith)
both (a ∷ b ∷ c ∷ d ∷ r) l h k = absurd (omega arith)

pair : (s : List ℕ) → length s ≤ 3 → 2 ≤ length s → (length s % 2 ≡ 1 → ⊥) → get_or s 0 0 * 256 + get_or s 1 0 ≡ words s
unfolding words
pair (a ∷ b ∷ []) l h k = omega arith
pair [] l h k = absurd (omega arith)
pair (a ∷ []) l h k = absurd (omega arith)
pair (a ∷ b ∷ c ∷ []) l h k = absurd (k refl)
pair (a ∷ b ∷ c ∷ d ∷ r) l h k = absurd (omega arith)

odd : (s : List ℕ) → length s < 2 → length s % 2 ≡ 1 → get_or s (length s - 1) 0 * 256 ≡ words s
unfolding words
odd [] h k = absurd (omega arith)
odd (a ∷ []) h k = refl
odd (a ∷ b ∷ r) h k = absurd (omega arith)

pub returns : goal.returns
returns c =
    let s = c.args.s.now in
    elim c.if-s-ge2.branch [
      | then-s-ge2 w ↦
          elim c.if-s-eq1.branch [
            | then-s-eq1 v ↦ (omega (arith, both s (omega arith) (omega arith) (omega arith)), omega arith)
            | else-s-eq1 v ↦ (omega (arith, pair s (omega arith) (omega arith) (λ e. omega arith)), omega arith)
          ]
      | else-s-ge2 w ↦
          elim c.if-s-eq1.branch [
            | then-s-eq1 v ↦ (omega (arith, odd s (omega arith) (omega arith)), omega arith)
            | else-s-eq1 v ↦ (omega (arith, words_none s (omega arith)), omega arith)
          ]
    ]
