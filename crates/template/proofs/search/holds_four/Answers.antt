-- The four tests are those of the definition, one after the other: `holds-four`. Assumes nothing.
use Prim.Native.Nat.{ℕ, ◌+◌, ◌≤◌}
use mathlib.Core.Path.{◌≡◌, sym, ◌∙◌}
use mathlib.Core.Bool.{Bool, ◌&&◌, and-true}
use mathlib.Core.List.{List}
use native.Mathlib.Omega.{arith}
use lib.Dec.{eqb}
use lib.ListN.{length, get_or}
use borrow.Author.Tests.{eq-eqb, ne_eqb}
use Rattle.answer.proofs.Tests.{and_both}
use Rattle.table.specs.Words.{byte_at}
use Rattle.template.specs.Usable.{holds_at}
use Rattle.template.proofs.Steps.{holds-step, holds-done}
use Rattle.template.proofs.search.holds_four.Goals as goal
use Rattle.template.proofs.search.holds_four.Goals.{Joined-front-k, Joined-front-k-2, then-front-k, else-front-k, then-front-k-2, else-front-k-2}

-- whether the byte at k is the static one
abbrev same : List ℕ → List ℕ → ℕ → Bool
same t p k = eqb (get_or p k 0) (byte_at t k)

module _ (t p : List ℕ) (k : ℕ) (l : k + 4 ≤ length p) where
  holds-four : holds_at t p k (k + 4) ≡ (same t p k && (same t p (k + 1) && (same t p (k + 2) && same t p (k + 3))))
  holds-four =
      let two : k + 1 + 1 ≡ k + 2 = omega arith in
      let three : k + 2 + 1 ≡ k + 3 = omega arith in
      let four : k + 3 + 1 ≡ k + 4 = omega arith in
      rw (holds-step t p k (k + 4) (omega arith) (omega arith), holds-step t p (k + 1) (k + 4) (omega arith) (omega arith), two, holds-step t p (k + 2) (k + 4) (omega arith) (omega arith), three, holds-step t p (k + 3) (k + 4) (omega arith) (omega arith), four, holds-done t p (k + 4) (k + 4) (omega arith), and-true (same t p (k + 3)))

-- what is found of two bytes, and of three
two : (c : Joined-front-k) → c.if-front-k.value ≡ (same c.args.t.words.now c.args.front.now c.args.k && same c.args.t.words.now c.args.front.now (c.args.k + 1))
two c =
    elim c.if-front-k.branch [
      | then-front-k w ↦ w.value-is ∙ rw (eq-eqb _ _ (w.if-front-k.true ∙ c.byte.ensures), w.byte-then-front-k.ensures)
      | else-front-k w ↦ w.value-is ∙ ne_eqb _ _ w.if-front-k.false ∙ rw (ne_eqb _ _ (λ e. w.if-front-k.false (e ∙ sym c.byte.ensures)))
    ]

three : (c : Joined-front-k-2) → c.if-front-k-2.value
    ≡ ((same c.args.t.words.now c.args.front.now c.args.k && same c.args.t.words.now c.args.front.now (c.args.k + 1)) && same c.args.t.words.now c.args.front.now (c.args.k + 2))
three c =
    let e = two (goal.at.Joined-front-k-2 c).Joined-front-k in
    elim c.if-front-k-2.branch [
      | then-front-k-2 w ↦ w.value-is ∙ rw (sym e ∙ w.if-front-k-2.true, w.byte-then-front-k-2.ensures)
      | else-front-k-2 w ↦ w.value-is ∙ w.if-front-k-2.false ∙ rw (sym e ∙ w.if-front-k-2.false)
    ]

pub returns-then-front-k-3 : goal.returns-then-front-k-3
returns-then-front-k-3 c =
    let t = c.args.t.words.now in
    let p = c.args.front.now in
    let k = c.args.k in
    let a = and_both (same t p k && same t p (k + 1)) (same t p (k + 2)) (sym (three (goal.at.returns-then-front-k-3 c).Joined-front-k-2) ∙ c.if-front-k-3.true) in
    let b = and_both (same t p k) (same t p (k + 1)) a.0 in
    rw c.byte-then-front-k-3.ensures (sym (holds-four t p k c.requires.1 ∙ rw (b.0, b.1, a.1)))
