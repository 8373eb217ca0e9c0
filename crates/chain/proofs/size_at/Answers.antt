-- A fragment header has no length; in any other it is byte 1. Assumes nothing.
use mathlib.Core.Path.{sym, ap, ◌∙◌}
use mathlib.Core.List.{◌++◌}
use Prim.Native.Nat.{ℕ, ◌+◌, ◌*◌, ◌≤◌}
use native.Mathlib.Nat.{mul-le-mul}
use native.Mathlib.Omega.{arith}
use lib.ListN.{drop, get_or}
use lib.Seq.{get_or-drop}
use Rattle.chain.specs.Class.{number_of}
use Rattle.chain.proofs.ChainLaws.{size-fragment, size-counted}
use Rattle.chain.proofs.Table.{is_fragment}
use Rattle.chain.proofs.size_at.Goals as goal

bound : (a b : ℕ) → a ≤ 8 → b ≤ 255 → a * b ≤ 2040
bound a b h k = mul-le-mul h k

pub returns-in-Fragment : goal.returns-in-Fragment
returns-in-Fragment c = size-fragment _ _ (ap number_of c.in-Fragment.is)

pub overflow_mul-result : goal.overflow_mul-result
overflow_mul-result c = record { fits = omega (arith, bound c.number.result c.byte_of.result (omega arith) (omega arith)) }

pub overflow_add-result : goal.overflow_add-result
overflow_add-result c = record { fits = omega (arith, bound c.number.result c.byte_of.result (omega arith) (omega arith)) }

pub returns-in_default : goal.returns-in_default
returns-in_default c =
    let a = c.args in
    let l = a.front.now ++ a.tail.now in
    ap (λ (n : ℕ). 8 + c.number.result * n) (c.byte_of.ensures ∙ sym (get_or-drop a.at l 1 0)) ∙ ap (λ (m : ℕ). 8 + m * get_or (drop a.at l) 1 0) c.number.ensures.0
    ∙ size-counted (number_of a.class) (drop a.at l) (λ e. c.in_default.not-Fragment (is_fragment _ e))
