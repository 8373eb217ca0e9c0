-- What the words of a template say, by the cases of the code. Assumes nothing.
use Rattle.std.proofs.Common.{Option, Some, None}
use Prim.Native.Nat.{ℕ, zero, suc, ◌-◌, ◌%◌, ◌<◌, ◌≤◌}
use mathlib.Core.Path.{◌≡◌, refl, sym, ◌∙◌}
use mathlib.Core.Bool.{Bool, true, false, not, ◌&&◌}
use native.Mathlib.Omega.{arith}
use lib.Dec.{leb, eqb}
use borrow.Author.Tests.{lt-ltb, le-ltb, lt-leb}
use Rattle.std.specs.Bool.{then_some}
use Rattle.answer.specs.Choice.{pick}
use Rattle.table.specs.declared.Checksum.{Checksum}
use Rattle.table.specs.declared.Head.{Head}
use Rattle.table.specs.Limits.{static_limit}
use Rattle.table.specs.Rules.{sum_rule}
use Rattle.table.specs.Words.{field_under, checksum_under}

-- the field under a flag that is not 0 or 1, and under one that is
pub field-bad : (flag field : ℕ) → 1 < flag → 0 ≡ field_under flag field
field-bad flag field h = rw (lt-ltb 1 flag h)

pub field-good : (flag field : ℕ) → flag ≤ 1 → field ≡ field_under flag field
field-good flag field h = rw (le-ltb 1 flag h)

never : (a b : Bool) → (a && (false && b)) ≡ false
never true b = refl
never false b = refl

zero_field : (start : ℕ) → sum_rule 0 start ≡ false
zero_field zero = refl
zero_field (suc n) = rw (lt-leb (suc n) 0 (omega arith)) (never (leb 20 (suc n)) (leb 2 static_limit && eqb ((0 - suc n) % 2) 0))

-- no such field keeps the rule of a checksum, so that a template with such a flag is not sound
pub bad-flag : (flag field start : ℕ) → 1 < flag → sum_rule (field_under flag field) start ≡ false
bad-flag flag field start h = rw (← field-bad flag field h) (zero_field start)

-- a flag that is not 0, with the field under it, says what the three words say
flagged : (b : Bool) (k : Checksum) → then_some (not b) k ≡ pick b None (Some k)
flagged true k = refl
flagged false k = refl

pub head-read : (h : Head) (flag field start : ℕ) {x : ℕ} {c : Option Checksum} → h.checksum ≡ checksum_under flag field start
    → c ≡ then_some (not (eqb flag 0)) (record { field = x; start = start }) → x ≡ field_under flag field
    → ◌≡◌ {A = Head} (record { id = h.id; count = h.count; checksum = c }) h
head-read h flag field start {x} {c} q e f =
    let k : Checksum = record { field = field_under flag field; start = start } in
    let s : c ≡ h.checksum = (rw f at e) ∙ flagged (eqb flag 0) k ∙ sym q in
    rw s
