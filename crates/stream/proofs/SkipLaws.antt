-- A capsule that is skipped: how many of its bytes are still to come, and what the bytes behind make of it. Assumes nothing.
use Rattle.std.proofs.Common.{Option, Some, None}
use Prim.Native.Nat.{ℕ, suc, ◌+◌, ◌-◌, ◌≤◌, ◌<◌}
use mathlib.Core.Bool.{Bool, true, false}
use mathlib.Core.Path.{◌≡◌, refl, ap, ◌∙◌}
use mathlib.Core.List.{List, ◌++◌}
use native.Mathlib.Omega.{arith}
use borrow.Author.Tests.{ltb-true}
use lib.Dec.{ltb}
use lib.ListN.{length, length-append}
use Rattle.answer.specs.declared.Refusal.TheVariants.{Incomplete}
use Rattle.answer.specs.Choice.{pick}
use Rattle.octets.specs.Big.{Bytes}
use Rattle.varint.specs.Numbers.{limit}
use Rattle.capsule.specs.declared.Head.{Head}
use Rattle.capsule.specs.Heads.{head, head_of, HeadWithin}
use Rattle.capsule.specs.Capsules.{unknown, refused, capsule, read_capsule}
use Rattle.capsule.proofs.HeadLaws.{head_append}
use Rattle.capsule.proofs.FrontLaws.{head-within, other-waits, other-ends}
use Rattle.stream.specs.Store.{skip_behind, to_skip}

-- type and length of the bytes s, behind which more bytes are to come
pub record Skipping (s : List ℕ) (more : ℕ) : Type 0 where
  pub kind : ℕ
  pub start : ℕ
  pub size : ℕ
  pub front : head_of s ≡ Some (head kind start size)
  pub other : 3 < kind
  pub sum : start + size ≡ length s + more

module _ (s : List ℕ) (more : ℕ) where
  tested : (kind start size : ℕ) → head_of s ≡ Some (head kind start size) → (b : Bool) → ltb 3 kind ≡ b
      → pick b (start + size - length s) 0 ≡ suc more → Skipping s (suc more)
  tested kind start size e true t h =
      record { kind = kind; start = start; size = size; front = e; other = ltb-true 3 kind t; sum = omega arith }
  tested kind start size e false t h = absurd (omega arith)

  pub skipping : to_skip s ≡ suc more → Skipping s (suc more)
  unfolding to_skip
  skipping h = of (head_of s) refl h
    where
      of : (r : Option Head) → head_of s ≡ r → skip_behind s r ≡ suc more → Skipping s (suc more)
      of (Some x) e h = tested x.kind x.start x.length e (ltb 3 x.kind) refl h
      of None e h = absurd (omega arith)

module _ (s t : List ℕ) (more : ℕ) (k : Skipping s more) where
  appended : head_of (s ++ t) ≡ Some (head k.kind k.start k.size)
  appended = head_append s t k.kind k.start k.size k.front

  pub skip-waits : length t < more → read_capsule (s ++ t) ≡ refused Incomplete
  skip-waits h = other-waits (s ++ t) k.kind k.start k.size appended k.other (simp length-append (omega (arith, k.sum)))

  pub skip-ends : more ≤ length t → read_capsule (s ++ t) ≡ capsule unknown k.start (length s + more)
  skip-ends h =
      other-ends (s ++ t) k.kind k.start k.size appended k.other (simp length-append (omega (arith, k.sum)))
      ∙ ap (capsule unknown k.start) k.sum

-- the bytes still to come are fewer than a number can say
pub skip_below : (s : List ℕ) → Bytes s → to_skip s < limit
unfolding to_skip
skip_below s h = of (head_of s) (head-within s h)
  where
    picked : (b : Bool) (n : ℕ) → n < limit → pick b n 0 < limit
    picked true n l = l
    picked false n l = omega arith

    of : (r : Option Head) → HeadWithin s r → skip_behind s r < limit
    of (Some x) w = picked (ltb 3 x.kind) (x.start + x.length - length s) (omega (arith, w.1, w.2))
    of None w = omega arith
