-- How much is kept of an open capsule that is not skipped: less than the lent memory holds. Assumes nothing.
use Rattle.std.proofs.Common.{Option, Some, None, Err}
use Prim.Native.Nat.{ℕ, ◌+◌, ◌<◌}
use mathlib.Core.Path.{◌≡◌, refl, sym, ◌∙◌}
use mathlib.Core.List.{List}
use mathlib.Core.Logic.{inl, inr, ⊎_elim}
use native.Mathlib.Omega.{arith}
use borrow.Author.Tests.{lt-ltb}
use lib.ListN.{length}
use Rattle.answer.specs.declared.Refusal.TheVariants.{Incomplete}
use Rattle.answer.proofs.Tests.{order}
use Rattle.octets.specs.Big.{Bytes}
use Rattle.capsule.specs.declared.Head.{Head}
use Rattle.capsule.specs.Heads.{head, head_of, HeadWithin}
use Rattle.capsule.specs.Capsules.{max_value, frame_at, frame_of, refused, read_capsule}
use Rattle.capsule.proofs.FrameCases as Frame
use Rattle.capsule.proofs.HeadLaws.{frame-known}
use Rattle.capsule.proofs.FrontLaws.{head-within}
use Rattle.capsule.proofs.RefusalLaws.{waits-frame}
use Rattle.stream.specs.Store.{skip_behind, to_skip}
use Rattle.stream.specs.Feeding.{kept_size}

module _ (s : List ℕ) (e : frame_of s ≡ Err Incomplete) where
  module _ (kind start size : ℕ) (g : head_of s ≡ Some (head kind start size)) where
    framed : frame_at s kind start size ≡ Err Incomplete
    framed = sym (frame-known s kind start size g) ∙ e

    lacks : Frame.Short kind size → length s < start + size
    lacks w =
        ⊎_elim (λ l. l)
        (λ l.
        let q = Frame.whole s kind start size w l ∙ framed in
        let y : ◌≡◌ {A = ℕ} 0 1 = cc in absurd (omega arith))
        (order (length s) (start + size))

    most : HeadWithin s (Some (head kind start size)) → skip_behind s (Some (head kind start size)) ≡ 0 → length s < kept_size
    most w z =
        ⊎_elim (λ k. let l = lacks (inl k) in let x = rw (lt-ltb 3 kind k) at z in absurd (omega arith))
        (λ k.
        ⊎_elim (λ l. let q = Frame.too_long s kind start size k l ∙ framed in let y : ◌≡◌ {A = ℕ} 0 1 = cc in absurd (omega arith))
        (λ l. omega (arith, lacks (inr l), w.0))
        (order max_value size))
        (order 3 kind)

  of-head : (r : Option Head) → head_of s ≡ r → HeadWithin s r → skip_behind s r ≡ 0 → length s < kept_size
  of-head (Some x) g w z = most x.kind x.start x.length g w z
  of-head None g w z = omega arith

-- the bytes of an open capsule that is not skipped
pub kept-within : (s : List ℕ) → Bytes s → read_capsule s ≡ refused Incomplete → to_skip s ≡ 0 → length s < kept_size
unfolding to_skip
kept-within s h e z = of-head s (waits-frame s e) (head_of s) refl (head-within s h) z
