-- What the front of some bytes says of a capsule: one that was not all there ends behind the bytes that were there, and one of another type ends
-- where type and length say. Assumes nothing.
use Rattle.std.proofs.Common.{Option, Some, None}
use Prim.Native.Nat.{ℕ, ◌+◌, ◌≤◌, ◌<◌}
use mathlib.Core.Path.{◌≡◌, refl, sym, ap, ◌∙◌}
use mathlib.Core.List.{List, [], ◌++◌}
use mathlib.Core.Logic.{inl, ⊎_elim}
use native.Mathlib.Omega.{arith}
use borrow.Author.Tests.{ne_eqb}
use lib.ListN.{length, take, drop, length-take, length-drop}
use lib.Seq.{take-append-le, drop-append-le}
use Rattle.answer.specs.declared.Refusal.TheVariants.{Incomplete}
use Rattle.answer.proofs.Tests.{order}
use Rattle.octets.specs.Big.{Bytes}
use Rattle.varint.specs.declared.Number.{Number}
use Rattle.varint.specs.Numbers.{read_number, number}
use Rattle.varint.proofs.Reading as Number
use Rattle.capsule.specs.Heads.{head, head_length, head_type, head_of, HeadWithin}
use Rattle.capsule.specs.Capsules.{Capsule, unknown, refused, capsule, read_value, in_frame, frame_of, read_capsule}
use Rattle.capsule.proofs.FrameCases as Frames
use Rattle.capsule.proofs.HeadLaws as Heads
use Rattle.capsule.proofs.ReadFacts.{read_facts}
use Rattle.capsule.proofs.RefusalLaws.{waits-frame, frame-waits}

-- ---- no bytes
pub nothing-there : read_capsule [] ≡ refused Incomplete
unfolding read_capsule frame_of read_number
nothing-there = refl

-- ---- a capsule read from s ++ t that ends within s is there in s
module _ (s t : List ℕ) where
  number-front : (v n : ℕ) → read_number (s ++ t) ≡ Some (number v n) → n ≤ length s → read_number s ≡ Some (number v n)
  number-front v n e h = Number.read-front (s ++ t) s v n e (sym (take-append-le n s t h)) h

  pub framed-front : (kind start size : ℕ) → Frames.Framed (s ++ t) kind start size → start + size ≤ length s → Frames.Framed s kind start size
  framed-front kind start size f h =
      let a : f.n ≤ length s = omega (arith, f.starts) in
      let b : f.m ≤ length (drop f.n s) = simp length-drop (omega (arith, f.starts)) in
      let e : read_number (drop f.n s ++ t) ≡ Some (number size f.m) = rw drop-append-le at f.count in
      record {
        n = f.n;
        m = f.m;
        type = number-front kind f.n f.type a;
        count =
            Number.read-front (drop f.n s ++ t) (drop f.n s) size f.m e (sym (take-append-le f.m (drop f.n s) t b)) b;
        starts = f.starts;
        there = h;
        short = f.short;
      }

  -- so one that was not all there ends behind s
  pub ends-behind : (c : Capsule) (start size : ℕ) → read_capsule s ≡ refused Incomplete → read_capsule (s ++ t) ≡ capsule c start size → length s < size
  ends-behind c start size e g =
      let r = read_facts (s ++ t) c start size g in
      ⊎_elim (λ h. h)
      (λ h.
      let l : start + r.count ≤ length s = omega (arith, r.ends) in
      let f = Frames.framed-frame (framed-front r.kind start r.count r.framed l) in
      let q = waits-frame s e in
      let w : ◌≡◌ {A = ℕ} 0 1 = cc in absurd (omega arith))
      (order (length s) size)

-- ---- type and length
module _ (s : List ℕ) (h : Bytes s) where
  pub head-within : HeadWithin s (head_of s)
  unfolding head_of
  head-within = typed (read_number s) refl
    where
      counted : (kind n : ℕ) → read_number s ≡ Some (number kind n) → (r : Option Number) → read_number (drop n s) ≡ r → HeadWithin s (head_length kind n r)
      counted kind n e (Some q) g = (Heads.known s h kind n q.value q.size e g).within
      counted kind n e None g = (Heads.no_length s h kind n e g).within

      typed : (r : Option Number) → read_number s ≡ r → HeadWithin s (head_type s r)
      typed (Some q) e = counted q.value q.size e (read_number (drop q.size s)) refl
      typed None e = (Heads.no-type s h e).within

-- ---- a capsule of another type
pub other-value : (kind : ℕ) (v : List ℕ) (start end : ℕ) → 3 < kind → start + length v ≡ end → read_value kind v start ≡ capsule unknown start end
unfolding read_value
other-value kind v start end h e =
    rw (ne_eqb kind 0 (λ z. omega arith), ne_eqb kind 1 (λ z. omega arith), ne_eqb kind 2 (λ z. omega arith), ne_eqb kind 3 (λ z. omega arith))
    (ap (capsule unknown start) e)

module _ (s : List ℕ) (kind start size : ℕ) (e : head_of s ≡ Some (head kind start size)) (other : 3 < kind) where
  pub other-waits : length s < start + size → read_capsule s ≡ refused Incomplete
  other-waits h = frame-waits s (Heads.frame-known s kind start size e ∙ sym (Frames.incomplete s kind start size (inl other) h))

  pub other-ends : start + size ≤ length s → read_capsule s ≡ capsule unknown start (start + size)
  unfolding read_capsule
  other-ends h =
      ap (in_frame s) (Heads.frame-known s kind start size e ∙ sym (Frames.whole s kind start size (inl other) h))
      ∙ other-value kind (take size (drop start s)) start (start + size) other (simp (length-take, length-drop) (omega arith))
