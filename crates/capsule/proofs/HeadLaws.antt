-- Type and length of a capsule, by the code's cases; and they stay as they are when bytes are appended. Assumes nothing.
use Rattle.std.proofs.Common.{Option, Some, None, Err}
use Rattle.std.proofs.lemmas.Option.{same_Some}
use Prim.Native.Nat.{ℕ, ◌+◌, ◌≤◌, ◌<◌}
use mathlib.Core.Path.{◌≡◌, refl, sym, ap, ◌∙◌}
use mathlib.Core.List.{List, [], ◌++◌, append-nil}
use native.Mathlib.Omega.{arith}
use lib.ListN.{length, drop, length-drop, length-append}
use lib.Seq.{drop-append-le}
use Rattle.answer.specs.declared.Refusal.TheVariants.{Incomplete}
use Rattle.octets.specs.Big.{Bytes}
use Rattle.octets.proofs.BigLaws as Big
use Rattle.varint.specs.declared.Number.{Number}
use Rattle.varint.specs.Numbers.{read_number, number}
use Rattle.varint.proofs.Reading as Number
use Rattle.capsule.specs.declared.Head.{Head}
use Rattle.capsule.specs.Heads.{head, head_size, head_length, head_type, head_of, HeadRead}
use Rattle.capsule.specs.Capsules.{frame_at, after_length, after_type, frame_of}

module _ (s : List ℕ) where
  known-head : (kind n size m : ℕ) → read_number s ≡ Some (number kind n) → read_number (drop n s) ≡ Some (number size m) → Some (head kind (n + m) size) ≡ head_of s
  unfolding head_of
  known-head kind n size m e g = rw (e, g)

  module _ (h : Bytes s) where
    pub no-type : read_number s ≡ None → HeadRead s None
    unfolding head_of
    no-type e = record { reading = rw e; within = omega (arith, Number.cut_short s h e) }

    pub no_length : (kind n : ℕ) → read_number s ≡ Some (number kind n) → read_number (drop n s) ≡ None → HeadRead s None
    unfolding head_of
    no_length kind n e g =
        record {
          reading = rw (e, g);
          within = omega (arith, Number.size-most s kind n h e, Number.cut_short (drop n s) (Big.bytes_drop n s h) g, length-drop n s);
        }

    pub sizes : (kind n size m : ℕ) → read_number s ≡ Some (number kind n) → read_number (drop n s) ≡ Some (number size m) → (n ≤ 8) × (m ≤ 8)
    sizes kind n size m e g = (Number.size-most s kind n h e, Number.size-most (drop n s) size m (Big.bytes_drop n s h) g)

    pub known : (kind n size m : ℕ) → read_number s ≡ Some (number kind n) → read_number (drop n s) ≡ Some (number size m) → HeadRead s (Some (head kind (n + m) size))
    known kind n size m e g =
        let p = sizes kind n size m e g in
        record {
          reading = known-head kind n size m e g;
          within =
              (omega (arith, p.0, p.1), omega (arith, (Number.taken s kind n e).within, (Number.taken (drop n s) size m g).within, length-drop n s), Number.value-below (drop n s) size m (Big.bytes_drop n s h) g);
        }

  -- ---- the frame by the head
  head-typed : (r : Option Number) → read_number s ≡ r → (kind start size : ℕ) → head_type s r ≡ Some (head kind start size) → after_type s r ≡ frame_at s kind start size
  head-typed (Some q) t kind start size e = counted (read_number (drop q.size s)) refl e
    where
      counted : (r : Option Number) → read_number (drop q.size s) ≡ r → head_length q.value q.size r ≡ Some (head kind start size) → after_length s q.value q.size r ≡ frame_at s kind start size
      counted (Some number) g e =
          let p = same_Some _ _ e in
          let a : q.value ≡ kind = ap (λ (h : Head). h.kind) p in
          let b : q.size + number.size ≡ start = ap (λ (h : Head). h.start) p in
          let c : number.value ≡ size = ap (λ (h : Head). h.length) p in
          rw (a, b, c)
      counted None g e = let y : ◌≡◌ {A = ℕ} 0 1 = cc in absurd (omega arith)
  head-typed None t kind start size e = let y : ◌≡◌ {A = ℕ} 0 1 = cc in absurd (omega arith)

  pub frame-known : (kind start size : ℕ) → head_of s ≡ Some (head kind start size) → frame_of s ≡ frame_at s kind start size
  unfolding head_of frame_of
  frame-known kind start size e = head-typed (read_number s) refl kind start size e

  cut-typed : (r : Option Number) → head_type s r ≡ None → after_type s r ≡ Err Incomplete
  cut-typed (Some q) e = counted (read_number (drop q.size s)) e
    where
      counted : (r : Option Number) → head_length q.value q.size r ≡ None → after_length s q.value q.size r ≡ Err Incomplete
      counted (Some q) e = let y : ◌≡◌ {A = ℕ} 0 1 = cc in absurd (omega arith)
      counted None e = refl
  cut-typed None e = refl

  pub frame-cut : head_of s ≡ None → frame_of s ≡ Err Incomplete
  unfolding head_of frame_of
  frame-cut e = cut-typed (read_number s) e

-- ---- bytes appended
module _ (u w : List ℕ) where
  pub head_append : (kind start size : ℕ) → head_of u ≡ Some (head kind start size) → head_of (u ++ w) ≡ Some (head kind start size)
  unfolding head_of
  head_append kind start size e = typed (read_number u) refl e
    where
      counted : (k n : ℕ) → read_number u ≡ Some (number k n) → (r : Option Number) → read_number (drop n u) ≡ r → head_length k n r ≡ Some (head kind start size)
          → head_type (u ++ w) (read_number (u ++ w)) ≡ Some (head kind start size)
      counted k n t (Some q) g e =
          let l = (Number.taken u k n t).within in
          rw (Number.read_append u w k n t, drop-append-le n u w l, Number.read_append (drop n u) w q.value q.size g) e
      counted k n t None g e = let y : ◌≡◌ {A = ℕ} 0 1 = cc in absurd (omega arith)

      typed : (r : Option Number) → read_number u ≡ r → head_type u r ≡ Some (head kind start size) → head_type (u ++ w) (read_number (u ++ w)) ≡ Some (head kind start size)
      typed (Some q) t e = counted q.value q.size t (read_number (drop q.size u)) refl e
      typed None t e = let y : ◌≡◌ {A = ℕ} 0 1 = cc in absurd (omega arith)

  -- what the front says, all of it where type and length are cut
  pub head_more : (r : Option Head) → HeadRead u r → (length u < head_size → w ≡ []) → HeadRead (u ++ w) r
  head_more (Some x) h f =
      record {
        reading = sym (head_append x.kind x.start x.length (sym h.reading));
        within = (h.within.0, omega (arith, h.within.1, length-append u w), h.within.2);
      }
  head_more None h f =
      let e : u ++ w ≡ u = ap (λ (x : List ℕ). u ++ x) (f h.within) ∙ append-nil u in
      rw e h
