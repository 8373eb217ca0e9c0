-- Type and length of a capsule, by the code's cases. Assumes nothing.
use Rattle.std.proofs.Common.{Option, Some, None, Result, Ok, Err}
use Rattle.std.proofs.lemmas.Option.{same_Some}
use Rattle.std.specs.Result.{result_ok}
use Prim.Native.Nat.{ℕ, ◌+◌, ◌≤◌, ◌<◌}
use mathlib.Core.Bool.{Bool, true, false, ◌&&◌, and-false}
use mathlib.Core.Path.{◌≡◌, refl, sym, ap, ◌∙◌}
use mathlib.Core.List.{List, ◌++◌}
use mathlib.Core.Logic.{◌⊎◌, inl, inr, ⊎_elim}
use native.Mathlib.Omega.{arith}
use borrow.Author.Tests.{le-leb, lt-leb, lt-ltb, le-ltb, leb-true, ltb-true, ltb-false}
use lib.Dec.{leb, ltb}
use lib.ListN.{length, drop, length-drop, length-append}
use lib.Seq.{drop-append-le}
use Rattle.answer.specs.declared.Refusal.{Refusal}
use Rattle.answer.specs.declared.Refusal.TheVariants.{Incomplete, TooLong}
use Rattle.varint.specs.declared.Number.{Number}
use Rattle.varint.specs.Numbers.{read_number, number}
use Rattle.varint.proofs.Reading as Number
use Rattle.capsule.specs.declared.FrameRead.{FrameRead}
use Rattle.answer.specs.Choice.{pick}
use Rattle.answer.proofs.Tests.{and_both, order}
use Rattle.capsule.specs.Capsules.{frame_read, max_value, frame_at, after_length, after_type, frame_of}

-- a value of another type is of any length; of types 0 to 3 it is within the limit
abbrev pub Short : ℕ → ℕ → Type 0
Short kind size = (3 < kind) ⊎ (size ≤ max_value)

module _ (s : List ℕ) (kind start size : ℕ) where
  pub too_long : kind ≤ 3 → max_value < size → Err TooLong ≡ frame_at s kind start size
  too_long h g = simp (le-leb kind 3 h, lt-ltb max_value size g)

  limit_test : Short kind size → (leb kind 3 && ltb max_value size) ≡ false
  limit_test h = ⊎_elim (λ g. rw (lt-leb kind 3 g)) (λ g. rw (le-ltb max_value size g) (and-false (leb kind 3))) h

  pub incomplete : Short kind size → length s < start + size → Err Incomplete ≡ frame_at s kind start size
  incomplete h g = rw (limit_test h, lt-leb (start + size) (length s) g)

  pub whole : Short kind size → start + size ≤ length s → Ok (frame_read kind start size) ≡ frame_at s kind start size
  whole h g = rw (limit_test h, le-leb (start + size) (length s) g)

module _ (s : List ℕ) where
  pub no-type : read_number s ≡ None → Err Incomplete ≡ frame_of s
  unfolding frame_of
  no-type e = rw e

  module _ (kind n : ℕ) (e : read_number s ≡ Some (number kind n)) where
    pub no_length : read_number (drop n s) ≡ None → Err Incomplete ≡ frame_of s
    unfolding frame_of
    no_length g = rw (e, g)

    pub framed : (size m : ℕ) → read_number (drop n s) ≡ Some (number size m) → frame_at s kind (n + m) size ≡ frame_of s
    unfolding frame_of
    framed size m g = rw (e, g)

    -- type and length lie within s
    pub start-within : (size m : ℕ) → read_number (drop n s) ≡ Some (number size m) → n + m ≤ length s
    start-within size m g =
        let a : n ≤ length s = (Number.taken s kind n e).within in
        let b : m ≤ length (drop n s) = (Number.taken (drop n s) size m g).within in
        omega (arith, length-drop n s)

-- ---- what a frame says
pub record Framed (s : List ℕ) (kind start size : ℕ) : Type 0 where
  pub n : ℕ
  pub m : ℕ
  pub type : read_number s ≡ Some (number kind n)
  pub count : read_number (drop n s) ≡ Some (number size m)
  pub starts : start ≡ n + m
  pub there : start + size ≤ length s
  pub short : kind ≤ 3 → size ≤ max_value

-- the three answers
pub data FrameCase (s : List ℕ) : Result FrameRead Refusal → Type 0 where
  there : {kind start size : ℕ} → Framed s kind start size → FrameCase s (Ok (frame_read kind start size))
  long : {kind n size m : ℕ} → read_number s ≡ Some (number kind n) → read_number (drop n s) ≡ Some (number size m) → kind ≤ 3 → max_value < size
      → FrameCase s (Err TooLong)
  lacking : FrameCase s (Err Incomplete)

module _ (s : List ℕ) where
  at_case : (kind n size m : ℕ) → read_number s ≡ Some (number kind n) → read_number (drop n s) ≡ Some (number size m) → FrameCase s (frame_at s kind (n + m) size)
  at_case kind n size m e g = limited (leb kind 3 && ltb max_value size) refl
    where
      within : (leb kind 3 && ltb max_value size) ≡ false → (b : Bool) → leb (n + m + size) (length s) ≡ b
          → FrameCase s (pick b (Ok (frame_read kind (n + m) size)) (Err Incomplete))
      within f true t =
          there (record {
            n = n;
            m = m;
            type = e;
            count = g;
            starts = refl;
            there = leb-true (n + m + size) (length s) t;
            short = λ h. ltb-false max_value size (rw (le-leb kind 3 h) at f);
          })
      within f false t = lacking

      limited : (b : Bool) → (leb kind 3 && ltb max_value size) ≡ b
          → FrameCase s (pick b (Err TooLong) (pick (leb (n + m + size) (length s)) (Ok (frame_read kind (n + m) size)) (Err Incomplete)))
      limited true f =
          let p = and_both (leb kind 3) (ltb max_value size) f in
          long e g (leb-true kind 3 p.0) (ltb-true max_value size p.1)
      limited false f = within f (leb (n + m + size) (length s)) refl

  pub frame_case : FrameCase s (frame_of s)
  unfolding frame_of
  frame_case = typed (read_number s) refl
    where
      counted : (kind n : ℕ) → read_number s ≡ Some (number kind n) → (r : Option Number) → read_number (drop n s) ≡ r → FrameCase s (after_length s kind n r)
      counted kind n e (Some q) g = at_case kind n q.value q.size e g
      counted kind n e None g = lacking

      typed : (r : Option Number) → read_number s ≡ r → FrameCase s (after_type s r)
      typed (Some q) e = counted q.value q.size e (read_number (drop q.size s)) refl
      typed None e = lacking

  of-value : (r : Result FrameRead Refusal) (k a z : ℕ) → FrameCase s r → r ≡ Ok (frame_read k a z) → Framed s k a z
  of-value r k a z (there {kind} {start} {size} f) e =
      let p = same_Some _ _ (ap result_ok e) in
      let x : kind ≡ k = ap (λ (g : FrameRead). g.kind) p in
      let y : start ≡ a = ap (λ (g : FrameRead). g.start) p in
      let w : size ≡ z = ap (λ (g : FrameRead). g.length) p in
      rw (x, y, w) at f
  of-value r k a z (long e g h l) q = let w : ◌≡◌ {A = ℕ} 0 1 = cc in absurd (omega arith)
  of-value r k a z lacking q = let w : ◌≡◌ {A = ℕ} 0 1 = cc in absurd (omega arith)

  pub frame_facts : (kind start size : ℕ) → frame_of s ≡ Ok (frame_read kind start size) → Framed s kind start size
  frame_facts kind start size e = of-value (frame_of s) kind start size frame_case e

module _ {s : List ℕ} {kind start size : ℕ} (f : Framed s kind start size) where
  short-either : Short kind size
  short-either = ⊎_elim (λ h. inl h) (λ h. inr (f.short h)) (order 3 kind)

  pub framed-frame : frame_of s ≡ Ok (frame_read kind start size)
  framed-frame =
      let l : f.n + f.m + size ≤ length s = omega (arith, f.starts, f.there) in
      sym (rw f.starts (whole s kind (f.n + f.m) size short-either l ∙ framed s kind f.n f.type size f.m f.count))

-- bytes appended
module _ (s t : List ℕ) where
  read_behind : (n v m : ℕ) → n ≤ length s → read_number (drop n s) ≡ Some (number v m) → read_number (drop n (s ++ t)) ≡ Some (number v m)
  read_behind n v m h e = rw (drop-append-le n s t h) (Number.read_append (drop n s) t v m e)

  pub framed_append : (kind start size : ℕ) → Framed s kind start size → Framed (s ++ t) kind start size
  framed_append kind start size f =
      record {
        n = f.n;
        m = f.m;
        type = Number.read_append s t kind f.n f.type;
        count = read_behind f.n size f.m (Number.taken s kind f.n f.type).within f.count;
        starts = f.starts;
        there = omega (arith, f.there, length-append s t);
        short = f.short;
      }

  pub long_append : (kind n size m : ℕ) → read_number s ≡ Some (number kind n) → read_number (drop n s) ≡ Some (number size m) → kind ≤ 3 → max_value < size
      → frame_of (s ++ t) ≡ Err TooLong
  long_append kind n size m e g h l =
      sym (too_long (s ++ t) kind (n + m) size h l
      ∙ framed (s ++ t) kind n (Number.read_append s t kind n e) size m (read_behind n size m (Number.taken s kind n e).within g))
