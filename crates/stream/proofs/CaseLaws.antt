-- One call on a live store that skips nothing, by what type and length say of the bytes kept and given. Assumes nothing.
use Rattle.std.proofs.Common.{Option, Some, None, Ok, Err}
use Prim.Native.Nat.{ℕ, zero, suc, ◌+◌, ◌-◌, ◌≤◌, ◌<◌}
use mathlib.Core.Bool.{true, false}
use mathlib.Core.Path.{◌≡◌, refl, sym, ap, ◌∙◌}
use mathlib.Core.List.{List, [], ◌∷◌, ◌++◌, append_assoc, append-nil}
use mathlib.Core.Logic.{inl, inr, ⊎_elim}
use native.Mathlib.Omega.{arith}
use borrow.Author.Tests.{lt-ltb, le-ltb, eq-eqb, ne_eqb}
use lib.Dec.{ltb, eqb}
use lib.ListN.{length, take, drop, length-take, length-drop, length-append, take-append-drop}
use lib.Seq.{take_at}
use Rattle.answer.specs.declared.Refusal.{Refusal}
use Rattle.answer.specs.declared.Refusal.TheVariants.{Incomplete, TooLong}
use Rattle.answer.specs.Number.{number_of, number_of_injective}
use Rattle.answer.proofs.Tests.{order}
use Rattle.varint.specs.Numbers.{limit, read_number}
use Rattle.capsule.specs.declared.Head.{Head}
use Rattle.capsule.specs.Heads.{head, head_size, head_of, HeadRead}
use Rattle.capsule.specs.Capsules.{frame_read, max_value, Capsule, datagram, unknown, Reading, refused, capsule, read_value, in_frame, frame_of, read_capsule}
use Rattle.capsule.proofs.FrameCases as Frame
use Rattle.capsule.proofs.HeadLaws.{frame-known, frame-cut}
use Rattle.capsule.proofs.FrontLaws.{framed-front, other-waits, other-ends}
use Rattle.capsule.proofs.ReadFacts.{Taken, value_facts}
use Rattle.capsule.proofs.ReadLaws.{read_more}
use Rattle.capsule.proofs.RefusalLaws.{waits-frame, frame-waits}
use Rattle.stream.specs.Store.{Store, out, wait, waiting, empty, skip_behind, to_skip, keeping, remembers, on_reading, on_skip, sound_store, feed_open, feed_live, feed_store}
use Rattle.stream.specs.Inner.{is_open, keeps_all, OneList}
use Rattle.stream.proofs.StepLaws.{store_open}

-- ---- bytes kept, of which type and length are cut, or say more
module _ (s : List ℕ) where
  cut-skip : head_of s ≡ None → to_skip s ≡ 0
  unfolding to_skip
  cut-skip e = ap (skip_behind s) e

  module _ (kind start len : ℕ) (e : head_of s ≡ Some (head kind start len)) where
    known-skip : kind ≤ 3 → to_skip s ≡ 0
    unfolding to_skip
    known-skip h = ap (skip_behind s) e ∙ rw (le-ltb 3 kind h)

    other-skip : 3 < kind → to_skip s ≡ start + len - length s
    unfolding to_skip
    other-skip h = ap (skip_behind s) e ∙ rw (lt-ltb 3 kind h)

    lacks-frame : Frame.Short kind len → length s < start + len → frame_of s ≡ Err Incomplete
    lacks-frame w h = frame-known s kind start len e ∙ sym (Frame.incomplete s kind start len w h)

    long-frame : kind ≤ 3 → max_value < len → frame_of s ≡ Err TooLong
    long-frame a b = frame-known s kind start len e ∙ sym (Frame.too_long s kind start len a b)

    pub whole-frame : Frame.Short kind len → start + len ≤ length s → frame_of s ≡ Ok (frame_read kind start len)
    whole-frame w h = frame-known s kind start len e ∙ sym (Frame.whole s kind start len w h)

-- no bytes say nothing
none-known : (s : List ℕ) (kind start len : ℕ) → length s ≡ 0 → head_of s ≡ Some (head kind start len) → ⊥
unfolding head_of read_number
none-known [] kind start len h e = let y : ◌≡◌ {A = ℕ} 0 1 = cc in omega arith
none-known (b ∷ s) kind start len h e = omega arith

-- ---- the rules of what is kept
module _ (s : List ℕ) {h : Option Head} (hr : HeadRead s h) where
  pub open_cut : h ≡ None → true ≡ is_open s
  open_cut e =
      let p : head_of s ≡ None = sym hr.reading ∙ e in
      sym (rw (frame-cut s p, cut-skip s p))

  module _ {kind start len : ℕ} (e : h ≡ Some (head kind start len)) where
    said : head_of s ≡ Some (head kind start len)
    said = sym hr.reading ∙ e

    pub open_bounds : (start ≤ head_size) × (start ≤ length s) × (len < limit)
    open_bounds = rw e at hr.within

    pub open_other : 3 < kind → false ≡ is_open s
    open_other a =
        ⊎_elim
        (λ (q : length s < start + len).
        sym (rw (lacks-frame s kind start len said (inl a) q, ne_eqb (to_skip s) 0 (λ z. omega (arith, other-skip s kind start len said a)))))
        (λ (q : start + len ≤ length s). sym (rw (whole-frame s kind start len said (inl a) q)))
        (order (length s) (start + len))

    pub open_long : kind ≤ 3 → max_value < len → false ≡ is_open s
    open_long a b = sym (rw (long-frame s kind start len said a b))

    pub open_value : kind ≤ 3 → len ≤ max_value → ltb (length s) (start + len) ≡ is_open s
    open_value a b =
        ⊎_elim
        (λ (q : length s < start + len).
        rw (lt-ltb (length s) (start + len) q, lacks-frame s kind start len said (inr b) q, known-skip s kind start len said a))
        (λ (q : start + len ≤ length s).
        rw (le-ltb (length s) (start + len) q, whole-frame s kind start len said (inr b) q))
        (order (length s) (start + len))

-- ---- a call

-- what was read decides, unless bytes are to come
reading-same : (k : Store) (n m : ℕ) (s u : List ℕ) (r : Reading) → (r ≡ refused Incomplete → ⊥) → on_reading k n s r ≡ on_reading k m u r
reading-same k n m s u (refused r) h =
    rw (ne_eqb (number_of r) 1 (λ z. h (ap refused (number_of_injective r Incomplete z))))
reading-same k n m s u (capsule c start size) h = refl

waiting-some : (s : List ℕ) → (length s ≡ 0 → ⊥) → wait ≡ waiting s
waiting-some [] e = absurd (e refl)
waiting-some (b ∷ s) e = refl

keeping-some : (s : List ℕ) (n : ℕ) → 0 < n → keeping s n ≡ record { kept = []; skip = n; stopped = (Ok tt) }
keeping-some s zero h = absurd (omega arith)
keeping-some s (suc n) h = refl

-- a live store that skips nothing
pub record Idle (k : Store) : Type 0 where
  pub sound : sound_store k ≡ true
  pub skip : k.skip ≡ 0
  pub stopped : k.stopped ≡ Ok tt

module _ {k : Store} (i : Idle k) where
  pub fed-reading : (t : List ℕ) (r : Reading) → read_capsule (k.kept ++ t) ≡ r → feed_store k t ≡ on_reading k (length t) (k.kept ++ t) r
  unfolding feed_store
  fed-reading t r e = ap (feed_live k t) i.stopped ∙ ap (feed_open k t) i.skip ∙ ap (on_reading k (length t) (k.kept ++ t)) e

  module _ (t : List ℕ) where
    abbrev s : List ℕ
    s = k.kept ++ t

    keeps : frame_of s ≡ Err Incomplete → to_skip s ≡ 0 → feed_store k t ≡ keeps_all k.kept t
    keeps e z = fed-reading t (refused Incomplete) (frame-waits s e) ∙ rw z

    pub fed-cut : head_of s ≡ None → feed_store k t ≡ keeps_all k.kept t
    fed-cut e = keeps (frame-cut s e) (cut-skip s e)

    module _ (kind start len : ℕ) (e : head_of s ≡ Some (head kind start len)) where
      -- the capsule ends behind what is kept
      pub ends-after : Frame.Short kind len → length k.kept < start + len
      ends-after w =
          ⊎_elim (λ h. h)
          (λ h.
          let l : start + len ≤ length s = omega (arith, length-append k.kept t) in
          let f = Frame.frame_facts s kind start len (whole-frame s kind start len e w l) in
          let p = Frame.framed-frame (framed-front k.kept t kind start len f h) in
          let q = waits-frame k.kept ((store_open k i.sound).waits i.skip) in
          let y : ◌≡◌ {A = ℕ} 0 1 = cc in absurd (omega arith))
          (order (length k.kept) (start + len))

      pub fed-lacks : kind ≤ 3 → len ≤ max_value → length s < start + len → feed_store k t ≡ keeps_all k.kept t
      fed-lacks a b h = keeps (lacks-frame s kind start len e (inr b) h) (known-skip s kind start len e a)

      pub fed-long : kind ≤ 3 → max_value < len → feed_store k t ≡ remembers k TooLong
      unfolding read_capsule
      fed-long a b = fed-reading t (refused TooLong) (ap (in_frame s) (long-frame s kind start len e a b))

      pub fed-other : 3 < kind → feed_store k t ≡ on_skip (start + len - length k.kept) (length t)
      fed-other h =
          let p = ends-after (inl h) in
          let l = length-append k.kept t in
          ⊎_elim
          (λ (q : length t < start + len - length k.kept).
          let w : length s < start + len = omega arith in
          rw (lt-ltb (length t) (start + len - length k.kept) q)
          (fed-reading t (refused Incomplete) (other-waits s kind start len e h w) ∙ waits-skip q))
          (λ (q : start + len - length k.kept ≤ length t).
          let w : start + len ≤ length s = omega arith in
          rw (le-ltb (length t) (start + len - length k.kept) q)
          (fed-reading t (capsule unknown start (start + len)) (other-ends s kind start len e h w)))
          (order (length t) (start + len - length k.kept))
        where
          waits-skip : length t < start + len - length k.kept
              → on_reading k (length t) s (refused Incomplete)
              ≡ record { said = wait; taken = length t; store = record { kept = []; skip = start + len - length k.kept - length t; stopped = (Ok tt) } }
          waits-skip q =
              let l = length-append k.kept t in
              let z : to_skip s ≡ start + len - length k.kept - length t = other-skip s kind start len e h ∙ omega arith in
              rw (z, sym (waiting-some s (λ y. none-known s kind start len y e)))
              (ap (λ (st : Store). record { said = wait; taken = length t; store = st }) (keeping-some s (start + len - length k.kept - length t) (omega arith)))

      -- a capsule all of which is there: n of the bytes given end it
      module _ (w : Frame.Short kind len) (n : ℕ) (en : length k.kept + n ≡ start + len) (there : n ≤ length t) where
        abbrev u : List ℕ
        u = k.kept ++ take n t

        front : u ++ drop n t ≡ s
        front = append_assoc k.kept (take n t) (drop n t) ∙ ap (λ (l : List ℕ). k.kept ++ l) (take-append-drop n t)

        pub front_length : length u ≡ start + len
        front_length = simp (length-append, length-take) (omega arith)

        reaches : start + len ≤ length s
        reaches = omega (arith, length-append k.kept t)

        -- its own bytes say the same
        pub front-frame : frame_of u ≡ Ok (frame_read kind start len)
        front-frame =
            Frame.framed-frame
            (framed-front u (drop n t) kind start len (rw (sym front) at (Frame.frame_facts s kind start len (whole-frame s kind start len e w reaches))) (omega (arith, front_length)))

        not_waiting : read_capsule u ≡ refused Incomplete → ⊥
        not_waiting z =
            let f = front-frame in
            let q = waits-frame u z in
            let y : ◌≡◌ {A = ℕ} 0 1 = cc in omega arith

        pub fed-front : feed_store k t ≡ feed_store k (take n t)
        fed-front =
            fed-reading t (read_capsule u) (ap read_capsule (sym front) ∙ read_more u (drop n t) (read_capsule u) refl not_waiting)
            ∙ reading-same k (length t) (length (take n t)) s u (read_capsule u) not_waiting
            ∙ sym (fed-reading (take n t) (read_capsule u) refl)

        pub front-list : 0 < kind → kind ≤ 3 → OneList u
        front-list a b =
            record { kind = kind; start = start; count = len; frame = front-frame; ends = sym front_length; known = (a, b) }

        pub fed-datagram : kind ≡ 0 → feed_store k t ≡ record { said = out (datagram (drop start u)); taken = n; store = empty }
        unfolding read_capsule read_value
        fed-datagram z =
            let l : length (drop start u) ≡ len = length-drop start u ∙ omega (arith, front_length) in
            let v : take len (drop start u) ≡ drop start u = ap (take len) (sym (append-nil (drop start u))) ∙ take_at (drop start u) [] len l in
            let m : start + len - length k.kept ≡ n = omega arith in
            fed-front
            ∙ fed-reading (take n t) (capsule (datagram (drop start u)) start (start + len))
            (ap (in_frame u) front-frame ∙ rw (v, eq-eqb kind 0 z, l))
            ∙ rw m

-- ---- a capsule that holds a list
module _ {u : List ℕ} (x : OneList u) where
  pub list-framed : read_capsule u ≡ read_value x.kind (take x.count (drop x.start u)) x.start
  unfolding read_capsule
  list-framed = ap (in_frame u) x.frame

  pub list-whole : (r : Refusal) → read_capsule u ≡ refused r → eqb (number_of r) 1 ≡ false
  list-whole r e =
      ne_eqb (number_of r) 1
      (λ z.
      let q = waits-frame u (e ∙ ap refused (number_of_injective r Incomplete z)) in
      let f = x.frame in
      let y : ◌≡◌ {A = ℕ} 0 1 = cc in omega arith)

  pub list-ends : (c : Capsule) (a z : ℕ) → read_capsule u ≡ capsule c a z → (z ≡ length u) × Taken x.kind (take x.count (drop x.start u)) c
  list-ends c a z e =
      let v = value_facts x.kind (take x.count (drop x.start u)) x.start c a z (sym list-framed ∙ e) in
      (v.ends ∙ simp (length-take, length-drop) (omega (arith, x.ends)), v.taken)
