-- One call on a sound store: what was still to come of the bytes is what it hands out and what is still to come after it. Assumes nothing.
use Rattle.std.proofs.Common.{Result, Ok, Err}
use Prim.Native.Nat.{ℕ, zero, suc, ◌+◌, ◌-◌, ◌≤◌, ◌<◌}
use mathlib.Core.Bool.{Bool, true, false, ◌&&◌}
use mathlib.Core.Path.{◌≡◌, refl, sym, ap, ◌∙◌}
use mathlib.Core.List.{List, [], ◌∷◌, ◌++◌, append_assoc, append-nil}
use mathlib.Core.Logic.{⊎_elim}
use native.Mathlib.Omega.{arith}
use borrow.Author.Tests.{ltb-true, ltb-false, lt-ltb, le-ltb, le-leb, eqb-true, eqb-false}
use lib.Dec.{lit<, ltb, eqb}
use lib.ListN.{length, drop, length-append}
use lib.Seq.{take_all, drop-append-le, drop-append-add, drop-length}
use Rattle.answer.specs.declared.Refusal.{Refusal}
use Rattle.answer.specs.declared.Refusal.TheVariants.{Incomplete}
use Rattle.answer.specs.Choice.{pick}
use Rattle.answer.specs.Number.{number_of, number_of_injective}
use Rattle.answer.proofs.Tests.{order, and_both}
use Rattle.octets.specs.Big.{Bytes}
use Rattle.octets.proofs.BigLaws.{bytes_append}
use Rattle.varint.specs.Numbers.{limit, read_number}
use Rattle.capsule.specs.declared.FrameRead.{FrameRead}
use Rattle.capsule.specs.Heads.{head_of}
use Rattle.capsule.specs.Capsules.{Capsule, unknown, Reading, refused, capsule, frame_of, read_capsule}
use Rattle.capsule.specs.Sound.{Sound, sound-unknown}
use Rattle.capsule.proofs.ReadLaws.{read-within, read_more, read-sound}
use Rattle.capsule.proofs.RefusalLaws.{Faulty, refused_cases, waits-frame, frame-waits}
use Rattle.capsule.proofs.FrontLaws.{nothing-there, ends-behind}
use Rattle.stream.specs.Store.{Store, empty, to_skip, lacking, sound_stop, sound_store, keeping, out, wait, Fed, waiting, waits, remembers, on_reading, feed_open, feed_live, feed_store}
use Rattle.stream.specs.Feeding.{kept_size}
use Rattle.stream.specs.Buffer.{Told, ended, before, whole, given}
use Rattle.stream.proofs.SkipLaws.{Skipping, skipping, skip-waits, skip-ends, skip_below}
use Rattle.stream.proofs.SizeLaws.{kept-within}
use Rattle.stream.proofs.WholeLaws.{whole-read}

-- ---- what is still to come of the bytes t, given what is kept

abbrev skipping-over : List ℕ → ℕ → Told
skipping-over t n = pick (ltb (length t) n) (ended (Ok tt)) (before (unknown ∷ []) (whole (drop n t)))

abbrev resume_open : List ℕ → List ℕ → ℕ → Told
resume_open kept t zero = whole (kept ++ t)
resume_open kept t (suc n) = skipping-over t (suc n)

abbrev resume_store : List ℕ → ℕ → List ℕ → Result Unit Refusal → Told
resume_store kept n t (Ok _) = resume_open kept t n
resume_store kept n t (Err r) = ended (Err r)

unfoldable pub resume : Store → List ℕ → Told
resume k t = resume_store k.kept k.skip t k.stopped

pub resume-empty : (s : List ℕ) → resume empty s ≡ whole s
unfolding resume
resume-empty s = refl

-- ---- the rules of a store, as facts
pub record Open (k : Store) : Type 0 where
  -- what is kept is the front of an open capsule that is not skipped
  pub waits : k.skip ≡ 0 → read_capsule k.kept ≡ refused Incomplete
  pub keeps : k.skip ≡ 0 → to_skip k.kept ≡ 0
  -- while one is skipped nothing is kept
  pub alone : 0 < k.skip → k.kept ≡ []
  pub below : k.skip < limit
  pub stop : sound_stop k.stopped ≡ true

pub open_empty : Open empty
unfolding to_skip head_of read_number
open_empty = record { waits = λ e. nothing-there; keeps = λ e. refl; alone = λ h. refl; below = lit< tt; stop = refl }

lacking-frame : (r : Result FrameRead Refusal) → lacking r ≡ true → r ≡ Err Incomplete
lacking-frame (Ok _) e = let y : ◌≡◌ {A = ℕ} 0 1 = cc in absurd (omega arith)
lacking-frame (Err r) e = ap Err (number_of_injective r Incomplete (eqb-true (number_of r) 1 e))

module _ (k : Store) where
  pub store_open : sound_store k ≡ true → Open k
  unfolding sound_store
  store_open h =
      let p = and_both _ _ h in
      of (eqb k.skip 0) refl p.0 p.1
    where
      of : (b : Bool) → eqb k.skip 0 ≡ b
          → pick b (lacking (frame_of k.kept) && eqb (to_skip k.kept) 0) (eqb (length k.kept) 0 && ltb k.skip limit) ≡ true
          → sound_stop k.stopped ≡ true → Open k
      of true e h q =
          let p = and_both (lacking (frame_of k.kept)) (eqb (to_skip k.kept) 0) h in
          let z = eqb-true k.skip 0 e in
          record {
            waits = λ z. frame-waits k.kept (lacking-frame (frame_of k.kept) p.0);
            keeps = λ z. eqb-true (to_skip k.kept) 0 p.1;
            alone = λ y. absurd (omega arith);
            below = omega arith;
            stop = q;
          }
      of false e h q =
          let p = and_both (eqb (length k.kept) 0) (ltb k.skip limit) h in
          record {
            waits = λ z. absurd (eqb-false k.skip 0 e z);
            keeps = λ z. absurd (eqb-false k.skip 0 e z);
            alone = λ z. sym (take_all 0 k.kept (omega (arith, eqb-true (length k.kept) 0 p.0)));
            below = ltb-true k.skip limit p.1;
            stop = q;
          }

  pub open_store : Open k → sound_store k ≡ true
  unfolding sound_store
  open_store o = of (eqb k.skip 0) refl
    where
      of : (b : Bool) → eqb k.skip 0 ≡ b
          → (pick b (lacking (frame_of k.kept) && eqb (to_skip k.kept) 0) (eqb (length k.kept) 0 && ltb k.skip limit) && sound_stop k.stopped) ≡ true
      of true e =
          let z = eqb-true k.skip 0 e in
          rw (waits-frame k.kept (o.waits z), o.keeps z, o.stop)
      of false e =
          let z = eqb-false k.skip 0 e in
          let p : 0 < k.skip = ⊎_elim (λ h. h) (λ h. absurd (z (omega arith))) (order 0 k.skip) in
          rw (o.alone p, lt-ltb k.skip limit o.below, o.stop)

-- a sound store of bytes keeps fewer than the lent memory holds
pub open_within : (k : Store) → Open k → Bytes k.kept → length k.kept < kept_size
open_within k o h =
    ⊎_elim (λ (p : 0 < k.skip). let z : length k.kept ≡ 0 = ap length (o.alone p) in omega arith)
    (λ (p : k.skip ≤ 0). let z : k.skip ≡ 0 = omega arith in kept-within k.kept h (o.waits z) (o.keeps z))
    (order 0 k.skip)

-- ---- what is kept of an open capsule stands for its bytes
module _ (s t : List ℕ) where
  skip-whole : (n : ℕ) → Skipping s n → skipping-over t n ≡ whole (s ++ t)
  skip-whole n k =
      ⊎_elim (λ h. rw (lt-ltb (length t) n h) (sym (whole-read (s ++ t) (refused Incomplete) (skip-waits s t n k h))))
      (λ h.
      rw (le-ltb (length t) n h)
      (sym
      (whole-read (s ++ t) (capsule unknown k.start (length s + n)) (skip-ends s t n k h)
      ∙ ap (λ (l : List ℕ). before (unknown ∷ []) (whole l)) (drop-append-add s t n))))
      (order (length t) n)

  kept_whole : (n : ℕ) → to_skip s ≡ n → resume (keeping s n) t ≡ whole (s ++ t)
  unfolding resume
  kept_whole zero e = refl
  kept_whole (suc n) e = skip-whole (suc n) (skipping s n e)

kept_open : (s : List ℕ) (n : ℕ) → to_skip s ≡ n → n < limit → read_capsule s ≡ refused Incomplete → Open (keeping s n)
kept_open s zero z l e = record { waits = λ h. e; keeps = λ h. z; alone = λ h. absurd (omega arith); below = l; stop = refl }
kept_open s (suc n) z l e =
    record { waits = λ h. absurd (omega arith); keeps = λ h. absurd (omega arith); alone = λ h. refl; below = l; stop = refl }

skip_open : (n : ℕ) → 0 < n → n < limit → Open (record { kept = []; skip = n; stopped = (Ok tt) })
skip_open n h l = record { waits = λ z. absurd (omega arith); keeps = λ z. absurd (omega arith); alone = λ z. refl; below = l; stop = refl }

stop_open : (k : Store) (r : Refusal) → Open k → Faulty r → Open (record { kept = k.kept; skip = k.skip; stopped = Err r })
stop_open k r o f =
    record {
      waits = o.waits;
      keeps = o.keeps;
      alone = o.alone;
      below = o.below;
      stop = rw (le-leb 2 (number_of r) f.0, le-leb (number_of r) 7 f.1);
    }

bytes-none : Bytes []
bytes-none i = lit< tt

kept-bytes : (s : List ℕ) (n : ℕ) → Bytes s → Bytes (keeping s n).kept
kept-bytes s zero h = h
kept-bytes s (suc n) h = bytes-none

-- ---- the step
pub record Stepped (k : Store) (t : List ℕ) (f : Fed) : Type 0 where
  -- with any bytes u behind
  pub same : (u : List ℕ) → resume k (t ++ u) ≡ before (given f.said) (resume f.store (drop f.taken t ++ u))
  pub stays : Open f.store
  pub bytes : Bytes f.store.kept
  pub sound : (c : Capsule) → f.said ≡ out c → Sound c
  pub within : f.taken ≤ length t
  pub moves : 0 < length t → f.store.stopped ≡ Ok tt → 0 < f.taken
  pub live : f.store.stopped ≡ Ok tt → k.stopped ≡ Ok tt

none-given : (s : List ℕ) → given (waiting s) ≡ []
none-given [] = refl
none-given (b ∷ s) = refl

pub none_out : (s : List ℕ) (c : Capsule) → waiting s ≡ out c → Sound c
none_out [] c e = let y : ◌≡◌ {A = ℕ} 0 1 = cc in absurd (omega arith)
none_out (b ∷ s) c e = let y : ◌≡◌ {A = ℕ} 0 1 = cc in absurd (omega arith)

incomplete : (r : Refusal) → eqb (number_of r) 1 ≡ true → r ≡ Incomplete
incomplete r e = number_of_injective r Incomplete (eqb-true (number_of r) 1 e)

not_incomplete : (r : Refusal) → eqb (number_of r) 1 ≡ false → refused r ≡ refused Incomplete → ⊥
not_incomplete r e h =
    let w : r ≡ Incomplete = cc in
    let z : true ≡ false = ap (λ (q : Refusal). eqb (number_of q) 1) (sym w) ∙ e in
    let y : ◌≡◌ {A = ℕ} 0 1 = cc in omega arith

module _ (k : Store) (t : List ℕ) (o : Open k) (live : k.stopped ≡ Ok tt) where
  -- bytes kept
  module _ (none : k.skip ≡ 0) (bytes : Bytes (k.kept ++ t)) (old : Bytes k.kept) where
    abbrev s : List ℕ
    s = k.kept ++ t

    resumed : (u : List ℕ) → resume k (t ++ u) ≡ whole (s ++ u)
    unfolding resume
    resumed u = rw (live, none) (ap whole (sym (append_assoc k.kept t u)))

    on-refused : (r : Refusal) → read_capsule s ≡ refused r → (b : Bool) → eqb (number_of r) 1 ≡ b → Stepped k t (pick b (waits (length t) s) (remembers k r))
    unfolding resume
    on-refused r e true q =
        let i : read_capsule s ≡ refused Incomplete = e ∙ ap refused (incomplete r q) in
        record {
          same = λ u.
              resumed u
              ∙ sym (kept_whole s u (to_skip s) refl)
              ∙ ap (λ (l : List ℕ). resume (keeping s (to_skip s)) (l ++ u)) (sym (drop-length t))
              ∙ ap (λ (cs : List Capsule). before cs (resume (keeping s (to_skip s)) (drop (length t) t ++ u))) (sym (none-given s));
          stays = kept_open s (to_skip s) refl (skip_below s bytes) i;
          bytes = kept-bytes s (to_skip s) bytes;
          sound = none_out s;
          within = omega arith;
          moves = λ b l. b;
          live = λ z. live;
        }
    on-refused r e false q =
        record {
          same = λ u. resumed u ∙ whole-read (s ++ u) (refused r) (read_more s u (refused r) e (not_incomplete r q)) ∙ rw q;
          stays =
              stop_open k r o (⊎_elim (λ p. absurd (not_incomplete r q (ap refused p.0))) (λ p. p) (refused_cases s r e));
          bytes = old;
          sound = λ c z. let y : ◌≡◌ {A = ℕ} 0 1 = cc in absurd (omega arith);
          within = omega arith;
          moves = λ b l. let y : ◌≡◌ {A = ℕ} 0 1 = cc in absurd (omega arith);
          live = λ z. live;
        }

    on-reading : (r : Reading) → read_capsule s ≡ r → Stepped k t (on_reading k (length t) s r)
    unfolding resume
    on-reading (refused r) e = on-refused r e (eqb (number_of r) 1) refl
    on-reading (capsule c start size) e =
        let p = ends-behind k.kept t c start size (o.waits none) e in
        let w = read-within s c start size e in
        let l : size - length k.kept ≤ length t = omega (arith, p, w.1, length-append k.kept t) in
        let z : size ≡ length k.kept + (size - length k.kept) = omega (arith, p) in
        record {
          same = λ u.
              resumed u
              ∙ whole-read (s ++ u) (capsule c start size) (read_more s u (capsule c start size) e (λ h. let y : ◌≡◌ {A = ℕ} 0 1 = cc in omega arith))
              ∙ ap (λ (x : List ℕ). before (c ∷ []) (whole x)) (behind u l z);
          stays = open_empty;
          bytes = bytes-none;
          sound = λ d q. let y : c ≡ d = cc in rw y at (read-sound s c start size e);
          within = l;
          moves = λ b m. omega (arith, p);
          live = λ z. live;
        }
      where
        behind : (u : List ℕ) → size - length k.kept ≤ length t → size ≡ length k.kept + (size - length k.kept)
            → drop size (s ++ u) ≡ drop (size - length k.kept) t ++ u
        behind u l z =
            ap (λ (n : ℕ). drop n (s ++ u)) z
            ∙ ap (drop (length k.kept + (size - length k.kept))) (append_assoc k.kept t u)
            ∙ drop-append-add k.kept (t ++ u) (size - length k.kept)
            ∙ drop-append-le (size - length k.kept) t u l

  -- a capsule that is skipped
  module _ (n : ℕ) (some : k.skip ≡ suc n) where
    resumed-skip : (u : List ℕ) → resume k (t ++ u) ≡ skipping-over (t ++ u) (suc n)
    unfolding resume
    resumed-skip u = rw (live, some)

    go_on : (j : ℕ) → suc n - length t ≡ suc j → (u : List ℕ)
        → skipping-over (t ++ u) (suc n) ≡ resume (record { kept = []; skip = suc n - length t; stopped = (Ok tt) }) (drop (length t) t ++ u)
    unfolding resume
    go_on j e u =
        let d : drop (length t) t ++ u ≡ u = ap (λ (x : List ℕ). x ++ u) (drop-length t) in
        let z : suc n ≡ length t + suc j = omega arith in
        rw (e, d, z)
        (⊎_elim (λ h. rw (lt-ltb (length u) (suc j) h, lt-ltb (length (t ++ u)) (length t + suc j) (simp length-append (omega arith))))
        (λ h.
        rw (le-ltb (length u) (suc j) h, le-ltb (length (t ++ u)) (length t + suc j) (simp length-append (omega arith)))
        (ap (λ (x : List ℕ). before (unknown ∷ []) (whole x)) (drop-append-add t u (suc j))))
        (order (length u) (suc j)))

    on-skip : (b : Bool) → ltb (length t) (suc n) ≡ b
        → Stepped k t (pick b (record { said = wait; taken = length t; store = record { kept = []; skip = suc n - length t; stopped = (Ok tt) } }) (record { said = out unknown; taken = suc n; store = empty }))
    unfolding resume
    on-skip true q =
        let l = ltb-true (length t) (suc n) q in
        let m : suc n - length t < limit = omega (arith, o.below) in
        record {
          same = λ u. resumed-skip u ∙ go_on (n - length t) (omega arith) u;
          stays = skip_open (suc n - length t) (omega arith) m;
          bytes = bytes-none;
          sound = λ c z. let y : ◌≡◌ {A = ℕ} 0 1 = cc in absurd (omega arith);
          within = omega arith;
          moves = λ b m. b;
          live = λ z. live;
        }
    on-skip false q =
        let l = ltb-false (length t) (suc n) q in
        record {
          same = λ u.
              resumed-skip u
              ∙ rw (le-ltb (length (t ++ u)) (suc n) (simp length-append (omega arith)))
              (ap (λ (x : List ℕ). before (unknown ∷ []) (whole x)) (drop-append-le (suc n) t u l));
          stays = open_empty;
          bytes = bytes-none;
          sound = λ c z. let y : unknown ≡ c = cc in rw y at sound-unknown;
          within = l;
          moves = λ b m. omega arith;
          live = λ z. live;
        }

  on_open : Bytes (k.kept ++ t) → Bytes k.kept → (n : ℕ) → k.skip ≡ n → Stepped k t (feed_open k t n)
  on_open h g zero e = on-reading e h g (read_capsule (k.kept ++ t)) refl
  on_open h g (suc n) e = on-skip n e (ltb (length t) (suc n)) refl

module _ (k : Store) (t : List ℕ) (o : Open k) (old : Bytes k.kept) (new : Bytes t) where
  on-live : (v : Result Unit Refusal) → k.stopped ≡ v → Stepped k t (feed_live k t v)
  unfolding resume
  on-live (Ok _) e = on_open k t o e (bytes_append k.kept t old new) old k.skip refl
  on-live (Err r) e =
      record {
        same = λ u. rw e;
        stays = o;
        bytes = old;
        sound = λ c z. let y : ◌≡◌ {A = ℕ} 0 1 = cc in absurd (omega arith);
        within = omega arith;
        moves = λ b l. let y : ◌≡◌ {A = ℕ} 0 1 = cc in absurd (omega arith);
        live = λ z. z;
      }

  pub step : Stepped k t (feed_store k t)
  unfolding feed_store
  step = on-live k.stopped refl

-- at the end of the bytes
pub resume-end : (k : Store) → Open k → resume k [] ≡ ended k.stopped
unfolding resume
resume-end k o = of k.stopped k.skip refl
  where
    of : (v : Result Unit Refusal) (n : ℕ) → k.skip ≡ n → resume_store k.kept n [] v ≡ ended v
    of (Err r) n e = refl
    of (Ok _) (suc n) e = rw (lt-ltb 0 (suc n) (omega arith))
    of (Ok _) zero e = ap whole (append-nil k.kept) ∙ whole-read k.kept (refused Incomplete) (o.waits e)

-- after a refusal no byte counts
pub resume-stopped : (k : Store) (t : List ℕ) → (k.stopped ≡ Ok tt → ⊥) → resume k t ≡ ended k.stopped
unfolding resume
resume-stopped k t h = of k.stopped refl
  where
    of : (v : Result Unit Refusal) → k.stopped ≡ v → resume_store k.kept k.skip t v ≡ ended v
    of (Ok _) e = absurd (h e)
    of (Err r) e = refl
