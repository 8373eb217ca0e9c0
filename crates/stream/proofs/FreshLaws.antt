-- An empty store: nothing is kept, so the bytes given start the capsule, and each case is that of a store that skips nothing. Assumes nothing.
use Rattle.std.proofs.Common.{Option, Some, None, Result}
use Prim.Native.Nat.{ℕ, ◌+◌, ◌-◌, ◌≤◌, ◌<◌}
use mathlib.Core.Bool.{true, false, ◌&&◌}
use mathlib.Core.Path.{◌≡◌, refl, sym, ap, ◌∙◌}
use mathlib.Core.List.{List, [], ◌++◌}
use native.Mathlib.Omega.{arith}
use borrow.Author.Tests.{eq-eqb, ne_eqb, eqb-true}
use lib.Dec.{eqb}
use lib.ListN.{length, get_or, set, take, drop, length-drop}
use lib.Seq.{length-take-le, take_all, set-get_or}
use Rattle.answer.proofs.Tests.{and_both}
use Rattle.octets.proofs.Parts.{part-part}
use Rattle.output.specs.Places.{Put}
use Rattle.output.proofs.Placing.{put_as}
use Rattle.varint.specs.Numbers.{limit, read_number}
use Rattle.capsule.specs.declared.Head.{Head}
use Rattle.capsule.specs.declared.Kind.TheVariants.{Datagram}
use Rattle.capsule.specs.Heads.{head, head_size, head_of, HeadRead}
use Rattle.capsule.specs.Capsules.{max_value}
use Rattle.state.specs.State.{store_at, state_words}
use Rattle.answer.specs.declared.Refusal.{Refusal}
use Rattle.stream.specs.declared.feeding.Piece.{Piece}
use Rattle.stream.specs.Store.{empty, on_skip, sound_store}
use Rattle.stream.specs.Feeding.{kept_size, store_in, fed}
use Rattle.stream.specs.Inner.{is_empty, handing, emptied, Moves, Keeps, Goes, keeps_all, Fresh, Collecting}
use Rattle.stream.proofs.StepLaws.{open_empty, open_store}
use Rattle.stream.proofs.CodeLaws as Code

-- ---- the test
module _ (w : List ℕ) where
  pub empty-keeps : (get_or w store_at 0 ≡ 0 → ⊥) → false ≡ is_empty w
  empty-keeps h = sym (rw (ne_eqb (get_or w store_at 0) 0 h))

  module _ (none : get_or w store_at 0 ≡ 0) where
    pub empty-skips : (get_or w (store_at + 1) 0 ≡ 0 → ⊥) → false ≡ is_empty w
    empty-skips h = sym (rw (eq-eqb (get_or w store_at 0) 0 none, ne_eqb (get_or w (store_at + 1) 0) 0 h))

    pub empty-stops : get_or w (store_at + 1) 0 ≡ 0 → eqb (get_or w (store_at + 2) 0) 0 ≡ is_empty w
    empty-stops e = sym (rw (eq-eqb (get_or w store_at 0) 0 none, eq-eqb (get_or w (store_at + 1) 0) 0 e))

  pub fresh : length w ≡ state_words → is_empty w ≡ true → Fresh w
  fresh size e =
      let p = and_both (eqb (get_or w store_at 0) 0) (eqb (get_or w (store_at + 1) 0) 0 && eqb (get_or w (store_at + 2) 0) 0) e in
      let q = and_both (eqb (get_or w (store_at + 1) 0) 0) (eqb (get_or w (store_at + 2) 0) 0) p.1 in
      record {
        live =
            record {
              size = size;
              skip = eqb-true (get_or w (store_at + 1) 0) 0 q.0;
              stopped = eqb-true (get_or w (store_at + 2) 0) 0 q.1;
            };
        none = eqb-true (get_or w store_at 0) 0 p.0;
      }

-- the value of a DATAGRAM among the bytes given
value-part : (t : List ℕ) (start end : ℕ) → start ≤ end → end ≤ length t → take (end - start) (drop start t) ≡ drop start (take end t)
value-part t start end h there =
    let z : 0 + start ≡ start = omega arith in
    sym (rw z at (part-part t 0 end start (end - start) (omega arith)))
    ∙ take_all (end - start) (drop start (take end t)) (omega (arith, length-drop start (take end t), length-take-le end t there))

-- its words are 0 already
emptied-same : {w : List ℕ} → Fresh w → emptied w ≡ w
emptied-same {w} f =
    ap (λ (x : List ℕ). set x (store_at + 1) 0) (ap (set w store_at) (sym f.none) ∙ set-get_or w store_at 0)
    ∙ ap (set w (store_at + 1)) (sym f.live.skip)
    ∙ set-get_or w (store_at + 1) 0

module _ {w : List ℕ} (f : Fresh w) (held : List ℕ) (room : length held ≡ kept_size) where
  abbrev kept : List ℕ
  kept = take (get_or w store_at 0) held

  kept-none : kept ≡ []
  kept-none = ap (λ (n : ℕ). take n held) f.none

  store-empty : store_in w held ≡ empty
  store-empty = rw (f.none, f.live.skip, f.live.stopped)

  -- it keeps its rules
  pub collecting : Collecting w held
  collecting =
      record {
        live = f.live;
        sound = ap sound_store store-empty ∙ open_store empty open_empty;
        within = omega (arith, f.none);
        room = room;
      }

  -- and has no type and no length
  pub no-head : HeadRead kept None
  unfolding head_of read_number
  no-head = rw kept-none record { reading = refl; within = omega arith }

  -- ---- the cases of a call
  module _ (t : List ℕ) {h : Option Head} (hr : HeadRead t h) where
    pub front : HeadRead (kept ++ t) h
    front = Code.head-none kept t (ap length kept-none) hr

    abbrev Called : List ℕ → List ℕ → Result Piece Refusal → List ℕ → List ℕ → List ℕ → List ℕ → Type 0
    Called before l r later holds after list = Goes (fed w held t) w held before l r later holds after list

    module _ {kind start len : ℕ} (e : h ≡ Some (head kind start len)) where
      pub bounds : (start ≤ head_size) × (start ≤ length t) × (len < limit)
      bounds = rw e at hr.within

      pub first-other : {before l : List ℕ} {r : Result Piece Refusal} {later : List ℕ} → 3 < kind → Moves (on_skip (start + len) (length t)) w r later → Called before l r later held before l
      first-other a g = Code.goes_other collecting t front e a (start + len) (omega (arith, f.none)) g

      pub lacks-fits : len ≤ max_value → length t < start + len → get_or w store_at 0 + length t ≤ length held
      lacks-fits b q = omega (arith, f.none, bounds.0)

      pub first-lacks : {before l : List ℕ} {r : Result Piece Refusal} {later holds : List ℕ} → kind ≤ 3 → len ≤ max_value → length t < start + len
          → Keeps (keeps_all kept t) w held r later holds → Called before l r later holds before l
      first-lacks a b q k = Code.goes-lacks collecting t front e a b (omega (arith, f.none)) k

      -- the capsule is all there
      module _ (there : start + len ≤ length t) (short : len ≤ max_value) where
        pub first-datagram : {before l after : List ℕ} {m : ℕ} → kind ≡ 0 → Put (take (start + len - start) (drop start t)) 0 before m after
            → Called before l (handing Datagram m (start + len)) w held after l
        first-datagram z p =
            let v : take (start + len - start) (drop start t) ≡ drop start (kept ++ take (start + len) t) =
            value-part t start (start + len) (omega arith) there ∙ ap (drop start) (Code.none_kept held (take (start + len) t) f.none) in
            Code.goes-datagram collecting t front e (start + len) (omega (arith, f.none)) there short z (put_as v p) (record { answer = refl; state = sym (emptied-same f) })
