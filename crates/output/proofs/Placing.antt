-- Bytes put at a place: by a store, by a part of the output handed back, one after the other, at the front, and in a loop. Assumes nothing.
use Prim.Native.Nat.{ℕ, ◌+◌, ◌-◌, ◌<◌, ◌≤◌}
use mathlib.Core.Path.{◌≡◌, refl, sym, ap, ◌∙◌}
use mathlib.Core.List.{List, [], ◌∷◌, ◌++◌, append_assoc, append-nil}
use native.Mathlib.Numerals.{add-one}
use native.Mathlib.Omega.{arith}
use lib.ListN.{length, take, drop, set, length-set, length-append, length-take, length-drop, take-append-drop}
use lib.Seq.{take_at, drop_at, drop-drop, take-suc-set, drop-set-lt}
use borrow.Rule.Slice.PartMut.{put_mid}
use Rattle.octets.proofs.Parts.{tail, put_tail}
use Rattle.output.specs.Places.{Put}

-- no byte
pub put-none : (at : ℕ) (a : List ℕ) → Put [] at a at a
put-none at a = record { place = omega arith; front = sym (append-nil (take at a)); rest = refl; kept = refl }

-- m, and then n behind it
pub put_then : {m n a b c : List ℕ} {at r s : ℕ} → Put m at a r b → Put n r b s c → Put (m ++ n) at a s c
put_then {m} {n} {a} {b} {c} {at} {r} {s} p q =
    record {
      place = omega (arith, length-append m n);
      front = q.front ∙ ap (λ (l : List ℕ). l ++ n) p.front ∙ append_assoc (take at a) m n;
      rest =
          q.rest ∙ ap (λ (k : ℕ). drop k b) q.place ∙ sym (drop-drop (length n) r b) ∙ ap (drop (length n)) p.rest
          ∙ drop-drop (length n) r a ∙ ap (λ (k : ℕ). drop k a) (sym q.place);
      kept = q.kept ∙ p.kept;
    }

-- one byte
pub put_set : (b at : ℕ) (a : List ℕ) → at < length a → Put (b ∷ []) at a (at + 1) (set a at b)
put_set b at a h =
    record {
      place = refl;
      front = rw add-one (take-suc-set a at b h);
      rest = drop-set-lt (at + 1) a at b (omega arith);
      kept = length-set a at b;
    }

module _ (m : List ℕ) (at k : ℕ) (a : List ℕ) (e : k ≡ length m) (h : at + k ≤ length a) where
  -- m in the place of as many bytes
  pub put-part : {b : List ℕ} → b ≡ take at a ++ (m ++ drop k (drop at a)) → Put m at a (at + k) b
  put-part {b} f =
      let l : length (take at a ++ m) ≡ at + k = simp (length-append, length-take) (omega arith) in
      let g : b ≡ (take at a ++ m) ++ drop k (drop at a) = f ∙ sym (append_assoc (take at a) m (drop k (drop at a))) in
      record {
        place = ap (λ (n : ℕ). at + n) e;
        front = ap (take (at + k)) g ∙ take_at (take at a ++ m) (drop k (drop at a)) (at + k) l;
        rest = ap (drop (at + k)) g ∙ drop_at (take at a ++ m) (drop k (drop at a)) (at + k) l ∙ drop-drop k at a;
        kept = ap length f ∙ simp (length-append, length-take, length-drop) (omega arith);
      }

  -- `&mut out[at..]` comes back with m at its front
  pub put_back : {b : List ℕ} → b ≡ m ++ drop k (take (length a - at) (drop at a)) → Put m at a (at + k) (put_mid at (length a - at) a b)
  put_back {b} f =
      put-part
      (put_tail at a b (omega arith) ∙ ap (λ (l : List ℕ). take at a ++ l) (f ∙ ap (λ (l : List ℕ). m ++ drop k l) (tail at a)))

-- other words for the same bytes
pub put_as : {m n a b : List ℕ} {at r : ℕ} → m ≡ n → Put m at a r b → Put n at a r b
put_as e p = rw e at p

-- ---- `&mut out[at..]` lent to a function that writes to its front

abbrev pub lent : ℕ → List ℕ → List ℕ
lent at a = take (length a - at) (drop at a)

-- a message at the front
pub put_front : {m a b : List ℕ} {r : ℕ} → Put m 0 a r b → (r ≡ length m) × (b ≡ m ++ drop (length m) a)
put_front {m} {a} {b} {r} p =
    let e : r ≡ length m = omega (arith, p.place) in
    (e, sym (take-append-drop r b) ∙ ap (λ (l : List ℕ). l ++ drop r b) p.front ∙ ap (λ (l : List ℕ). m ++ l) (p.rest ∙ ap (λ (n : ℕ). drop n a) e))

-- ---- a loop that puts one part after the other: what is done and what is left are all of it

pub record Putting (left all : List ℕ) (start : ℕ) (before : List ℕ) (next : ℕ) (out : List ℕ) : Type 0 where
  pub done : List ℕ
  pub put : Put done start before next out
  pub rest : done ++ left ≡ all

pub putting_none : {left all : List ℕ} {start : ℕ} {before : List ℕ} → left ≡ all → Putting left all start before start before
putting_none e = record { done = []; put = put-none _ _; rest = e }

module _ {left all : List ℕ} {start : ℕ} {before : List ℕ} {next : ℕ} {out : List ℕ} (s : Putting left all start before next out) where
  pub putting_more : {v w : List ℕ} {r : ℕ} {after : List ℕ} → left ≡ v ++ w → Put v next out r after → Putting w all start before r after
  putting_more {v} {w} e p =
      record {
        done = s.done ++ v;
        put = put_then s.put p;
        rest = append_assoc s.done v w ∙ ap (λ (l : List ℕ). s.done ++ l) (sym e) ∙ s.rest;
      }

  pub putting_done : left ≡ [] → Put all start before next out
  putting_done e =
      put_as (sym (append-nil s.done) ∙ ap (λ (l : List ℕ). s.done ++ l) (sym e) ∙ s.rest) s.put

  -- room for all is room for what is left
  pub putting_room : start + length all ≤ length before → next + length left ≤ length out
  putting_room h =
      let l : length s.done + length left ≡ length all = sym (length-append s.done left) ∙ ap length s.rest in
      omega (arith, s.put.place, s.put.kept)

  -- and for the part that comes first
  pub putting_first : (v w : List ℕ) → left ≡ v ++ w → start + length all ≤ length before → next + length v ≤ length out
  putting_first v w e h = omega (arith, putting_room h, ap length e ∙ length-append v w)
