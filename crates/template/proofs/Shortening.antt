-- The loop of `shorten`: the gaps before the first j segments are written, up to `next`, and the front is read up to pos.
-- What is written and what is still to be stripped together never change; the tail goes behind it as it is. Assumes nothing.
use Prim.Native.Nat.{ℕ, ◌+◌, ◌-◌, ◌≤◌, ◌<◌}
use mathlib.Core.Path.{◌≡◌, refl, sym, ap, ◌∙◌}
use mathlib.Core.List.{List, [], ◌++◌, append-nil}
use native.Mathlib.Omega.{arith}
use lib.ListN.{length, take, drop, length-drop}
use lib.Seq.{take_all, length-take-le}
use Rattle.output.specs.Places.{Put}
use Rattle.output.proofs.Placing.{put_as, put_then, Putting, putting_none, putting_more, putting_done}
use Rattle.table.specs.Templates.{Piece}
use Rattle.table.specs.Sound.{Ascends}
use Rattle.table.specs.Words.{segment_at, head_of}
use Rattle.table.specs.declared.Segment.{Segment}
use Rattle.template.specs.Pieces.{strip, last_end}
use Rattle.template.specs.Usable.{pieces_of, Shortenable}
use Rattle.template.proofs.PieceLaws.{drop_from, ascends-end, strip_append}
use Rattle.template.proofs.Steps.{segment_end, pieces_from, window_length, pieces-all, pieces_step, pieces-done}
use Rattle.template.proofs.Sizes.{end_step, ascends-head, ascends_tail}

strip-step : (t : List ℕ) (j n : ℕ) → j < n → (pos : ℕ) (p : List ℕ) → pos ≤ (segment_at t j).offset → strip pos (pieces_from t j (n - j)) (drop pos p) ≡ take ((segment_at t j).offset - pos) (drop pos p) ++ strip (segment_end t j) (pieces_from t (j + 1) (n - (j + 1))) (drop (segment_end t j) p)
unfolding strip
strip-step t j n h pos p u =
    rw (pieces_step t j n h, window_length t (segment_at t j).offset (segment_at t j).length, drop_from pos (segment_end t j) p (omega arith))

pub record Shortening (t p out₀ : List ℕ) (at : ℕ) (out : List ℕ) (pos next j : ℕ) : Type 0 where
  pub turn : j ≤ (head_of t).count
  pub behind : next ≤ at + pos
  pub inside : pos ≤ length p
  pub up : Ascends pos (pieces_from t j ((head_of t).count - j))
  pub reach : last_end pos (pieces_from t j ((head_of t).count - j)) ≤ length p
  pub put : Putting (strip pos (pieces_from t j ((head_of t).count - j)) (drop pos p)) (strip 0 (pieces_of t) p) at out₀ next out

module _ (t p tail out₀ : List ℕ) (at : ℕ) (ready : Shortenable t p tail out₀ at) where
  pub shortening_none : Shortening t p out₀ at out₀ 0 at 0
  shortening_none =
      record {
        turn = omega arith;
        behind = omega arith;
        inside = omega arith;
        up = rw (← pieces-all t) ready.usable.sound.ascends;
        reach = rw (← pieces-all t) ready.inside;
        put = putting_none (rw (← pieces-all t));
      }

  module _ {out : List ℕ} {pos next j : ℕ} (i : Shortening t p out₀ at out pos next j) where
    pub shortening_same : length out ≡ length out₀
    shortening_same = i.put.put.kept

    -- the segment that is read next
    module _ {s : Segment} (h : j < (head_of t).count) (q : s ≡ segment_at t j) where
      pub next_up : pos ≤ s.offset
      next_up = rw q (ascends-head t j (head_of t).count h pos i.up)

      pub next-inside : s.offset + s.length ≤ length p
      next-inside =
          let e = end_step t j (head_of t).count h pos in
          let a = ascends-end (pieces_from t (j + 1) ((head_of t).count - (j + 1))) (segment_end t j) (ascends_tail t j (head_of t).count h pos i.up) in
          rw q (omega (arith, i.reach))

      -- what is left begins with the bytes before it
      next-left : strip pos (pieces_from t j ((head_of t).count - j)) (drop pos p)
          ≡ take (s.offset - pos) (drop pos p) ++ strip (s.offset + s.length) (pieces_from t (j + 1) ((head_of t).count - (j + 1))) (drop (s.offset + s.length) p)
      next-left = let u = next_up in rw q (strip-step t j (head_of t).count h pos p (rw q at u))

      pub shortening_more : {out' : List ℕ} {r : ℕ} → Put (take (s.offset - pos) (drop pos p)) next out r out'
          → Shortening t p out₀ at out' (s.offset + s.length) r (j + 1)
      shortening_more {out'} {r} w =
          let d = length-take-le (s.offset - pos) (drop pos p) (omega (arith, length-drop pos p, next-inside)) in
          record {
            turn = omega arith;
            behind = omega (arith, w.place, i.behind, next_up);
            inside = next-inside;
            up = rw q (ascends_tail t j (head_of t).count h pos i.up);
            reach = rw q (rw (end_step t j (head_of t).count h pos) at i.reach);
            put = putting_more i.put next-left w;
          }

    -- the rest of the front is written
    module _ {out' : List ℕ} {r : ℕ} (h : (head_of t).count ≤ j) (w : Put (take (length p - pos) (drop pos p)) next out r out') where
      all : take (length p - pos) (drop pos p) ≡ drop pos p
      all = take_all (length p - pos) (drop pos p) (omega (arith, length-drop pos p))

      front-done : Put (strip 0 (pieces_of t) p) at out₀ r out'
      unfolding strip
      front-done =
          let left : strip pos (pieces_from t j ((head_of t).count - j)) (drop pos p) ≡ drop pos p ++ [] =
          ap (λ (l : List Piece). strip pos l (drop pos p)) (pieces-done t j (head_of t).count h) ∙ sym (append-nil (drop pos p))
          in putting_done (putting_more i.put left (put_as all w)) refl

      pub tail_room : r + length tail ≤ length out'
      tail_room = omega (arith, w.place, ap length all, length-drop pos p, i.behind, i.inside, ready.room, w.kept, shortening_same)

      pub shortening_done : {out'' : List ℕ} {r' : ℕ} → Put tail r out' r' out'' → Put (strip 0 (pieces_of t) (p ++ tail)) at out₀ r' out''
      shortening_done x =
          put_as (sym (strip_append (pieces_of t) p tail ready.usable.sound.ascends ready.inside)) (put_then front-done x)
