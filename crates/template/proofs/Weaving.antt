-- The loop of `weave_into`: the packet is written up to pos, past the first j segments, and the bytes v are read up to `at`.
-- What is written and what is still to be woven together never change. Assumes nothing.
use Prim.Native.Nat.{ℕ, ◌+◌, ◌-◌, ◌≤◌, ◌<◌}
use mathlib.Core.Path.{◌≡◌, refl, ap, sym, ◌∙◌}
use mathlib.Core.List.{List, ◌++◌, append_assoc}
use native.Mathlib.Omega.{arith}
use lib.ListN.{length, take, drop, length-drop}
use lib.Seq.{take_all, length-take-le, drop-drop}
use Rattle.output.specs.Places.{Put}
use Rattle.table.specs.Sound.{Ascends}
use Rattle.table.specs.Words.{window, segment_at, head_of}
use Rattle.table.specs.declared.Segment.{Segment}
use Rattle.table.specs.Templates.{static_size}
use Rattle.template.specs.Pieces.{weave, last_end}
use Rattle.template.specs.Usable.{pieces_of, Weavable, Begins}
use Rattle.template.proofs.PieceLaws.{length_weave}
use Rattle.template.proofs.Steps.{segment_end, pieces_from, window_length, pieces-all, pieces_step, pieces-done}
use Rattle.template.proofs.Sizes.{static-end, static_step, static-done, end_step, ascends-head, ascends_tail}

weave-step : (t : List ℕ) (j n : ℕ) → j < n → (pos : ℕ) (w : List ℕ) → weave pos (pieces_from t j (n - j)) w ≡ take ((segment_at t j).offset - pos) w ++ (window t (segment_at t j).offset (segment_at t j).length ++ weave (segment_end t j) (pieces_from t (j + 1) (n - (j + 1))) (drop ((segment_at t j).offset - pos) w))
unfolding weave
weave-step t j n h pos w = rw (pieces_step t j n h, window_length t (segment_at t j).offset (segment_at t j).length)

pub record Weaving (t : List ℕ) (v out₀ out : List ℕ) (pos at j : ℕ) : Type 0 where
  pub turn : j ≤ (head_of t).count
  pub inside : at ≤ length v
  pub same : length out ≡ length out₀
  pub up : Ascends pos (pieces_from t j ((head_of t).count - j))
  pub reach : last_end pos (pieces_from t j ((head_of t).count - j)) ≤ pos + (static_size (pieces_from t j ((head_of t).count - j)) + (length v - at))
  pub total : pos + (static_size (pieces_from t j ((head_of t).count - j)) + (length v - at)) ≡ static_size (pieces_of t) + length v
  pub front : take pos out ++ weave pos (pieces_from t j ((head_of t).count - j)) (drop at v) ≡ weave 0 (pieces_of t) v

module _ (t : List ℕ) (v out₀ : List ℕ) (ready : Weavable t v out₀) where
  pub weaving_none : Weaving t v out₀ out₀ 0 0 0
  weaving_none =
      record {
        turn = omega arith;
        inside = omega arith;
        same = refl;
        up = rw (← pieces-all t) ready.usable.sound.ascends;
        reach = rw (← pieces-all t) (omega (arith, ready.reach));
        total = rw (← pieces-all t) (omega arith);
        front = rw (← pieces-all t);
      }

  module _ {out : List ℕ} {pos at j : ℕ} (i : Weaving t v out₀ out pos at j) where
    -- the segment that is put next
    pub record Ready (s : Segment) : Type 0 where
      pub upward : pos ≤ s.offset
      pub enough : at + (s.offset - pos) ≤ length v
      pub room : s.offset + s.length ≤ length out

    module _ {s : Segment} (h : j < (head_of t).count) (q : s ≡ segment_at t j) where
      pub weaving_ready : Ready s
      weaving_ready =
          let u = ascends-head t j (head_of t).count h pos i.up in
          let ps = pieces_from t (j + 1) ((head_of t).count - (j + 1)) in
          let e = end_step t j (head_of t).count h pos in
          let f = static_step t j (head_of t).count h in
          let a : segment_end t j + static_size ps ≤ last_end (segment_end t j) ps = static-end ps (segment_end t j) (ascends_tail t j (head_of t).count h pos i.up) in
          rw q (record { upward = u; enough = omega (arith, i.reach); room = omega (arith, i.reach, i.total, i.same, ready.room) })

      pub weaving_more : {out₁ out₂ : List ℕ} {r : ℕ} → Put (take (at + (s.offset - pos) - at) (drop at v)) pos out r out₁
          → Put (window t s.offset (s.offset + s.length - s.offset)) s.offset out₁ (s.offset + s.length) out₂
          → Weaving t v out₀ out₂ (s.offset + s.length) (at + (s.offset - pos)) (j + 1)
      weaving_more {out₁} {out₂} {r} w₁ w₂ =
          let o = s.offset in
          let m = s.length in
          let g = weaving_ready in
          let ps = pieces_from t (j + 1) ((head_of t).count - (j + 1)) in
          let e : last_end pos (pieces_from t j ((head_of t).count - j)) ≡ last_end (o + m) ps = rw q (end_step t j (head_of t).count h pos) in
          let f : static_size (pieces_from t j ((head_of t).count - j)) ≡ m + static_size ps = rw q (static_step t j (head_of t).count h) in
          let d₁ : at + (o - pos) - at ≡ o - pos = omega arith in
          let d₂ : o + m - o ≡ m = omega arith in
          let n₁ = length-take-le (at + (o - pos) - at) (drop at v) (omega (arith, length-drop at v, g.enough)) in
          let q₁ : r ≡ o = omega (arith, w₁.place, g.upward) in
          let f₁ : take o out₁ ≡ take pos out ++ take (at + (o - pos) - at) (drop at v) = ap (λ (n : ℕ). take n out₁) (sym q₁) ∙ w₁.front in
          record {
            turn = omega arith;
            inside = g.enough;
            same = w₂.kept ∙ w₁.kept ∙ i.same;
            up = rw q (ascends_tail t j (head_of t).count h pos i.up);
            reach = omega (arith, i.reach, g.enough, g.upward);
            total = omega (arith, i.total, g.enough, g.upward);
            front =
                rw (w₂.front, f₁, d₁, d₂, append_assoc, append_assoc, ← drop-drop (o - pos) at v, q, ← weave-step t j (head_of t).count h pos (drop at v))
                i.front;
          }

    -- `&v[at..]`
    last_piece : take (length v - at) (drop at v) ≡ drop at v
    last_piece = take_all (length v - at) (drop at v) (omega (arith, length-drop at v))

    pub last-room : (head_of t).count ≤ j → pos + length (take (length v - at) (drop at v)) ≤ length out
    last-room h =
        omega (arith, i.total, i.same, ready.room, static-done t j (head_of t).count h, ap length last_piece, length-drop at v)

    pub weaving_done : {out' : List ℕ} {r : ℕ} → (head_of t).count ≤ j → Put (take (length v - at) (drop at v)) pos out r out' → Begins (weave 0 (pieces_of t) v) out' r
    unfolding weave
    weaving_done {out'} {r} h w =
        record {
          size = sym (length_weave (pieces_of t) 0 v ∙ omega (arith, i.total, static-done t j (head_of t).count h, w.place, ap length last_piece, length-drop at v));
          front = w.front ∙ rw last_piece (rw (pieces-done t j (head_of t).count h) at i.front);
        }
