-- The packet whose front `rebuild` leaves in its image. Assumes nothing.
use Prim.Native.Nat.{ℕ, ◌+◌, ◌-◌, ◌≤◌, ◌<◌}
use mathlib.Core.Path.{◌≡◌, refl, ap, sym, ◌∙◌}
use mathlib.Core.List.{List, [], ◌∷◌, ◌++◌, append_assoc}
use native.Mathlib.Omega.{arith}
use lib.ListN.{length, take, drop, length-drop, length-append}
use lib.Seq.{take-append-le, drop-append-le}
use Rattle.std.proofs.Common.{Some, None}
use Rattle.inet.specs.Transport.{set_field, finish}
use Rattle.inet.proofs.FieldLaws.{put_take, put_append}
use Rattle.table.specs.Words.{template_of, head_of}
use Rattle.table.specs.declared.Checksum.{Checksum}
use Rattle.table.specs.declared.Head.{Head}
use Rattle.table.specs.Sound.{Ascends}
use Rattle.table.specs.Templates.{Piece, piece_end, static_size}
use Rattle.template.specs.Pieces.{weave, last_end}
use Rattle.template.specs.Datagrams.{rebuilt}
use Rattle.template.specs.Usable.{pieces_of, Fillable, filled, Rebuildable, Weavable, Completable, Begins, Continues}
use Rattle.template.proofs.PieceLaws.{length_weave}
use Rattle.template.proofs.Steps.{sum_facts}
use Rattle.template.proofs.Sizes.{static-end, end-limit, reaches_end, reaches_field}
use Rattle.template.proofs.RebuildLaws.{length_rebuilt}

-- what stands behind the last piece goes on as it is
weave_append_from : (ps : List Piece) (pos : ℕ) (v w : List ℕ) → Ascends pos ps → last_end pos ps ≤ pos + (static_size ps + length v) → weave pos ps (v ++ w) ≡ weave pos ps v ++ w
unfolding weave Ascends
weave_append_from [] pos v w up h = refl
weave_append_from (s ∷ ss) pos v w up h =
    let i : pos ≤ s.offset = up.0 in
    let m = static-end ss (piece_end s) up.1 in
    let k = s.offset - pos in
    let l = length-drop k v in
    let r = weave (piece_end s) ss (drop k v) in
    rw (take-append-le k v w (omega arith), drop-append-le k v w (omega arith), weave_append_from ss (piece_end s) (drop k v) w up.1 (omega arith))
    (sym (append_assoc (take k v) (s.bytes ++ r) w ∙ ap (λ (x : List ℕ). take k v ++ x) (append_assoc s.bytes r w)))

weave_append : (ps : List Piece) (v w : List ℕ) → Ascends 0 ps → last_end 0 ps ≤ static_size ps + length v → weave 0 ps (v ++ w) ≡ weave 0 ps v ++ w
weave_append ps v w up h = weave_append_from ps 0 v w up (omega arith)

module _ (t v : List ℕ) where
  rebuilt-plain : (head_of t).checksum ≡ None → rebuilt (template_of t) v ≡ weave 0 (pieces_of t) v
  unfolding rebuilt template_of
  rebuilt-plain e = rw e

  rebuilt-sum : {k : Checksum} → (head_of t).checksum ≡ Some k → rebuilt (template_of t) v ≡ set_field k.field (finish k.start (weave 0 (pieces_of t) v)) (weave 0 (pieces_of t) v)
  unfolding rebuilt template_of
  rebuilt-sum e = rw e

module _ (t v far : List ℕ) {n : ℕ} (ready : Rebuildable t v far n) where
  -- the last segment ends in the front
  front-reach : last_end 0 (pieces_of t) ≤ static_size (pieces_of t) + length v
  front-reach =
      omega (arith, reaches_end t (v ++ far) ready.reach, length-append v far, end-limit (pieces_of t) 0 ready.usable.sound.ascends, ready.front)

  -- and so does the field
  front-field : {k : Checksum} → (head_of t).checksum ≡ Some k → k.field + 2 ≤ static_size (pieces_of t) + length v
  front-field f =
      omega (arith, reaches_field t (v ++ far) ready.reach f, length-append v far, (sum_facts t ready.usable.sound f).high, ready.front)

  pub weavable : (out : List ℕ) → n ≤ length out → Weavable t v out
  weavable out h = record { usable = ready.usable; reach = front-reach; room = omega (arith, ready.small) }

  woven : weave 0 (pieces_of t) (v ++ far) ≡ weave 0 (pieces_of t) v ++ far
  woven = weave_append (pieces_of t) v far ready.usable.sound.ascends front-reach

  module _ {out : List ℕ} {r : ℕ} (b : Begins (weave 0 (pieces_of t) v) out r) where
    size : r ≡ static_size (pieces_of t) + length v
    size = b.size ∙ length_weave (pieces_of t) 0 v

    total : r + length far ≡ length (rebuilt (template_of t) (v ++ far))
    total = omega (arith, size, length-append v far, length_rebuilt (template_of t) (v ++ far))

    module _ {head : Head} (known : head ≡ head_of t) where
      pub completable : {k : Checksum} → n ≤ length out → head.checksum ≡ Some k → Completable k.field k.start r far out
      completable {k} h e =
          let f : (head_of t).checksum ≡ Some k = rw known at e in
          let s = sum_facts t ready.usable.sound f in
          record {
            low = omega (arith, s.low);
            order = s.order;
            inside = omega (arith, size, front-field f);
            room = omega (arith, size, ready.small);
            small = omega (arith, size, ready.summable);
          }

      -- without a checksum
      pub continues_plain : head.checksum ≡ None → Continues (rebuilt (template_of t) (v ++ far)) far out r
      continues_plain e =
          record { size = total; whole = ap (λ (x : List ℕ). x ++ far) b.front ∙ sym (rebuilt-plain t (v ++ far) (rw known at e) ∙ woven) }

      -- with one
      pub continues_sum : {k : Checksum} {out' : List ℕ} → head.checksum ≡ Some k → out' ≡ set_field k.field (finish k.start (take r out ++ far)) out → Continues (rebuilt (template_of t) (v ++ far)) far out' r
      continues_sum {k} {out'} e q =
          let f : (head_of t).checksum ≡ Some k = rw known at e in
          let w = weave 0 (pieces_of t) v in
          let x = k.field in
          let c = finish k.start (w ++ far) in
          let l : x + 1 < r = omega (arith, size, front-field f) in
          let m : x + 1 < length w = omega (arith, b.size) in
          let s : rebuilt (template_of t) (v ++ far) ≡ set_field x c (w ++ far) =
          rebuilt-sum t (v ++ far) f ∙ ap (λ (y : List ℕ). set_field x (finish k.start y) y) woven
          in
          let g : take r out' ≡ set_field x c w =
          ap (take r) q ∙ put_take out x (finish k.start (take r out ++ far)) r l
          ∙ ap (λ (y : List ℕ). set_field x (finish k.start (y ++ far)) y) b.front
          in
          record { size = total; whole = ap (λ (y : List ℕ). y ++ far) g ∙ sym (s ∙ put_append w x c far m) }

-- a number in the field of a template with a checksum
module _ (t p : List ℕ) (v : ℕ) {head : Head} (known : head ≡ head_of t) where
  pub filled-plain : head.checksum ≡ None → p ≡ filled (template_of t).sum v p
  unfolding template_of
  filled-plain e = rw (rw known at e)

  pub filled-sum : {k : Checksum} {q : List ℕ} → head.checksum ≡ Some k → q ≡ set_field k.field v p → q ≡ filled (template_of t).sum v p
  unfolding template_of
  filled-sum e g = rw (rw known at e) g

  pub fillable_inside : {k : Checksum} → Fillable t v p → head.checksum ≡ Some k → k.field + 2 ≤ length p
  unfolding template_of
  fillable_inside s e = rw (rw known at e) at s.inside
