-- The file of a sound table fits into the least output: a template takes at most 8 bytes for its ID, 1 for its count of segments, 4 for each segment
-- beside the static bytes, and 5 for its checksum; mark, version and count take 6. Assumes nothing.
use Rattle.std.proofs.Common.{Option, Some, None}
use Prim.Native.Nat.{ℕ, zero, suc, ◌+◌, ◌-◌, ◌*◌, ◌^◌, ◌≤◌}
use mathlib.Core.Path.{◌≡◌, ap, refl}
use mathlib.Core.List.{List, [], ◌∷◌, ◌++◌}
use mathlib.Core.Logic.{⊎_elim}
use native.Mathlib.Omega.{arith}
use lib.ListN.{length, length-append}
use Rattle.answer.proofs.Tests.{order}
use Rattle.varint.specs.Numbers.{encode}
use Rattle.varint.proofs.Encoding.{length_encode, size-one, size-two, size-bounds}
use Rattle.table.specs.Limits.{max_segments, static_limit}
use Rattle.table.specs.Templates.{Template, Piece, piece_end}
use Rattle.table.specs.declared.Checksum.{Checksum}
use Rattle.table.specs.Words.{head_of, template_of, count_in, words_at, templates_of}
use Rattle.table.specs.Rules.{plan_room}
use Rattle.table.specs.File.{piece_bytes, pieces_bytes, sum_bytes, template_bytes, templates_bytes, plan_bytes}
use Rattle.table.specs.Sound.{Ascends, UsableTemplate, Usable}
use Rattle.table.proofs.InTurn.{templates_from, templates-all}
use Rattle.table.proofs.Judging.{length_pieces}
use Rattle.plan_write.proofs.Parts.{sum-none, length_sum, sum-place, length_template, length_plan}

-- an offset or a length within the limit takes two bytes at most
encode-small : (v : ℕ) → v ≤ static_limit → length (encode v) ≤ 2
encode-small v h =
    ⊎_elim (λ s. omega (arith, length_encode v, size-one v s)) (λ s. omega (arith, length_encode v, size-two v s (omega arith))) (order v (2 ^ 6))

ascends_within : (ps : List Piece) (pos : ℕ) → Ascends pos ps → pos ≤ static_limit
unfolding Ascends
ascends_within [] pos a = a
ascends_within (p ∷ ps) pos a = omega (arith, a.0, ascends_within ps (piece_end p) a.1)

pieces-most : (ps : List Piece) (pos : ℕ) → Ascends pos ps → length (pieces_bytes ps) + pos ≤ 4 * length ps + static_limit
unfolding Ascends
pieces-most [] pos a = omega (arith, a)
pieces-most (p ∷ ps) pos a =
    let e : piece_end p ≤ static_limit = ascends_within ps (piece_end p) a.1 in
    omega (
      arith,
      a.0,
      pieces-most ps (piece_end p) a.1,
      length-append (piece_bytes p) (pieces_bytes ps),
      length-append (encode p.offset) (encode (length p.bytes) ++ p.bytes),
      length-append (encode (length p.bytes)) p.bytes,
      encode-small p.offset (omega arith),
      encode-small (length p.bytes) (omega arith),
    )

abbrev template_most : ℕ
template_most = 8 + 1 + max_segments * 4 + static_limit + 5

module _ (t : List ℕ) (u : UsableTemplate t) where
  sum-most : length (sum_bytes (template_of t).sum) ≤ 5
  sum-most = of (head_of t).checksum refl
    where
      of : (c : Option Checksum) → (head_of t).checksum ≡ c → length (sum_bytes (template_of t).sum) ≤ 5
      of (Some k) e =
          let h = head_of t in
          let f = sum-place t {h = h} refl u e in
          omega (arith, length_sum t {h = h} refl e, encode-small k.field (omega (arith, f.high)), encode-small k.start (omega (arith, f.high, f.order)))
      of None e = let h = head_of t in omega (arith, ap length (sum-none t {h = h} refl e))

  template-most : length (template_bytes (template_of t)) ≤ template_most
  template-most =
      let h = head_of t in
      omega (
        arith,
        length_template t {h = h} refl,
        length_encode h.id.0,
        size-bounds h.id.0,
        pieces-most (template_of t).pieces 0 u.sound.ascends,
        length_pieces t,
        u.few,
        sum-most,
      )

module _ (w : List ℕ) (u : Usable w) where
  templates-most : (n i : ℕ) → i + n ≤ count_in w → length (templates_bytes (templates_from w i n)) ≤ template_most * n
  unfolding templates_from
  templates-most zero i h = omega arith
  templates-most (suc n) i h =
      omega (
        arith,
        length-append (template_bytes (template_of (words_at w i))) (templates_bytes (templates_from w (suc i) n)),
        template-most (words_at w i) (u.all i (omega arith)),
        templates-most n (suc i) (omega arith),
      )

  pub plan-most : length (plan_bytes (templates_of w)) ≤ plan_room
  plan-most =
      omega (
        arith,
        length_plan w,
        ap (λ (ts : List Template). length (templates_bytes ts)) (templates-all w),
        templates-most (count_in w - 0) 0 (omega arith),
        u.few,
      )
