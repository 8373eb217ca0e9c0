-- The bytes of a file part by part, as the code puts them. Assumes nothing.
use Prim.Native.Nat.{ℕ, suc, ◌+◌, ◌-◌, ◌<◌, ◌≤◌}
use mathlib.Core.Path.{◌≡◌, refl, sym, ap, ◌∙◌}
use mathlib.Core.List.{List, [], ◌∷◌, ◌++◌, map}
use native.Mathlib.Nat.{sub-zero}
use native.Mathlib.Omega.{arith}
use lib.ListN.{length, length-append}
use Rattle.std.proofs.Common.{Some, None}
use Rattle.varint.specs.Numbers.{limit, encode}
use Rattle.octets.specs.Scan.{from}
use Rattle.octets.proofs.Scans.{from_more, length_from}
use Rattle.output.specs.Places.{Put}
use Rattle.output.proofs.Placing.{put_then, put_as, Putting, putting_first}
use Rattle.table.specs.declared.Segment.{Segment}
use Rattle.table.specs.declared.Checksum.{Checksum}
use Rattle.table.specs.declared.Head.{Head}
use Rattle.table.specs.Limits.{max_segments, static_limit}
use Rattle.table.specs.Templates.{Piece, sum_at}
use Rattle.table.specs.Words.{byte_at, segment_at, head_of, window, piece_of, template_of, count_in, words_at, templates_of}
use Rattle.table.specs.File.{mark, version, piece_bytes, pieces_bytes, sum_bytes, template_bytes, templates_bytes, plan_bytes}
use Rattle.table.specs.Sound.{SumFacts, UsableTemplate}
use Rattle.table.proofs.InTurn.{templates_from, templates-step}
use Rattle.table.proofs.Judging.{length_piece, id-of, sum-of, length_templates}
use Rattle.table.proofs.Judging as Judging

-- ---- static bytes

-- what is left of n positions, of which i are put
module _ (t : List ℕ) (offset n : ℕ) where
  pub static-more : (i : ℕ) {b : ℕ} → i < n → b ≡ byte_at t (offset + i) → window t (offset + i) (n - i) ≡ (b ∷ []) ++ window t (offset + (i + 1)) (n - (i + 1))
  static-more i h q =
      let e : n - i ≡ suc (n - (i + 1)) = omega arith in
      let f : offset + (i + 1) ≡ suc (offset + i) = omega arith in
      rw (e, f, q)

  -- there is room for the next
  pub static-room : (i : ℕ) {b : ℕ} {before out : List ℕ} {start next : ℕ} → i < n → b ≡ byte_at t (offset + i)
      → Putting (window t (offset + i) (n - i)) (window t offset n) start before next out → start + n ≤ length before → next < length out
  static-room i {b} h q p r =
      omega (arith, putting_first p (b ∷ []) (window t (offset + (i + 1)) (n - (i + 1))) (static-more i h q) (omega (arith, length_from (byte_at t) offset n)))

-- ---- a segment

module _ (t : List ℕ) (s : Segment) where
  pub length_bytes : length (piece_bytes (piece_of t s)) ≡ length (encode s.offset) + (length (encode s.length) + s.length)
  length_bytes =
      let w = window t s.offset s.length in
      let l : length w ≡ s.length = length_piece t s in
      length-append (encode s.offset) (encode (length w) ++ w)
      ∙ ap (λ (n : ℕ). length (encode s.offset) + n) (length-append (encode (length w)) w ∙ rw l)

  pub put_piece : {a b c d : List ℕ} {at p q r : ℕ} → Put (encode s.offset) at a p b → Put (encode s.length) p b q c
      → Put (window t s.offset s.length) q c r d → Put (piece_bytes (piece_of t s)) at a r d
  put_piece x y z =
      put_as (ap (λ (n : ℕ). encode s.offset ++ (encode n ++ window t s.offset s.length)) (sym (length_piece t s)))
      (put_then x (put_then y z))

-- ---- the segments of a template

-- the pieces of n segments from j on
abbrev pub pieces_from : List ℕ → ℕ → ℕ → List Piece
pieces_from t j n = map (piece_of t) (from (segment_at t) j n)

module _ (t : List ℕ) where
  pub pieces-by : (template_of t).pieces ≡ pieces_from t 0 (head_of t).count
  unfolding template_of
  pieces-by = refl

  pub pieces-start : {h : Head} → h ≡ head_of t → pieces_bytes (pieces_from t 0 (h.count - 0)) ≡ pieces_bytes (template_of t).pieces
  pieces-start q = rw (q, sub-zero, pieces-by)

  pub pieces_more : (j n : ℕ) {s : Segment} → j < n → s ≡ segment_at t j
      → pieces_bytes (pieces_from t j (n - j)) ≡ piece_bytes (piece_of t s) ++ pieces_bytes (pieces_from t (j + 1) (n - (j + 1)))
  pieces_more j n h q = rw q (ap (λ (ss : List Segment). pieces_bytes (map (piece_of t) ss)) (from_more (segment_at t) j n h))

  -- there is room for the next
  pub piece_room : (j n : ℕ) {s : Segment} {all before out : List ℕ} {start next : ℕ} → j < n → s ≡ segment_at t j
      → Putting (pieces_bytes (pieces_from t j (n - j))) all start before next out → start + length all ≤ length before
      → next + length (piece_bytes (piece_of t s)) ≤ length out
  piece_room j n {s} h q p r =
      putting_first p (piece_bytes (piece_of t s)) (pieces_bytes (pieces_from t (j + 1) (n - (j + 1)))) (pieces_more j n h q) r

  -- ---- its checksum

  module _ {h : Head} (q : h ≡ head_of t) where
    pub sum-none : h.checksum ≡ None → 0 ∷ [] ≡ sum_bytes (template_of t).sum
    sum-none e = rw (sum-of t, ← q, e)

    pub sum-some : {k : Checksum} → h.checksum ≡ Some k → 1 ∷ (encode k.field ++ encode k.start) ≡ sum_bytes (template_of t).sum
    sum-some e = rw (sum-of t, ← q, e)

    pub length_sum : {k : Checksum} → h.checksum ≡ Some k → length (sum_bytes (template_of t).sum) ≡ 1 + (length (encode k.field) + length (encode k.start))
    length_sum {k} e = omega (arith, ap length (sum-some e), length-append (encode k.field) (encode k.start))

    pub sum-place : {k : Checksum} → UsableTemplate t → h.checksum ≡ Some k → SumFacts k.field k.start (template_of t).pieces
    sum-place {k} u e =
        let s : (template_of t).sum ≡ sum_at k.field k.start = rw (sum-of t, ← q, e) in
        rw s at u.sound.summed

    -- ---- all of it

    template-bytes : encode h.id.0 ++ (h.count ∷ (pieces_bytes (template_of t).pieces ++ sum_bytes (template_of t).sum)) ≡ template_bytes (template_of t)
    template-bytes = rw (id-of t, Judging.length_pieces t, ← q)

    pub template-id : UsableTemplate t → h.id.0 < limit
    template-id u = rw (q, ← id-of t) u.sound.below

    pub template-count : UsableTemplate t → h.count ≤ max_segments
    template-count u = rw q u.few

    pub segment_within : UsableTemplate t → (j : ℕ) {s : Segment} → j < h.count → s ≡ segment_at t j → s.offset + s.length ≤ static_limit
    segment_within u j b e = rw e (u.within j (rw q at b))

    pub length_template : length (template_bytes (template_of t))
        ≡ length (encode h.id.0) + (1 + (length (pieces_bytes (template_of t).pieces) + length (sum_bytes (template_of t).sum)))
    length_template =
        let ps = pieces_bytes (template_of t).pieces in
        let s = sum_bytes (template_of t).sum in
        omega (arith, ap length template-bytes, length-append (encode h.id.0) (h.count ∷ (ps ++ s)), length-append ps s)

    pub put-template : {a b c d o : List ℕ} {at p q r s : ℕ} → Put (encode h.id.0) at a p b → Put (h.count ∷ []) p b q c
        → Put (pieces_bytes (template_of t).pieces) q c r d → Put (sum_bytes (template_of t).sum) r d s o → Put (template_bytes (template_of t)) at a s o
    put-template x y z w = put_as template-bytes (put_then x (put_then y (put_then z w)))

-- ---- the templates of a table

module _ (w : List ℕ) where
  pub templates-more : (i n : ℕ) {t : List ℕ} → i < n → t ≡ words_at w i
      → templates_bytes (templates_from w i (n - i)) ≡ template_bytes (template_of t) ++ templates_bytes (templates_from w (i + 1) (n - (i + 1)))
  templates-more i n h q = rw q (ap templates_bytes (templates-step w i n h))

  -- there is room for the next
  pub template-room : (i n : ℕ) {t all before out : List ℕ} {start next : ℕ} → i < n → t ≡ words_at w i
      → Putting (templates_bytes (templates_from w i (n - i))) all start before next out → start + length all ≤ length before
      → next + length (template_bytes (template_of t)) ≤ length out
  template-room i n {t} h q p r =
      putting_first p (template_bytes (template_of t)) (templates_bytes (templates_from w (i + 1) (n - (i + 1)))) (templates-more i n h q) r

  -- ---- the file

  plan-bytes : (mark ++ version) ++ (count_in w ∷ templates_bytes (templates_of w)) ≡ plan_bytes (templates_of w)
  unfolding plan_bytes
  plan-bytes = ap (λ (n : ℕ). (mark ++ version) ++ (n ∷ templates_bytes (templates_of w))) (sym (length_templates w))

  pub length_plan : length (plan_bytes (templates_of w)) ≡ 6 + length (templates_bytes (templates_of w))
  length_plan = omega (arith, ap length plan-bytes)

  pub put-file : {a b c d : List ℕ} {at p q r : ℕ} → Put (mark ++ version) at a p b → Put (count_in w ∷ []) p b q c
      → Put (templates_bytes (templates_of w)) q c r d → Put (plan_bytes (templates_of w)) at a r d
  put-file x y z = put_as plan-bytes (put_then x (put_then y z))
