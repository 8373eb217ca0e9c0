-- The words of a template as they are stored: its head, its segments, its image. Assumes nothing.
use Prim.Native.Nat.{ℕ, zero, suc, ◌+◌, ◌*◌, ◌≤◌, ◌<◌}
use mathlib.Core.Path.{◌≡◌, refl, sym, ap, ◌∙◌}
use mathlib.Core.List.{List, [], ◌∷◌, ◌++◌, map, append_assoc}
use native.Mathlib.Nat.{not-suc-le-zero, le_of_suc-le-suc}
use native.Mathlib.Omega.{arith}
use lib.ListN.{length, take, drop, get_or, set, replicate, length-set}
use lib.Seq.{take-append-add, drop-append-add, set-append_left, drop-set-add, get_or-drop, take-add, drop_at, drop-drop, length-take-le}
use Rattle.octets.specs.Parts.{with_part}
use Rattle.octets.specs.Scan.{from}
use Rattle.octets.proofs.Parts.{length_with_part}
use Rattle.octets.proofs.Scans.{from_suc, from-same}
use Rattle.table.specs.declared.Segment.{Segment}
use Rattle.table.specs.Limits.{max_segments, static_limit}
use Rattle.table.specs.Templates.{Piece, piece_end, segment_of}
use Rattle.table.specs.Words.{head_words, words_per_segment, image_at, template_words, segment_at, segment_words, image_of}
use Rattle.table.specs.Found.{body_words}

-- ---- the head

pub head-put : (t : List ℕ) (a b c d e : ℕ) → head_words ≤ length t
    → set (set (set (set (set t 0 a) 1 b) 2 c) 3 d) 4 e ≡ (a ∷ b ∷ c ∷ d ∷ e ∷ []) ++ drop head_words t
head-put [] a b c d e h = absurd (omega arith)
head-put (x ∷ []) a b c d e h = absurd (omega arith)
head-put (x ∷ y ∷ []) a b c d e h = absurd (omega arith)
head-put (x ∷ y ∷ z ∷ []) a b c d e h = absurd (omega arith)
head-put (x ∷ y ∷ z ∷ u ∷ []) a b c d e h = absurd (omega arith)
head-put (x ∷ y ∷ z ∷ u ∷ v ∷ t) a b c d e h = refl

-- ---- segments

pub length_segment_words : (k : ℕ) (ps : List Piece) → length (segment_words k ps) ≡ k * words_per_segment
length_segment_words zero ps = refl
length_segment_words (suc k) [] = let e = length_segment_words k [] in omega (arith, e)
length_segment_words (suc k) (p ∷ ps) = let e = length_segment_words k ps in omega (arith, e)

-- a segment stored behind those before it
pub segment_put : (k : ℕ) (ps : List Piece) (p : Piece) → length ps < k
    → set (set (segment_words k ps) (length ps * words_per_segment) p.offset) (length ps * words_per_segment + 1) (length p.bytes)
    ≡ segment_words k (ps ++ (p ∷ []))
segment_put zero ps p h = absurd (not-suc-le-zero h)
segment_put (suc k) [] p h = refl
segment_put (suc k) (q ∷ ps) p h =
    let a : suc (length ps) * words_per_segment ≡ suc (suc (length ps * words_per_segment)) = omega arith in
    let b : suc (suc (length ps * words_per_segment)) + 1 ≡ suc (suc (length ps * words_per_segment + 1)) = omega arith in
    rw (a, b) (ap (λ (l : List ℕ). q.offset ∷ length q.bytes ∷ l) (segment_put k ps p (le_of_suc-le-suc h)))

-- segment j of words that have no head
abbrev segment_in : List ℕ → ℕ → Segment
segment_in l j = record { offset = get_or l (j * words_per_segment) 0; length = get_or l (j * words_per_segment + 1) 0 }

segments_in : (k : ℕ) (ps : List Piece) (l : List ℕ) → length ps ≤ k → from (segment_in (segment_words k ps ++ l)) 0 (length ps) ≡ map segment_of ps
segments_in k [] l h = refl
segments_in zero (p ∷ ps) l h = absurd (not-suc-le-zero h)
segments_in (suc k) (p ∷ ps) l h =
    let step : (j : ℕ) → segment_in (segment_words (suc k) (p ∷ ps) ++ l) (suc j) ≡ segment_in (segment_words k ps ++ l) j =
    λ j. shift (segment_words k ps ++ l) j
    in
    ap (λ (ss : List Segment). segment_of p ∷ ss)
    (from_suc (segment_in (segment_words (suc k) (p ∷ ps) ++ l)) 0 (length ps)
    ∙ from-same (λ j. segment_in (segment_words (suc k) (p ∷ ps) ++ l) (suc j)) (segment_in (segment_words k ps ++ l)) step 0 (length ps)
    ∙ segments_in k ps l (le_of_suc-le-suc h))
  where
    shift : (m : List ℕ) (j : ℕ) → segment_in (p.offset ∷ length p.bytes ∷ m) (suc j) ≡ segment_in m j
    shift m j =
        let a : suc j * words_per_segment ≡ suc (suc (j * words_per_segment)) = omega arith in
        let b : suc (suc (j * words_per_segment)) + 1 ≡ suc (suc (j * words_per_segment + 1)) = omega arith in
        rw (a, b)

-- segment j of words behind their head
segment_behind : (t : List ℕ) (j : ℕ) → segment_at t j ≡ segment_in (drop head_words t) j
unfolding segment_at
segment_behind t j =
    let a : head_words + j * words_per_segment + 1 ≡ head_words + (j * words_per_segment + 1) = omega arith in
    rw (a, get_or-drop head_words t (j * words_per_segment) 0, get_or-drop head_words t (j * words_per_segment + 1) 0)

-- the segments are read back
pub segments-stored : (t : List ℕ) (ps : List Piece) (l : List ℕ) → drop head_words t ≡ segment_words max_segments ps ++ l → length ps ≤ max_segments
    → from (segment_at t) 0 (length ps) ≡ map segment_of ps
segments-stored t ps l e h =
    from-same (segment_at t) (segment_in (drop head_words t)) (segment_behind t) 0 (length ps)
    ∙ ap (λ (m : List ℕ). from (segment_in m) 0 (length ps)) e
    ∙ segments_in max_segments ps l h

-- ---- parts of words

-- a part put behind the first h words
drop_with : (w v : List ℕ) (h b d : ℕ) → h + b ≤ length w → drop h (with_part w (h + b) (h + d) v) ≡ with_part (drop h w) b d v
drop_with w v h b d k =
    let l : length (take h w) ≡ h = length-take-le h w (omega arith) in
    let front : take (h + b) w ++ (v ++ drop (h + d) w) ≡ take h w ++ (take b (drop h w) ++ (v ++ drop (h + d) w)) =
    ap (λ (m : List ℕ). m ++ (v ++ drop (h + d) w)) (take-add h b w) ∙ append_assoc (take h w) (take b (drop h w)) (v ++ drop (h + d) w)
    in
    ap (drop h) front ∙ drop_at (take h w) (take b (drop h w) ++ (v ++ drop (h + d) w)) h l
    ∙ ap (λ (m : List ℕ). take b (drop h w) ++ (v ++ m)) (sym (drop-drop d h w))

-- a part put behind a list
pub with_append : (xs ys v : List ℕ) (b d : ℕ) → with_part (xs ++ ys) (length xs + b) (length xs + d) v ≡ xs ++ with_part ys b d v
with_append xs ys v b d =
    ap (λ (m : List ℕ). m ++ (v ++ drop (length xs + d) (xs ++ ys))) (take-append-add xs ys b)
    ∙ ap (λ (m : List ℕ). (xs ++ take b ys) ++ (v ++ m)) (drop-append-add xs ys d)
    ∙ append_assoc xs (take b ys) (v ++ drop d ys)

-- ---- one segment with its bytes

image_snoc : (image : List ℕ) (ps : List Piece) (p : Piece)
    → image_of image (ps ++ (p ∷ [])) ≡ with_part (image_of image ps) p.offset (piece_end p) p.bytes
image_snoc image [] p = refl
image_snoc image (q ∷ ps) p = image_snoc (take q.offset image ++ (q.bytes ++ drop (piece_end q) image)) ps p

module _ (t : List ℕ) (ps : List Piece) (p : Piece) (few : length ps < max_segments) (size : length t ≡ template_words)
    (inside : piece_end p ≤ static_limit) (stored : drop head_words t ≡ body_words ps) where
  -- its two words stored
  abbrev two : List ℕ
  two = set (set t (head_words + length ps * words_per_segment) p.offset) (head_words + length ps * words_per_segment + 1) (length p.bytes)

  two_size : length two ≡ template_words
  two_size = rw (length-set, length-set) size

  two-behind : drop head_words two ≡ segment_words max_segments (ps ++ (p ∷ [])) ++ image_of (replicate static_limit 0) ps
  two-behind =
      let k = length ps * words_per_segment in
      let segs = segment_words max_segments ps in
      let image = image_of (replicate static_limit 0) ps in
      let l : length segs ≡ max_segments * words_per_segment = length_segment_words max_segments ps in
      let a : head_words + k + 1 ≡ head_words + (k + 1) = omega arith in
      let first : set (segs ++ image) k p.offset ≡ set segs k p.offset ++ image = set-append_left segs image k p.offset (omega arith) in
      let m : k + 1 < length (set segs k p.offset) = rw length-set (omega arith) in
      ap (λ (i : ℕ). drop head_words (set (set t (head_words + k) p.offset) i (length p.bytes))) a
      ∙ drop-set-add head_words (set t (head_words + k) p.offset) (k + 1) (length p.bytes)
      ∙ ap (λ (w : List ℕ). set w (k + 1) (length p.bytes)) (drop-set-add head_words t k p.offset ∙ ap (λ (w : List ℕ). set w k p.offset) stored ∙ first)
      ∙ set-append_left (set segs k p.offset) image (k + 1) (length p.bytes) m
      ∙ ap (λ (w : List ℕ). w ++ image) (segment_put max_segments ps p few)

  -- its bytes stored in the image
  pub segment_size : length (with_part two (image_at + p.offset) (image_at + p.offset + length p.bytes) p.bytes) ≡ template_words
  segment_size = length_with_part two (image_at + p.offset) (length p.bytes) p.bytes refl (omega (arith, two_size)) ∙ two_size

  pub segment_stored : drop head_words (with_part two (image_at + p.offset) (image_at + p.offset + length p.bytes) p.bytes) ≡ body_words (ps ++ (p ∷ []))
  segment_stored =
      let segs = segment_words max_segments (ps ++ (p ∷ [])) in
      let image = image_of (replicate static_limit 0) ps in
      let n = length p.bytes in
      let l : length segs ≡ max_segments * words_per_segment = length_segment_words max_segments (ps ++ (p ∷ [])) in
      let a : image_at + p.offset ≡ head_words + (length segs + p.offset) = omega arith in
      let b : image_at + p.offset + n ≡ head_words + (length segs + piece_end p) = omega arith in
      ap (λ (i : ℕ). drop head_words (with_part two i (image_at + p.offset + n) p.bytes)) a
      ∙ ap (λ (i : ℕ). drop head_words (with_part two (head_words + (length segs + p.offset)) i p.bytes)) b
      ∙ drop_with two p.bytes head_words (length segs + p.offset) (length segs + piece_end p) (omega (arith, two_size))
      ∙ ap (λ (w : List ℕ). with_part w (length segs + p.offset) (length segs + piece_end p) p.bytes) two-behind
      ∙ with_append segs image p.bytes p.offset (piece_end p)
      ∙ ap (λ (w : List ℕ). segs ++ w) (sym (image_snoc (replicate static_limit 0) ps p))
