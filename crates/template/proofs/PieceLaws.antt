-- Weaving what was stripped gives the packet back; the lengths of both; a field outside the pieces changes none of them. Assumes nothing.
use Prim.Native.Nat.{ℕ, ◌+◌, ◌-◌, ◌≤◌}
use mathlib.Core.Path.{◌≡◌, refl, ap, sym, ◌∙◌}
use mathlib.Core.Logic.{◌⊎◌, ⊎_elim}
use mathlib.Core.List.{List, [], ◌∷◌, ◌++◌, append_assoc}
use mathlib.Core.Bool.{Bool, true, ◌&&◌}
use native.Mathlib.Omega.{arith}
use lib.ListN.{length, take, drop, take-append-drop, length-drop, length-take, length-append}
use lib.Seq.{take_at, drop_at, drop-drop, length-take-le, take-set-le, take-append-le, drop-append-le}
use lib.Dec.{leb, eqb}
use borrow.Author.Tests.{leb-true, eqb-true}
use Rattle.answer.proofs.Tests.{and_both}
use Rattle.inet.specs.Packet.{put16}
use Rattle.inet.specs.Transport.{set_field}
use Rattle.inet.proofs.FieldLaws.{put_length, put_drop, drop_put_from}
use Rattle.table.specs.Sound.{Ascends, ClearOf}
use Rattle.table.specs.Templates.{Piece, piece_end, static_size}
use Rattle.template.specs.Pieces.{begins, fits_pieces, strip, weave, last_end}

-- what begins with b is b and the rest
begins-split : (b q : List ℕ) → begins b q ≡ true → b ++ drop (length b) q ≡ q
begins-split [] q e = refl
begins-split (x ∷ b) [] e = let z : ◌≡◌ {A = ℕ} 0 1 = cc in absurd (omega arith)
begins-split (x ∷ b) (y ∷ q) e =
    let f = and_both (eqb y x) (begins b q) e in
    let h : y ≡ x = eqb-true y x f.0 in
    let t : b ++ drop (length b) q ≡ q = begins-split b q f.1 in
    cc

pub drop_from : (a b : ℕ) (p : List ℕ) → a ≤ b → drop (b - a) (drop a p) ≡ drop b p
drop_from a b p h = let e : a + (b - a) ≡ b = omega arith in drop-drop (b - a) a p ∙ ap (λ (n : ℕ). drop n p) e

-- what the first piece says
pub record First (s : Piece) (ss : List Piece) (p : List ℕ) : Type 0 where
  pub inside : piece_end s ≤ length p
  pub here : begins s.bytes (drop s.offset p) ≡ true
  pub rest : fits_pieces ss p ≡ true

pub fits-first : (s : Piece) (ss : List Piece) (p : List ℕ) → fits_pieces (s ∷ ss) p ≡ true → First s ss p
unfolding fits_pieces
fits-first s ss p f =
    let g = and_both (leb (piece_end s) (length p)) (begins s.bytes (drop s.offset p) && fits_pieces ss p) f in
    let h = and_both (begins s.bytes (drop s.offset p)) (fits_pieces ss p) g.1 in
    record { inside = leb-true _ _ g.0; here = h.0; rest = h.1 }

-- one piece: what stands before it, its bytes, and what stands after
around : (pos : ℕ) (s : Piece) (p : List ℕ) → pos ≤ s.offset → begins s.bytes (drop s.offset p) ≡ true → take (s.offset - pos) (drop pos p) ++ (s.bytes ++ drop (piece_end s) p) ≡ drop pos p
around pos s p h b =
    ap (λ (l : List ℕ). take (s.offset - pos) (drop pos p) ++ l) (ap (λ (l : List ℕ). s.bytes ++ l) (sym (drop-drop (length s.bytes) s.offset p)) ∙ (begins-split s.bytes (drop s.offset p) b ∙ sym (drop_from pos s.offset p h)))
    ∙ take-append-drop (s.offset - pos) (drop pos p)

strip_weave_from : (ps : List Piece) (pos : ℕ) (p : List ℕ) → Ascends pos ps → fits_pieces ps p ≡ true → weave pos ps (strip pos ps (drop pos p)) ≡ drop pos p
unfolding strip weave Ascends
strip_weave_from [] pos p a f = refl
strip_weave_from (s ∷ ss) pos p a f =
    let g = fits-first s ss p f in
    let up : pos ≤ s.offset = a.0 in
    let before = take (s.offset - pos) (drop pos p) in
    let after = strip (piece_end s) ss (drop (piece_end s - pos) (drop pos p)) in
    let len : length before ≡ s.offset - pos = length-take-le (s.offset - pos) (drop pos p) (simp length-drop (omega arith)) in
    let far : drop (piece_end s - pos) (drop pos p) ≡ drop (piece_end s) p = drop_from pos (piece_end s) p (omega arith) in
    rw (take_at before after (s.offset - pos) len, drop_at before after (s.offset - pos) len, far, strip_weave_from ss (piece_end s) p a.1 g.rest)
    (around pos s p up g.here)

-- the bytes outside fitting pieces, woven again, are the packet
pub strip-weave : (ps : List Piece) (p : List ℕ) → Ascends 0 ps → fits_pieces ps p ≡ true → weave 0 ps (strip 0 ps p) ≡ p
strip-weave ps p a f = strip_weave_from ps 0 p a f

-- ---- lengths

pub ascends-end : (ps : List Piece) (pos : ℕ) → Ascends pos ps → pos ≤ last_end pos ps
unfolding Ascends
ascends-end [] pos a = omega arith
ascends-end (s ∷ ss) pos a = omega (arith, a.0, ascends-end ss (piece_end s) a.1)

-- fitting pieces end in the packet
pub fits-end : (ps : List Piece) (pos : ℕ) (p : List ℕ) → pos ≤ length p → fits_pieces ps p ≡ true → last_end pos ps ≤ length p
fits-end [] pos p h f = h
fits-end (s ∷ ss) pos p h f = let g = fits-first s ss p f in fits-end ss (piece_end s) p g.inside g.rest

length_strip_from : (ps : List Piece) (pos : ℕ) (p : List ℕ) → Ascends pos ps → last_end pos ps ≤ pos + length p → length (strip pos ps p) + static_size ps ≡ length p
unfolding strip Ascends
length_strip_from [] pos p a h = omega arith
length_strip_from (s ∷ ss) pos p a h =
    let up : pos ≤ s.offset = a.0 in
    let in_order = ascends-end ss (piece_end s) a.1 in
    let far = drop (piece_end s - pos) p in
    let l : length far ≡ length p - (piece_end s - pos) = length-drop (piece_end s - pos) p in
    let t : length (take (s.offset - pos) p) ≡ s.offset - pos = length-take-le (s.offset - pos) p (omega arith) in
    let r = length_strip_from ss (piece_end s) far a.1 (omega arith) in
    let e = length-append (take (s.offset - pos) p) (strip (piece_end s) ss far) in
    omega arith

-- pieces that end in the packet take their bytes out of it
pub length_strip : (ps : List Piece) (p : List ℕ) → Ascends 0 ps → last_end 0 ps ≤ length p → length (strip 0 ps p) + static_size ps ≡ length p
length_strip ps p a h = length_strip_from ps 0 p a (omega arith)

strip_append_from : (ps : List Piece) (pos : ℕ) (a b : List ℕ) → Ascends pos ps → last_end pos ps ≤ pos + length a → strip pos ps (a ++ b) ≡ strip pos ps a ++ b
unfolding strip Ascends
strip_append_from [] pos a b up h = refl
strip_append_from (s ∷ ss) pos a b up h =
    let i : pos ≤ s.offset = up.0 in
    let m = ascends-end ss (piece_end s) up.1 in
    let l = length-drop (piece_end s - pos) a in
    rw (take-append-le (s.offset - pos) a b (omega arith), drop-append-le (piece_end s - pos) a b (omega arith), strip_append_from ss (piece_end s) (drop (piece_end s - pos) a) b up.1 (omega arith))
    (sym (append_assoc (take (s.offset - pos) a) (strip (piece_end s) ss (drop (piece_end s - pos) a)) b))

-- what stands behind the last piece is left as it is
pub strip_append : (ps : List Piece) (a b : List ℕ) → Ascends 0 ps → last_end 0 ps ≤ length a → strip 0 ps (a ++ b) ≡ strip 0 ps a ++ b
strip_append ps a b up h = strip_append_from ps 0 a b up (omega arith)

-- and never is more left than there was
pub length_strip_most : (ps : List Piece) (pos : ℕ) (p : List ℕ) → length (strip pos ps p) ≤ length p
unfolding strip
length_strip_most [] pos p = omega arith
length_strip_most (s ∷ ss) pos p =
    let far = drop (piece_end s - pos) p in
    let r = length_strip_most ss (piece_end s) far in
    let l : length far ≡ length p - (piece_end s - pos) = length-drop (piece_end s - pos) p in
    let t = length-take (s.offset - pos) p in
    rw length-append (omega arith)

-- weaving puts the pieces' bytes in
pub length_weave : (ps : List Piece) (pos : ℕ) (v : List ℕ) → length (weave pos ps v) ≡ static_size ps + length v
unfolding weave
length_weave [] pos v = omega arith
length_weave (s ∷ ss) pos v =
    let w = s.offset - pos in
    let l = length-drop w v in
    let t = length-take w v in
    let r = length_weave ss (piece_end s) (drop w v) in
    rw (length-append, length-append) (omega arith)

-- ---- a field outside the pieces

begins_take : (b q : List ℕ) → begins b q ≡ begins b (take (length b) q)
begins_take [] q = refl
begins_take (x ∷ b) [] = refl
begins_take (x ∷ b) (y ∷ q) = ap (λ (t : Bool). eqb y x && t) (begins_take b q)

put_take-before : (n : ℕ) (l : List ℕ) (i v : ℕ) → n ≤ i → take n (put16 l i v) ≡ take n l
unfolding put16
put_take-before n l i v h = let k : n ≤ i + 1 = omega arith in rw (take-set-le, take-set-le)

begins_set : (s : Piece) (field v : ℕ) (p : List ℕ) → (field + 2 ≤ s.offset) ⊎ (piece_end s ≤ field)
    → begins s.bytes (drop s.offset (set_field field v p)) ≡ begins s.bytes (drop s.offset p)
begins_set s field v p h =
    ⊎_elim (λ a. ap (begins s.bytes) (put_drop p field v s.offset (omega arith)))
    (λ b.
    let n = length s.bytes in
    let e : take n (drop s.offset (set_field field v p)) ≡ take n (drop s.offset p) =
    ap (take n) (drop_put_from p s.offset field v (omega arith)) ∙ put_take-before n (drop s.offset p) (field - s.offset) v (omega arith)
    in begins_take s.bytes (drop s.offset (set_field field v p)) ∙ ap (begins s.bytes) e ∙ sym (begins_take s.bytes (drop s.offset p)))
    h

-- what stands in a field outside the pieces does not matter to them
pub fits_set : (ps : List Piece) (field v : ℕ) (p : List ℕ) → ClearOf field ps → fits_pieces ps (set_field field v p) ≡ fits_pieces ps p
unfolding fits_pieces ClearOf
fits_set [] field v p h = refl
fits_set (s ∷ ss) field v p h = rw (put_length p field v, begins_set s field v p h.0, fits_set ss field v p h.1)
