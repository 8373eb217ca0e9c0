-- A packet outside the pieces of a template, and the packet again.
use Rattle.std.specs.Prelude.{ℕ, ◌-◌, Bool, true, false, ◌&&◌, List, [], ◌∷◌, ◌++◌, leb, eqb, length, take, drop}
use Rattle.table.specs.Templates.{Piece, piece_end}

-- p begins with b
abbrev pub begins : List ℕ → List ℕ → Bool
begins [] p = true
begins (x ∷ b) [] = false
begins (x ∷ b) (y ∷ p) = eqb y x && begins b p

-- each piece lies in the packet p with equal bytes
unfoldable pub fits_pieces : List Piece → List ℕ → Bool
fits_pieces [] p = true
fits_pieces (s ∷ ss) p = leb (piece_end s) (length p) && (begins s.bytes (drop s.offset p) && fits_pieces ss p)

-- p is what a packet has from the position pos on: its bytes outside the pieces, in order
unfoldable pub strip : ℕ → List Piece → List ℕ → List ℕ
strip pos [] p = p
strip pos (s ∷ ss) p = take (s.offset - pos) p ++ strip (piece_end s) ss (drop (piece_end s - pos) p)

-- the packet from the position pos on, whose bytes outside the pieces are v
unfoldable pub weave : ℕ → List Piece → List ℕ → List ℕ
weave pos [] v = v
weave pos (s ∷ ss) v = take (s.offset - pos) v ++ (s.bytes ++ weave (piece_end s) ss (drop (s.offset - pos) v))

-- where the last of the pieces ends
abbrev pub last_end : ℕ → List Piece → ℕ
last_end pos [] = pos
last_end pos (s ∷ ss) = last_end (piece_end s) ss
