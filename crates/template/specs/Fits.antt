-- Which template fits a packet, and which is used.
use Rattle.std.specs.Prelude.{ℕ, ◌+◌, Bool, true, ◌&&◌, List, [], ◌∷◌, leb, eqb, length}
use Rattle.answer.specs.Choice.{pick}
use Rattle.table.specs.Templates.{Sum, no_sum, sum_at, Template}
use Rattle.inet.specs.Transport.{completion, field_is}
use Rattle.template.specs.Pieces.{fits_pieces}

-- with a checksum, the field lies in the packet and equals the completion
abbrev pub fits_sum : Sum → List ℕ → Bool
fits_sum no_sum p = true
fits_sum (sum_at field start) p = leb (field + 2) (length p) && field_is field (completion field start p) p

-- every segment lies in the packet with equal bytes, and the checksum fits
unfoldable pub fits : Template → List ℕ → Bool
fits t p = fits_pieces t.pieces p && fits_sum t.sum p

-- the template that is used, or none
pub data Choice : Type 0 where
  full : Choice
  short : Template → Choice

-- the first template that fits: of ascending Context IDs the lowest
unfoldable pub first_fit : List Template → List ℕ → Choice
first_fit [] p = full
first_fit (t ∷ ts) p = pick (fits t p) (short t) (first_fit ts p)

-- the template with a Context ID, or none
pub data Lookup : Type 0 where
  missing : Lookup
  listed : Template → Lookup

unfoldable pub with_id : ℕ → List Template → Lookup
with_id id [] = missing
with_id id (t ∷ ts) = pick (eqb t.id id) (listed t) (with_id id ts)
