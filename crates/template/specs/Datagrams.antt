-- The short form and the full form of a packet, and the packet that a datagram stands for.
use Rattle.std.specs.Prelude.{ℕ, ◌+◌, Bool, ◌&&◌, List, ◌++◌, leb, eqb, length, drop, Option, Some, None}
use Rattle.answer.specs.declared.Refusal.{Refusal}
use Rattle.answer.specs.declared.Refusal.TheVariants.{UnknownContext, CutDatagram, PacketTooLong}
use Rattle.answer.specs.Choice.{pick}
use Rattle.varint.specs.declared.Number.{Number}
use Rattle.varint.specs.Numbers.{read_number, encode}
use Rattle.inet.specs.Transport.{seed, set_field, finish}
use Rattle.table.specs.Templates.{Sum, no_sum, sum_at, Template, static_size}
use Rattle.template.specs.Pieces.{strip, weave, last_end}
use Rattle.template.specs.Fits.{Choice, full, short, first_fit, Lookup, missing, listed, with_id}

-- the most bytes of a packet
abbrev pub max_packet : ℕ
max_packet = 1500

-- ---- sending: p is the packet as it goes on

-- the packet with the seed in the field
abbrev pub seeded : Sum → List ℕ → List ℕ
seeded no_sum p = p
seeded (sum_at field start) p = set_field field (seed start p) p

-- short form: Context ID, then the bytes outside all segments with the seed in the field
unfoldable pub short_form : Template → List ℕ → List ℕ
short_form t p = encode t.id ++ strip 0 t.pieces (seeded t.sum p)

-- full form: 0, then the packet
unfoldable pub full_form : List ℕ → List ℕ
full_form p = encode 0 ++ p

abbrev pub form_of : Choice → List ℕ → List ℕ
form_of full p = full_form p
form_of (short t) p = short_form t p

-- the datagram of a packet under some templates
unfoldable pub datagram : List Template → List ℕ → List ℕ
datagram ts p = form_of (first_fit ts p) p

-- ---- receiving

-- the sum completed in a packet that has the seed in its field
abbrev pub completed : Sum → List ℕ → List ℕ
completed no_sum q = q
completed (sum_at field start) q = set_field field (finish start q) q

-- the packet that the bytes v behind a Context ID stand for
unfoldable pub rebuilt : Template → List ℕ → List ℕ
rebuilt t v = completed t.sum (weave 0 t.pieces v)

abbrev pub sum_end : Sum → ℕ
sum_end no_sum = 0
sum_end (sum_at field start) = field + 2

-- the bytes v reach the last segment's end and the field's end
unfoldable pub reaches : Template → List ℕ → Bool
reaches t v =
    leb (last_end 0 t.pieces) (static_size t.pieces + length v) && leb (sum_end t.sum) (static_size t.pieces + length v)

-- the packet that a datagram stands for, or the refusal
pub data Opened : Type 0 where
  refused : Refusal → Opened
  packet : List ℕ → Opened

abbrev pub within_limit : List ℕ → Opened
within_limit q = pick (leb (length q) max_packet) (packet q) (refused PacketTooLong)

abbrev pub open_short : List ℕ → Lookup → Opened
open_short v missing = refused UnknownContext
open_short v (listed t) = pick (reaches t v) (within_limit (rebuilt t v)) (refused CutDatagram)

-- by the Context ID: 0 is the full form
abbrev pub open_body : List Template → ℕ → List ℕ → Opened
open_body ts id v = pick (eqb id 0) (within_limit v) (open_short v (with_id id ts))

abbrev pub after_id : List Template → List ℕ → Option Number → Opened
after_id ts d (Some q) = open_body ts q.value (drop q.size d)
after_id ts d None = refused CutDatagram

unfoldable pub opened : List Template → List ℕ → Opened
opened ts d = after_id ts d (read_number d)
