-- Computed examples: the drivers' plan and packet, as sending leaves it. Assumes nothing.
use Rattle.std.specs.Prelude.{ℕ, ◌≡◌, refl, true, false, List, [], ◌∷◌, take}
use Rattle.answer.specs.declared.Refusal.TheVariants.{UnknownContext, CutDatagram}
use Rattle.varint.specs.Numbers.{read_number, encode}
use Rattle.inet.specs.Sum.{words, fold}
use Rattle.inet.specs.Packet.{protocol_byte, put16}
use Rattle.inet.specs.Transport.{address_words, seed, field_is, sent, finish, completion}
use Rattle.table.specs.Templates.{sum_at, no_sum, Template}
use Rattle.template.specs.Pieces.{fits_pieces, strip, weave}
use Rattle.template.specs.Fits.{fits, short, first_fit, with_id}
use Rattle.template.specs.Datagrams.{short_form, full_form, datagram, rebuilt, reaches, packet, refused, opened}

-- Context ID 2, both addresses and both ports static, the checksum of UDP
abbrev udp : Template
udp =
    record {
      id = 2;
      pieces = record {
        offset = 12;
        bytes = 0xc0 ∷ 0x00 ∷ 0x02 ∷ 0x03 ∷ 0xc6 ∷ 0x33 ∷ 0x64 ∷ 0x02 ∷ 0x03 ∷ 0xe8 ∷ 0x07 ∷ 0xd0 ∷ [];
      } ∷ [];
      sum = sum_at 26 20;
    }

abbrev plan : List Template
plan = udp ∷ []

-- UDP from 192.0.2.3, port 1000, to 198.51.100.2, port 2000, with no data and this checksum
abbrev sent_as : ℕ → ℕ → List ℕ
sent_as hi lo =
    0x45 ∷ 0x00 ∷ 0x00 ∷ 0x1c ∷ 0x00 ∷ 0x00 ∷ 0x00 ∷ 0x00 ∷ 0x3f ∷ 0x11 ∷ 0x8f ∷ 0x98 ∷ 0xc0 ∷ 0x00 ∷ 0x02 ∷ 0x03
    ∷ 0xc6 ∷ 0x33 ∷ 0x64 ∷ 0x02 ∷ 0x03 ∷ 0xe8 ∷ 0x07 ∷ 0xd0 ∷ 0x00 ∷ 0x08 ∷ hi ∷ lo ∷ []

abbrev right : List ℕ
right = sent_as 0x07 0xed

-- the Context ID, the bytes outside the segment, and the seed EC 52 in the field
abbrev short-datagram : List ℕ
short-datagram =
    0x02 ∷ 0x45 ∷ 0x00 ∷ 0x00 ∷ 0x1c ∷ 0x00 ∷ 0x00 ∷ 0x00 ∷ 0x00 ∷ 0x3f ∷ 0x11 ∷ 0x8f ∷ 0x98 ∷ 0x00 ∷ 0x08 ∷ 0xec ∷ 0x52 ∷ []

fits-right : fits udp right ≡ true
unfolding fits fits_pieces field_is completion finish sent seed address_words protocol_byte put16 words fold
fits-right = refl

sends_short : datagram plan right ≡ short-datagram
unfolding datagram first_fit short_form strip encode fits fits_pieces field_is completion finish sent seed address_words protocol_byte put16 words fold
sends_short = refl

opens-short : opened plan short-datagram ≡ packet right
unfolding opened read_number with_id reaches rebuilt weave finish sent protocol_byte put16 words fold
opens-short = refl

-- a wrong checksum, and none: nothing fits, and the packet goes in full
unfit_wrong : datagram plan (sent_as 0x07 0xee) ≡ 0 ∷ sent_as 0x07 0xee
unfolding datagram first_fit full_form encode fits fits_pieces field_is completion finish sent seed address_words protocol_byte put16 words fold
unfit_wrong = refl

unfit_none : datagram plan (sent_as 0x00 0x00) ≡ 0 ∷ sent_as 0x00 0x00
unfolding datagram first_fit full_form encode fits fits_pieces field_is completion finish sent seed address_words protocol_byte put16 words fold
unfit_none = refl

opens-full : opened plan (0 ∷ sent_as 0x00 0x00) ≡ packet (sent_as 0x00 0x00)
unfolding opened read_number
opens-full = refl

-- a segment whose last byte differs
unfit_byte : fits (record { id = 2; pieces = record { offset = 24; bytes = 0x00 ∷ 0x09 ∷ [] } ∷ []; sum = no_sum }) right ≡ false
unfolding fits fits_pieces
unfit_byte = refl

-- a segment may end where the packet ends, and no further
fits-end : fits (record { id = 2; pieces = record { offset = 26; bytes = 0x07 ∷ 0xed ∷ [] } ∷ []; sum = no_sum }) right ≡ true
unfolding fits fits_pieces
fits-end = refl

unfit_end : fits (record { id = 2; pieces = record { offset = 27; bytes = 0xed ∷ 0x00 ∷ [] } ∷ []; sum = no_sum }) right ≡ false
unfolding fits fits_pieces
unfit_end = refl

-- of two that fit, the first
abbrev plain : Template
plain = record { id = 1; pieces = record { offset = 0; bytes = 0x45 ∷ [] } ∷ []; sum = no_sum }

fits-first : first_fit (plain ∷ udp ∷ []) right ≡ short plain
unfolding first_fit fits fits_pieces
fits-first = refl

-- a destination port of 4029: the sum comes to 0, so FF FF is the fitting checksum, under a template with the addresses static
abbrev addresses : Template
addresses =
    record {
      id = 3;
      pieces = record { offset = 12; bytes = 0xc0 ∷ 0x00 ∷ 0x02 ∷ 0x03 ∷ 0xc6 ∷ 0x33 ∷ 0x64 ∷ 0x02 ∷ [] } ∷ [];
      sum = sum_at 26 20;
    }

abbrev to_4029 : ℕ → ℕ → List ℕ
to_4029 hi lo =
    0x45 ∷ 0x00 ∷ 0x00 ∷ 0x1c ∷ 0x00 ∷ 0x00 ∷ 0x00 ∷ 0x00 ∷ 0x3f ∷ 0x11 ∷ 0x8f ∷ 0x98 ∷ 0xc0 ∷ 0x00 ∷ 0x02 ∷ 0x03
    ∷ 0xc6 ∷ 0x33 ∷ 0x64 ∷ 0x02 ∷ 0x03 ∷ 0xe8 ∷ 0x0f ∷ 0xbd ∷ 0x00 ∷ 0x08 ∷ hi ∷ lo ∷ []

fits_65535 : fits addresses (to_4029 0xff 0xff) ≡ true
unfolding fits fits_pieces field_is completion finish sent seed address_words protocol_byte put16 words fold
fits_65535 = refl

unfit_0 : fits addresses (to_4029 0x00 0x00) ≡ false
unfolding fits fits_pieces field_is completion finish sent seed address_words protocol_byte put16 words fold
unfit_0 = refl

-- refusals: an unknown Context ID; no Context ID; bytes that do not reach the segment's end, or the field's
unknown : opened plan (0x03 ∷ 0x45 ∷ []) ≡ refused UnknownContext
unfolding opened read_number with_id
unknown = refl

cut-empty : opened plan [] ≡ refused CutDatagram
unfolding opened read_number
cut-empty = refl

cut-id : opened plan (0x40 ∷ []) ≡ refused CutDatagram
unfolding opened read_number
cut-id = refl

cut_segment : opened plan (take 12 short-datagram) ≡ refused CutDatagram
unfolding opened read_number with_id reaches
cut_segment = refl

cut_field : opened plan (take 16 short-datagram) ≡ refused CutDatagram
unfolding opened read_number with_id reaches
cut_field = refl
