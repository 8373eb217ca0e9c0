-- Computed examples: RFC 1071's own sum, a UDP packet of 28 bytes, two headers that lower to the same bytes, an IPv6 header, and chains of IPv6 headers. Assumes nothing.
use Rattle.std.specs.Prelude.{◌≡◌, refl, true, false, List, [], ◌∷◌, ◌++◌, ℕ, take}
use Rattle.inet.specs.Sum.{words, fold, carry}
use Rattle.chain.specs.Chain.{class_of, size_of, later, onward, walk, chain, chain_of}
use Rattle.chain.specs.Examples.{hop_by_hop, fragment_of, echo}
use Rattle.inet.specs.Packet.{form4, fixed6, form6, form, source_of, destination_of, protocol_of, protocol_byte, icmp_in, is_icmp, put16, header_check, lowered4, lowered}
use Rattle.inet.specs.Transport.{address_words, seed, field_is, sent, finish, completion, damaged}

-- RFC 1071, section 3
words_rfc1071 : words (0x00 ∷ 0x01 ∷ 0xf2 ∷ 0x03 ∷ 0xf4 ∷ 0xf5 ∷ 0xf6 ∷ 0xf7 ∷ []) ≡ 0x2ddf0
unfolding words
words_rfc1071 = refl

fold_rfc1071 : fold 0x2ddf0 ≡ 0xddf2
unfolding fold
fold_rfc1071 = refl

carry_rfc1071 : carry 0x2ddf0 ≡ 0xddf2
unfolding carry
carry_rfc1071 = refl

-- an odd last byte is a high half
words_odd : words (0x01 ∷ 0x02 ∷ 0x03 ∷ []) ≡ 0x0402
unfolding words
words_odd = refl

-- UDP from 192.0.2.3 to 198.51.100.2, port 1000 to the port of the two bytes, with no data
udp : ℕ → ℕ → ℕ → ℕ → ℕ → ℕ → ℕ → List ℕ
udp ttl header-hi header-lo port-hi port-lo sum-hi sum-lo =
    0x45 ∷ 0x00 ∷ 0x00 ∷ 0x1c ∷ 0x00 ∷ 0x00 ∷ 0x00 ∷ 0x00 ∷ ttl ∷ 0x11 ∷ header-hi ∷ header-lo
    ∷ 0xc0 ∷ 0x00 ∷ 0x02 ∷ 0x03 ∷ 0xc6 ∷ 0x33 ∷ 0x64 ∷ 0x02
    ∷ 0x03 ∷ 0xe8 ∷ port-hi ∷ port-lo ∷ 0x00 ∷ 0x08 ∷ sum-hi ∷ sum-lo ∷ []

sample : List ℕ
sample = udp 0x40 0x8e 0x98 0x07 0xd0 0x07 0xed

form-sample : form sample ≡ true
unfolding sample udp form form4 form6 fold words
form-sample = refl

-- one bit of the header changed
form-broken : form (udp 0x40 0x8e 0x99 0x07 0xd0 0x07 0xed) ≡ false
unfolding udp form form4 form6 fixed6 fold words
form-broken = refl

form-empty : form [] ≡ false
unfolding form form4 form6 fixed6 fold words
form-empty = refl

source_sample : source_of sample ≡ record { version = 4; hi = 0; lo = 0xc0000203 }
unfolding sample udp source_of
source_sample = refl

destination_sample : destination_of sample ≡ record { version = 4; hi = 0; lo = 0xc6336402 }
unfolding sample udp destination_of
destination_sample = refl

lowered-sample : lowered sample ≡ udp 0x3f 0x8f 0x98 0x07 0xd0 0x07 0xed
unfolding sample udp lowered lowered4 header_check put16 fold words
lowered-sample = refl

seed-sample : seed 20 sample ≡ 0xec52
unfolding sample udp seed address_words protocol_byte fold words
seed-sample = refl

completion-sample : completion 26 20 sample ≡ 0x07ed
unfolding sample udp completion finish sent seed address_words protocol_byte put16 fold words
completion-sample = refl

damaged-sample : damaged 26 20 sample ≡ false
unfolding sample udp damaged field_is completion finish sent seed address_words protocol_byte put16 fold words
damaged-sample = refl

damaged-other : damaged 26 20 (udp 0x40 0x8e 0x98 0x07 0xd0 0x07 0xee) ≡ true
unfolding udp damaged field_is completion finish sent seed address_words protocol_byte put16 fold words
damaged-other = refl

-- to port 4029 the sum's complement is 0, and UDP sends 65535
completion_zero : completion 26 20 (udp 0x40 0x8e 0x98 0x0f 0xbd 0x00 0x00) ≡ 0xffff
unfolding udp completion finish sent seed address_words protocol_byte put16 fold words
completion_zero = refl

-- two sound headers, equal but for the checksum, that lower to the same bytes
twin : ℕ → ℕ → List ℕ
twin hi lo =
    0x45 ∷ 0x00 ∷ 0x00 ∷ 0x14 ∷ 0x8e ∷ 0xa0 ∷ 0x00 ∷ 0x00 ∷ 0x40 ∷ 0x11 ∷ hi ∷ lo
    ∷ 0xc0 ∷ 0x00 ∷ 0x02 ∷ 0x03 ∷ 0xc6 ∷ 0x33 ∷ 0x64 ∷ 0x02 ∷ []

form_twin_zero : form (twin 0x00 0x00) ≡ true
unfolding twin form form4 form6 fold words
form_twin_zero = refl

form_twin_ones : form (twin 0xff 0xff) ≡ true
unfolding twin form form4 form6 fold words
form_twin_ones = refl

lowered-twins : lowered (twin 0x00 0x00) ≡ lowered (twin 0xff 0xff)
unfolding twin lowered lowered4 header_check put16 fold words
lowered-twins = refl

-- an IPv6 header with no payload, from 2001:db8::1 to 2001:db8::2
ipv6 : ℕ → ℕ → List ℕ
ipv6 next hops =
    0x60 ∷ 0x00 ∷ 0x00 ∷ 0x00 ∷ 0x00 ∷ 0x00 ∷ next ∷ hops
    ∷ 0x20 ∷ 0x01 ∷ 0x0d ∷ 0xb8 ∷ 0x00 ∷ 0x00 ∷ 0x00 ∷ 0x00 ∷ 0x00 ∷ 0x00 ∷ 0x00 ∷ 0x00 ∷ 0x00 ∷ 0x00 ∷ 0x00 ∷ 0x01
    ∷ 0x20 ∷ 0x01 ∷ 0x0d ∷ 0xb8 ∷ 0x00 ∷ 0x00 ∷ 0x00 ∷ 0x00 ∷ 0x00 ∷ 0x00 ∷ 0x00 ∷ 0x00 ∷ 0x00 ∷ 0x00 ∷ 0x00 ∷ 0x02 ∷ []

form-ipv6 : form (ipv6 58 64) ≡ true
unfolding ipv6 form form4 form6 fixed6 chain_of chain walk onward class_of fold words
form-ipv6 = refl

destination_ipv6 : destination_of (ipv6 58 64) ≡ record { version = 6; hi = 0x20010db800000000; lo = 2 }
unfolding ipv6 destination_of
destination_ipv6 = refl

lowered-ipv6 : lowered (ipv6 58 64) ≡ ipv6 58 63
unfolding ipv6 lowered lowered4 header_check put16 fold words
lowered-ipv6 = refl

-- ICMP is 58 in IPv6 and 1 in IPv4, and neither in the other
is_icmp-ipv6 : is_icmp (ipv6 58 64) ≡ true
unfolding ipv6 is_icmp icmp_in protocol_of chain_of chain walk onward class_of
is_icmp-ipv6 = refl

is_icmp_ipv6-one : is_icmp (ipv6 1 64) ≡ false
unfolding ipv6 is_icmp icmp_in protocol_of chain_of chain walk onward class_of
is_icmp_ipv6-one = refl

-- ---- chains of IPv6 headers

-- a packet with hop-by-hop options: an echo request, and a later fragment of one
carrying : ℕ → List ℕ → List ℕ
carrying size rest =
    0x60 ∷ 0x00 ∷ 0x00 ∷ 0x00 ∷ 0x00 ∷ size ∷ 0x00 ∷ 0x40
    ∷ 0x20 ∷ 0x01 ∷ 0x0d ∷ 0xb8 ∷ 0x00 ∷ 0x00 ∷ 0x00 ∷ 0x00 ∷ 0x00 ∷ 0x00 ∷ 0x00 ∷ 0x00 ∷ 0x00 ∷ 0x00 ∷ 0x00 ∷ 0x01
    ∷ 0x20 ∷ 0x01 ∷ 0x0d ∷ 0xb8 ∷ 0x00 ∷ 0x00 ∷ 0x00 ∷ 0x00 ∷ 0x00 ∷ 0x00 ∷ 0x00 ∷ 0x00 ∷ 0x00 ∷ 0x00 ∷ 0x00 ∷ 0x02 ∷ rest

asked : List ℕ
asked = carrying 16 (hop_by_hop 58 ++ echo)

cut : List ℕ
cut = carrying 7 (take 7 (hop_by_hop 58))

later_part : List ℕ
later_part = carrying 24 (hop_by_hop 44 ++ (fragment_of 58 0x05 0xa8 ++ echo))

form-asked : form asked ≡ true
unfolding asked carrying hop_by_hop echo form form4 form6 fixed6 chain_of chain walk onward class_of size_of later fold words
form-asked = refl

form-cut : form cut ≡ false
unfolding cut carrying hop_by_hop form form4 form6 fixed6 chain_of chain walk onward class_of size_of later fold words
form-cut = refl

icmp_asked : is_icmp asked ≡ true
unfolding asked carrying hop_by_hop echo is_icmp icmp_in protocol_of chain_of chain walk onward class_of size_of later
icmp_asked = refl

icmp_later : is_icmp later_part ≡ false
unfolding later_part carrying hop_by_hop fragment_of echo is_icmp icmp_in protocol_of chain_of chain walk onward class_of size_of later
icmp_later = refl

-- checksums count byte 6
byte_asked : protocol_byte asked ≡ 0
unfolding asked carrying protocol_byte
byte_asked = refl
