-- IP packets as lists of bytes: their form (RFC 791, RFC 8200), what their headers say, and the packet with one hop fewer.
use Rattle.std.specs.Prelude.{ℕ, ◌+◌, ◌-◌, ◌*◌, ◌/◌, ◌%◌, ◌≤◌, Bool, true, false, ◌&&◌, ◌||◌, List, ◌⊎◌, ◌≡◌, length, get_or, take, set, leb, eqb}
use Rattle.answer.specs.Choice.{pick}
use Rattle.octets.specs.Big.{big_at}
use Rattle.inet.specs.declared.Address.{Address}
use Rattle.inet.specs.Sum.{words, fold}
use Rattle.chain.specs.Chain.{chain_of, whole, protocol_in}

-- the version: the high half of byte 0
abbrev pub version_of : List ℕ → ℕ
version_of p = get_or p 0 0 / 16

-- the length of the IPv4 header in bytes: IHL words of 4
abbrev pub header_length : List ℕ → ℕ
header_length p = get_or p 0 0 % 16 * 4

-- IPv4: at least 20 bytes, IHL at least 5, the header within the packet, the total length that of the packet, the header's words summing to 65535
unfoldable pub form4 : List ℕ → Bool
form4 p =
    leb 20 (length p)
    && eqb (version_of p) 4
    && leb 5 (get_or p 0 0 % 16)
    && leb (header_length p) (length p)
    && eqb (get_or p 2 0 * 256 + get_or p 3 0) (length p)
    && eqb (fold (words (take (header_length p) p))) 65535

-- IPv6: at least 40 bytes, and the payload length plus 40 that of the packet
unfoldable pub fixed6 : List ℕ → Bool
fixed6 p = leb 40 (length p) && eqb (version_of p) 6 && eqb (get_or p 4 0 * 256 + get_or p 5 0 + 40) (length p)

-- and each header of its chain is there whole
unfoldable pub form6 : List ℕ → Bool
form6 p = fixed6 p && whole (chain_of p)

-- a packet of good form; any other version is bad
unfoldable pub form : List ℕ → Bool
form p = form4 p || form6 p

-- the same as facts
pub record Form4 (p : List ℕ) : Type 0 where
  pub long : 20 ≤ length p
  pub four : version_of p ≡ 4
  pub ihl : 5 ≤ get_or p 0 0 % 16
  pub head : header_length p ≤ length p
  pub total : get_or p 2 0 * 256 + get_or p 3 0 ≡ length p
  pub sum : fold (words (take (header_length p) p)) ≡ 65535

pub record Fixed6 (p : List ℕ) : Type 0 where
  pub long : 40 ≤ length p
  pub six : version_of p ≡ 6
  pub payload : get_or p 4 0 * 256 + get_or p 5 0 + 40 ≡ length p

pub record Form6 (p : List ℕ) : Type 0 where
  pub fixed : Fixed6 p
  pub chain : whole (chain_of p) ≡ true

pub record Form (p : List ℕ) : Type 0 where
  pub long : 20 ≤ length p
  pub kind : Form4 p ⊎ Form6 p

-- an address of 4 bytes, and one of 16
abbrev pub address4_at : ℕ → List ℕ → Address
address4_at i p = record { version = 4; hi = 0; lo = big_at i 4 p }

abbrev pub address6_at : ℕ → List ℕ → Address
address6_at i p = record { version = version_of p; hi = big_at i 8 p; lo = big_at (i + 8) 8 p }

-- the source address: bytes 12 to 15 of IPv4, 8 to 23 of IPv6
unfoldable pub source_of : List ℕ → Address
source_of p = pick (eqb (version_of p) 4) (address4_at 12 p) (address6_at 8 p)

-- the destination address: bytes 16 to 19 of IPv4, 24 to 39 of IPv6
unfoldable pub destination_of : List ℕ → Address
destination_of p = pick (eqb (version_of p) 4) (address4_at 16 p) (address6_at 24 p)

-- the protocol that grants are about: byte 9 of IPv4, what the chain of IPv6 leads to, and 0 of any other version
unfoldable pub protocol_of : List ℕ → ℕ
protocol_of p = pick (eqb (version_of p) 4) (get_or p 9 0) (pick (eqb (version_of p) 6) (protocol_in (chain_of p)) 0)

-- the protocol that checksums count: byte 9 of IPv4, byte 6 of IPv6, and 0 of any other version
unfoldable pub protocol_byte : List ℕ → ℕ
protocol_byte p = pick (eqb (version_of p) 4) (get_or p 9 0) (pick (eqb (version_of p) 6) (get_or p 6 0) 0)

-- ICMP is 1 in IPv4 only, and 58 in IPv6 only
unfoldable pub icmp_in : ℕ → ℕ → Bool
icmp_in version protocol = pick (eqb version 4) (eqb protocol 1) (pick (eqb version 6) (eqb protocol 58) false)

unfoldable pub is_icmp : List ℕ → Bool
is_icmp p = icmp_in (version_of p) (protocol_of p)

-- the place of the hop count: TTL of IPv4, hop limit of IPv6
unfoldable pub hop_place : List ℕ → ℕ
hop_place p = pick (eqb (version_of p) 4) 8 7

-- the hop count
unfoldable pub hops_of : List ℕ → ℕ
hops_of p = get_or p (hop_place p) 0

-- a word put at i, high byte first
unfoldable pub put16 : List ℕ → ℕ → ℕ → List ℕ
put16 l i v = set (set l i (v / 256)) (i + 1) (v % 256)

-- the hop count less one, in IPv4 and in IPv6
abbrev pub hop4 : List ℕ → List ℕ
hop4 p = set p 8 (get_or p 8 0 - 1)

abbrev pub hop6 : List ℕ → List ℕ
hop6 p = set p 7 (get_or p 7 0 - 1)

-- the header checksum: the complement of the folded sum of the header with the checksum's field taken as 0
unfoldable pub header_check : List ℕ → ℕ
header_check p = 65535 - fold (words (take (header_length p) (put16 p 10 0)))

-- IPv4: the hop count less one, and the header checksum made again
unfoldable pub lowered4 : List ℕ → List ℕ
lowered4 p = put16 (hop4 p) 10 (header_check (hop4 p))

-- the packet as it goes on: the hop count less one and, in IPv4, the header checksum made again; any other version is left as it is
unfoldable pub lowered : List ℕ → List ℕ
lowered p = pick (eqb (version_of p) 4) (lowered4 p) (pick (eqb (version_of p) 6) (hop6 p) p)

-- a packet, or the front of one, with all of its IPv4 header, whose words sum to 65535, or with the hop limit of IPv6: no length
pub record Headed4 (p : List ℕ) : Type 0 where
  pub long : 20 ≤ length p
  pub four : version_of p ≡ 4
  pub ihl : 5 ≤ get_or p 0 0 % 16
  pub head : header_length p ≤ length p
  pub sum : fold (words (take (header_length p) p)) ≡ 65535

pub record Headed6 (p : List ℕ) : Type 0 where
  pub long : 8 ≤ length p
  pub six : version_of p ≡ 6

pub record Headed (p : List ℕ) : Type 0 where
  pub kind : Headed4 p ⊎ Headed6 p

-- what lowering a packet, or the front of one, into an image asks: what lowering looks at, a hop left, and room
pub record Lowerable (p image : List ℕ) : Type 0 where
  pub good : Headed p
  pub hops : 1 ≤ hops_of p
  pub room : length p ≤ length image
