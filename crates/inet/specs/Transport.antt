-- The checksum of what an IP packet carries, from `start` to its end, in the two bytes at `field`.
use Rattle.std.specs.Prelude.{ℕ, ◌+◌, ◌-◌, ◌*◌, ◌/◌, ◌%◌, ◌≤◌, Bool, ◌&&◌, not, List, length, get_or, take, drop, leb, eqb}
use Rattle.answer.specs.Choice.{pick}
use Rattle.inet.specs.Sum.{words, fold}
use Rattle.inet.specs.Packet.{version_of, protocol_byte, put16}

-- what sums from start to a packet's end ask: a packet no longer than IPv4 allows, and start in it
pub record Within (start : ℕ) (p : List ℕ) : Type 0 where
  pub short : length p ≤ 65535
  pub inside : start ≤ length p

-- the words of both addresses
unfoldable pub address_words : List ℕ → ℕ
address_words p = pick (eqb (version_of p) 4) (words (take 8 (drop 12 p))) (words (take 32 (drop 8 p)))

-- the sum of the pseudo-header: both addresses, the protocol byte, and the packet's length less start
abbrev pub pseudo_sum : ℕ → List ℕ → ℕ
pseudo_sum start p = address_words p + protocol_byte p + (length p - start)

-- the seed: the folded sum of the pseudo-header
unfoldable pub seed : ℕ → List ℕ → ℕ
seed start p = fold (pseudo_sum start p)

-- the packet with v in its field
abbrev pub set_field : ℕ → ℕ → List ℕ → List ℕ
set_field field v p = put16 p field v

-- what stands in the field
abbrev pub field_of : ℕ → List ℕ → ℕ
field_of field p = get_or p field 0 * 256 + get_or p (field + 1) 0

-- whether the field's two bytes are those of v
unfoldable pub field_is : ℕ → ℕ → List ℕ → Bool
field_is field v p = eqb (get_or p field 0) (v / 256) && eqb (get_or p (field + 1) 0) (v % 256)

-- a checksum as it is sent: 0 becomes 65535 where the protocol is UDP
unfoldable pub sent : ℕ → ℕ → ℕ
sent protocol s = pick (eqb s 0 && eqb protocol 17) 65535 s

-- the checksum of a packet that has the seed in its field: the words from start to the end, folded, complemented
unfoldable pub finish : ℕ → List ℕ → ℕ
finish start q = sent (protocol_byte q) (65535 - fold (words (drop start q)))

-- the right checksum of a packet, whatever stands in its field
unfoldable pub completion : ℕ → ℕ → List ℕ → ℕ
completion field start p = finish start (set_field field (seed start p) p)

-- whether the field is all there and holds another checksum than the right one
unfoldable pub damaged : ℕ → ℕ → List ℕ → Bool
damaged field start p = leb (field + 2) (length p) && not (field_is field (completion field start p) p)
