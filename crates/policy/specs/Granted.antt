-- Whether the grants in force let a packet pass: by its addresses, its protocol, and whether it is ICMP.
use Rattle.std.specs.Prelude.{ℕ, ◌+◌, ◌-◌, ◌/◌, ◌^◌, Bool, not, ◌&&◌, ◌||◌, List, leb, eqb}
use Rattle.octets.specs.Parts.{part}
use Rattle.octets.specs.Wide.{wide}
use Rattle.inet.specs.declared.Address.{Address}
use Rattle.inet.specs.Packet.{source_of, destination_of, protocol_of, is_icmp}
use Rattle.lists.specs.declared.AddressEntry.{AddressEntry}
use Rattle.lists.specs.declared.RouteRange.{RouteRange}
use Rattle.octets.specs.Scan.{any_of}
use Rattle.lists.specs.Rules.{width_of, address_of, start_of, end_of}
use Rattle.lists.specs.Words.{address_words, route_words, entries_of, ranges_of, sound_addresses, sound_routes}
use Rattle.policy.specs.declared.Flow.{Flow}

-- all of a packet that its verdict depends on
unfoldable pub flow_of : List ℕ → Flow
flow_of p = record { source = source_of p; destination = destination_of p; protocol = protocol_of p; icmp = is_icmp p }

abbrev pub address_value : Address → ℕ
address_value a = wide a.hi a.lo

-- an entry of all-zero address with full prefix length is a declined request
abbrev pub declined : AddressEntry → Bool
declined e = eqb (address_of e) 0 && eqb e.prefix (width_of e.version)

-- the bits of an entry's address beyond its prefix
abbrev pub beyond : AddressEntry → ℕ
beyond e = width_of e.version - e.prefix

-- the bits before the k lowest
abbrev pub high_bits : ℕ → ℕ → ℕ
high_bits k a = a / 2 ^ k

-- an entry covers an address of its version that agrees in the prefix bits; a declined request covers nothing
unfoldable pub covers : Address → AddressEntry → Bool
covers a e =
    eqb e.version a.version
    && (not (declined e)
    && eqb (high_bits (beyond e) (address_of e)) (high_bits (beyond e) (address_value a)))

-- a range allows a protocol if it names 0, names that protocol, or the packet is ICMP
abbrev pub allows : ℕ → Bool → RouteRange → Bool
allows protocol icmp r = eqb r.protocol 0 || (eqb r.protocol protocol || icmp)

-- an address of its version between its start and its end, both included
abbrev pub holds : Address → RouteRange → Bool
holds a r = eqb r.version a.version && (leb (start_of r) (address_value a) && leb (address_value a) (end_of r))

-- an address lies in a range that allows the protocol
unfoldable pub admits : Address → ℕ → Bool → RouteRange → Bool
admits a protocol icmp r = holds a r && allows protocol icmp r

-- ---- sides

-- what is granted in one direction
pub record Side : Type 0 where
  pub addresses : List AddressEntry
  pub routes : List RouteRange

-- both lists keep their rules
unfoldable pub sound_side : Side → Bool
sound_side s = sound_addresses s.addresses && sound_routes s.routes

-- one end's address is covered, and the other end's lies in a range that allows the protocol
abbrev pub granted : Side → Address → Address → Flow → Bool
granted s near far f = any_of (covers near) s.addresses && any_of (admits far f.protocol f.icmp) s.routes

-- granted by a side from source to destination, or as a reply by the other side from destination to source
unfoldable pub passes : Side → Side → Flow → Bool
passes side reply f = granted side f.source f.destination f || granted reply f.destination f.source f

-- the same flow with its two ends exchanged
abbrev pub reversed : Flow → Flow
reversed f = record { source = f.destination; destination = f.source; protocol = f.protocol; icmp = f.icmp }

-- ---- a side in words: its addresses, then its routes

abbrev pub side_words : ℕ
side_words = address_words + route_words

abbrev pub side_in : List ℕ → Side
side_in w = record { addresses = entries_of (part w 0 address_words); routes = ranges_of (part w address_words route_words) }
