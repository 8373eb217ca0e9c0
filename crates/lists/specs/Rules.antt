-- The rules of an address entry, of a route range, and of neighbours in a list of ranges (RFC 9484, section 4.7).
use Rattle.std.specs.Prelude.{ℕ, ◌-◌, ◌^◌, Bool, true, ◌&&◌, ◌||◌, List, [], ◌∷◌, leb, ltb, eqb}
use Rattle.answer.specs.Choice.{pick}
use Rattle.octets.specs.Wide.{wide, low_zero}
use Rattle.varint.specs.Numbers.{limit}
use Rattle.lists.specs.declared.AddressEntry.{AddressEntry}
use Rattle.lists.specs.declared.RouteRange.{RouteRange}

-- an address of version 4 has 32 bits, of version 6 it has 128
abbrev pub width_of : ℕ → ℕ
width_of v = pick (eqb v 4) 32 128

-- the version is 4 or 6, and an IPv4 address is below 2^32
abbrev pub of_version : ℕ → ℕ → Bool
of_version v a = eqb v 6 || (eqb v 4 && ltb a (2 ^ 32))

abbrev pub address_of : AddressEntry → ℕ
address_of e = wide e.hi e.lo

abbrev pub id_of : AddressEntry → ℕ
id_of e = e.request_id.0

-- version 4 or 6, a prefix of at most 32 or 128 bits, 0 in the bits beyond it, a Request ID below 2^62
unfoldable pub sound_entry : AddressEntry → Bool
sound_entry e =
    ltb (id_of e) limit
    && (of_version e.version (address_of e)
    && (leb e.prefix (width_of e.version) && low_zero (width_of e.version - e.prefix) (address_of e)))

abbrev pub start_of : RouteRange → ℕ
start_of r = wide r.start_hi r.start_lo

abbrev pub end_of : RouteRange → ℕ
end_of r = wide r.end_hi r.end_lo

-- version 4 or 6, the start at most the end, a protocol of one byte
unfoldable pub sound_range : RouteRange → Bool
sound_range r = leb (start_of r) (end_of r) && (of_version r.version (end_of r) && ltb r.protocol 256)

-- neighbours a, b: by version, then by protocol, then a ends before b starts
unfoldable pub in_order : RouteRange → RouteRange → Bool
in_order a b =
    ltb a.version b.version
    || (eqb a.version b.version
    && (ltb a.protocol b.protocol || (eqb a.protocol b.protocol && ltb (end_of a) (start_of b))))

-- the range before every range
abbrev pub before_all : RouteRange
before_all = record { version = 0; protocol = 0; start_hi = 0; start_lo = 0; end_hi = 0; end_lo = 0 }

-- each range is sound, and in order after the one before it
abbrev pub sound_after : RouteRange → List RouteRange → Bool
sound_after a [] = true
sound_after a (r ∷ rs) = sound_range r && (in_order a r && sound_after r rs)
