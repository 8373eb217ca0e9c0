-- Capsules read and written. Each fact here is found by computing.
use Rattle.std.specs.Prelude.{ℕ, ◌+◌, ◌*◌, true, false, ◌≡◌, refl, List, [], ◌∷◌, replicate, Ok, Err}
use Rattle.answer.specs.declared.Refusal.TheVariants.{Incomplete, TooLong, BadAddress, RangesOutOfOrder, BadRequestId}
use Rattle.capsule.specs.declared.Kind.TheVariants.{Datagram, Other}
use Rattle.varint.specs.Numbers.{read_number, encode, encoded_size}
use Rattle.lists.specs.declared.AddressEntry.{AddressEntry}
use Rattle.lists.specs.declared.RouteRange.{RouteRange}
use Rattle.lists.specs.Rules.{sound_entry, sound_range, in_order}
use Rattle.capsule.specs.Elements.{fault, all, parse, elements_in}
use Rattle.capsule.specs.Entries.{read_body, read_entry, read_range, entry_follows, range_follows, entry_bytes}
use Rattle.capsule.specs.Capsules.{max_value, datagram, assign, request, advertise, unknown, entries_in, ranges_in, refused, capsule, frame_of, read_value, read_capsule, capsule_bytes}
use Rattle.capsule.specs.Results.{next_after, read_at, frame_in}
use Rattle.capsule.specs.Shortest.{every_element, shortest_capsule}

-- 192.0.2.d with a prefix of n bits
abbrev network : ℕ → ℕ → ℕ → AddressEntry
network id d n = record { request_id = record { 0 = id }; version = 4; prefix = n; hi = 0; lo = ((192 * 256 + 0) * 256 + 2) * 256 + d }

-- 198.51.100.a to 198.51.100.b for a protocol
abbrev hosts : ℕ → ℕ → ℕ → RouteRange
hosts p a b =
    record {
      version = 4;
      protocol = p;
      start_hi = 0;
      start_lo = ((198 * 256 + 51) * 256 + 100) * 256 + a;
      end_hi = 0;
      end_lo = ((198 * 256 + 51) * 256 + 100) * 256 + b;
    }

-- ---- addresses

-- 192.0.2.3/32
assigned : read_capsule (0x01 ∷ 0x07 ∷ 0x00 ∷ 0x04 ∷ 0xc0 ∷ 0x00 ∷ 0x02 ∷ 0x03 ∷ 0x20 ∷ []) ≡ capsule (assign (network 0 3 32 ∷ [])) 2 9
unfolding read_capsule frame_of read_number read_value elements_in parse read_entry read_body sound_entry entry_follows
assigned = refl

assigned-written : capsule_bytes (assign (network 0 3 32 ∷ [])) ≡ 0x01 ∷ 0x07 ∷ 0x00 ∷ 0x04 ∷ 0xc0 ∷ 0x00 ∷ 0x02 ∷ 0x03 ∷ 0x20 ∷ []
unfolding capsule_bytes entry_bytes encode
assigned-written = refl

none-assigned : read_capsule (0x01 ∷ 0x00 ∷ []) ≡ capsule (assign []) 2 2
unfolding read_capsule frame_of read_number read_value elements_in parse
none-assigned = refl

none-requested : read_capsule (0x02 ∷ 0x00 ∷ []) ≡ refused BadRequestId
unfolding read_capsule frame_of read_number read_value elements_in parse
none-requested = refl

-- a request of ID 5, and one of ID 0
requested : read_capsule (0x02 ∷ 0x07 ∷ 0x05 ∷ 0x04 ∷ 0x00 ∷ 0x00 ∷ 0x00 ∷ 0x00 ∷ 0x20 ∷ [])
    ≡ capsule (request (record { request_id = record { 0 = 5 }; version = 4; prefix = 32; hi = 0; lo = 0 } ∷ [])) 2 9
unfolding read_capsule frame_of read_number read_value elements_in parse read_entry read_body sound_entry entry_follows
requested = refl

zero_requested : read_capsule (0x02 ∷ 0x07 ∷ 0x00 ∷ 0x04 ∷ 0xc0 ∷ 0x00 ∷ 0x02 ∷ 0x03 ∷ 0x20 ∷ []) ≡ refused BadRequestId
unfolding read_capsule frame_of read_number read_value elements_in parse read_entry read_body sound_entry entry_follows
zero_requested = refl

-- the first ID again, behind another
repeated-request : read_capsule (0x02 ∷ 0x15 ∷ 0x05 ∷ 0x04 ∷ 0xc0 ∷ 0x00 ∷ 0x02 ∷ 0x03 ∷ 0x20 ∷ 0x06 ∷ 0x04 ∷ 0xc0 ∷ 0x00 ∷ 0x02 ∷ 0x04 ∷ 0x20 ∷ 0x05 ∷ 0x04 ∷ 0xc0 ∷ 0x00 ∷ 0x02 ∷ 0x05 ∷ 0x20 ∷ [])
    ≡ refused BadRequestId
unfolding read_capsule frame_of read_number read_value elements_in parse read_entry read_body sound_entry entry_follows
repeated-request = refl

-- an ID again, and an entry of version 5 behind it; and such an entry before it
repeated_before_bad : read_capsule (0x02 ∷ 0x10 ∷ 0x05 ∷ 0x04 ∷ 0xc0 ∷ 0x00 ∷ 0x02 ∷ 0x03 ∷ 0x20 ∷ 0x05 ∷ 0x04 ∷ 0xc0 ∷ 0x00 ∷ 0x02 ∷ 0x04 ∷ 0x20 ∷ 0x07 ∷ 0x05 ∷ [])
    ≡ refused BadRequestId
unfolding read_capsule frame_of read_number read_value elements_in parse read_entry read_body sound_entry entry_follows
repeated_before_bad = refl

bad_before_repeated : read_capsule (0x02 ∷ 0x10 ∷ 0x05 ∷ 0x04 ∷ 0xc0 ∷ 0x00 ∷ 0x02 ∷ 0x03 ∷ 0x20 ∷ 0x07 ∷ 0x05 ∷ 0x05 ∷ 0x04 ∷ 0xc0 ∷ 0x00 ∷ 0x02 ∷ 0x04 ∷ 0x20 ∷ [])
    ≡ refused BadAddress
unfolding read_capsule frame_of read_number read_value elements_in parse read_entry read_body sound_entry entry_follows
bad_before_repeated = refl

-- 192.0.2.0/24, and 192.0.2.1/24
network-assigned : read_capsule (0x01 ∷ 0x07 ∷ 0x00 ∷ 0x04 ∷ 0xc0 ∷ 0x00 ∷ 0x02 ∷ 0x00 ∷ 0x18 ∷ []) ≡ capsule (assign (network 0 0 24 ∷ [])) 2 9
unfolding read_capsule frame_of read_number read_value elements_in parse read_entry read_body sound_entry entry_follows
network-assigned = refl

host_bit_set : read_capsule (0x01 ∷ 0x07 ∷ 0x00 ∷ 0x04 ∷ 0xc0 ∷ 0x00 ∷ 0x02 ∷ 0x01 ∷ 0x18 ∷ []) ≡ refused BadAddress
unfolding read_capsule frame_of read_number read_value elements_in parse read_entry read_body sound_entry entry_follows
host_bit_set = refl

-- ---- routes

-- UDP to 198.51.100.2
advertised : read_capsule (0x03 ∷ 0x0a ∷ 0x04 ∷ 0xc6 ∷ 0x33 ∷ 0x64 ∷ 0x02 ∷ 0xc6 ∷ 0x33 ∷ 0x64 ∷ 0x02 ∷ 0x11 ∷ []) ≡ capsule (advertise (hosts 17 2 2 ∷ [])) 2 12
unfolding read_capsule frame_of read_number read_value elements_in parse read_range sound_range in_order range_follows
advertised = refl

-- the capsule of two ranges
abbrev two_ranges : ℕ → ℕ → ℕ → ℕ → ℕ → ℕ → List ℕ
two_ranges p a b q c d =
    0x03 ∷ 0x14 ∷ 0x04 ∷ 0xc6 ∷ 0x33 ∷ 0x64 ∷ a ∷ 0xc6 ∷ 0x33 ∷ 0x64 ∷ b ∷ p ∷ 0x04 ∷ 0xc6 ∷ 0x33 ∷ 0x64 ∷ c ∷ 0xc6 ∷ 0x33 ∷ 0x64 ∷ d ∷ q ∷ []

apart : read_capsule (two_ranges 0 2 9 0 10 12) ≡ capsule (advertise (hosts 0 2 9 ∷ hosts 0 10 12 ∷ [])) 2 22
unfolding read_capsule frame_of read_number read_value elements_in parse read_range sound_range in_order range_follows
apart = refl

touching : read_capsule (two_ranges 0 2 9 0 9 12) ≡ refused RangesOutOfOrder
unfolding read_capsule frame_of read_number read_value elements_in parse read_range sound_range in_order range_follows
touching = refl

protocols-back : read_capsule (two_ranges 17 2 9 0 10 12) ≡ refused RangesOutOfOrder
unfolding read_capsule frame_of read_number read_value elements_in parse read_range sound_range in_order range_follows
protocols-back = refl

-- ---- frames

datagram-read : read_capsule (0x00 ∷ 0x03 ∷ 0x00 ∷ 0x45 ∷ 0x00 ∷ 0x77 ∷ []) ≡ capsule (datagram (0x00 ∷ 0x45 ∷ 0x00 ∷ [])) 2 5
unfolding read_capsule frame_of read_number read_value
datagram-read = refl

-- a type that is not known is skipped whole
skipped : read_capsule (0x21 ∷ 0x02 ∷ 0xaa ∷ 0xbb ∷ 0x00 ∷ []) ≡ capsule unknown 2 4
unfolding read_capsule frame_of read_number read_value
skipped = refl

-- the largest length, of a type that is not known
never_whole : read_capsule (0x21 ∷ 0xff ∷ 0xff ∷ 0xff ∷ 0xff ∷ 0xff ∷ 0xff ∷ 0xff ∷ 0xff ∷ 0x00 ∷ []) ≡ refused Incomplete
unfolding read_capsule frame_of read_number read_value
never_whole = refl

-- a length of 16385, and of 16384, of which nothing is there
over-limit : read_capsule (0x01 ∷ 0x80 ∷ 0x00 ∷ 0x40 ∷ 0x01 ∷ []) ≡ refused TooLong
unfolding read_capsule frame_of read_number read_value
over-limit = refl

at-limit : read_capsule (0x01 ∷ 0x80 ∷ 0x00 ∷ 0x40 ∷ 0x00 ∷ []) ≡ refused Incomplete
unfolding read_capsule frame_of read_number read_value
at-limit = refl

nothing : read_capsule [] ≡ refused Incomplete
unfolding read_capsule frame_of read_number read_value
nothing = refl

-- ---- at a place of a buffer

-- an empty list, and a datagram behind it
second-read : read_at (0x01 ∷ 0x00 ∷ 0x00 ∷ 0x03 ∷ 0x00 ∷ 0x45 ∷ 0x00 ∷ []) 2 ≡ Ok (record { kind = Datagram; start = 4; length = 3; next = 7 })
unfolding read_at read_capsule frame_of read_number read_value
second-read = refl

-- a capsule of type 0x21, and what its frame alone says
other-read : read_at (0x21 ∷ 0x02 ∷ 0xaa ∷ 0xbb ∷ []) 0 ≡ Ok (record { kind = Other; start = 2; length = 2; next = 4 })
unfolding read_at read_capsule frame_of read_number read_value
other-read = refl

other-framed : frame_in (0x21 ∷ 0x02 ∷ 0xaa ∷ 0xbb ∷ []) 0 ≡ Ok (record { kind = Other; start = 2; length = 2; next = 4 })
unfolding frame_in frame_of read_number
other-framed = refl

-- a refusal leaves the place
refused-read : (read_at (0x01 ∷ 0x00 ∷ 0x02 ∷ 0x00 ∷ []) 2 ≡ Err BadRequestId) × (next_after 2 (read_at (0x01 ∷ 0x00 ∷ 0x02 ∷ 0x00 ∷ []) 2) ≡ 2)
unfolding read_at read_capsule frame_of read_number read_value elements_in parse
refused-read = (refl, refl)

-- ---- lists without type and length

entries-taken : entries_in false (0x00 ∷ 0x04 ∷ 0xc0 ∷ 0x00 ∷ 0x02 ∷ 0x03 ∷ 0x20 ∷ []) ≡ all (network 0 3 32 ∷ [])
unfolding entries_in elements_in parse read_entry read_body read_number sound_entry entry_follows
entries-taken = refl

-- a value over the limit, whatever its bytes are
value-over-limit : entries_in false (replicate (max_value + 1) 0) ≡ fault TooLong
unfolding entries_in
value-over-limit = refl

-- UDP, and then all protocols
out_of_order : ranges_in (
    0x04 ∷ 0xc6 ∷ 0x33 ∷ 0x64 ∷ 0x02 ∷ 0xc6 ∷ 0x33 ∷ 0x64 ∷ 0x02 ∷ 0x11
    ∷ 0x04 ∷ 0xc6 ∷ 0x33 ∷ 0x64 ∷ 0x03 ∷ 0xc6 ∷ 0x33 ∷ 0x64 ∷ 0x03 ∷ 0x00 ∷ [])
    ≡ fault RangesOutOfOrder
unfolding ranges_in elements_in parse read_range sound_range in_order range_follows
out_of_order = refl

-- ---- shortest form

all-shortest : shortest_capsule (0x01 ∷ 0x07 ∷ 0x00 ∷ 0x04 ∷ 0xc0 ∷ 0x00 ∷ 0x02 ∷ 0x03 ∷ 0x20 ∷ []) ≡ true
unfolding shortest_capsule every_element frame_of read_number read_entry read_body sound_entry encode encoded_size
all-shortest = refl

-- a Request ID of two bytes
longer-id : shortest_capsule (0x01 ∷ 0x08 ∷ 0x40 ∷ 0x00 ∷ 0x04 ∷ 0xc0 ∷ 0x00 ∷ 0x02 ∷ 0x03 ∷ 0x20 ∷ []) ≡ false
unfolding shortest_capsule every_element frame_of read_number read_entry read_body sound_entry encode encoded_size
longer-id = refl
