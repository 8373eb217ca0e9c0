-- Capsules as they are written, and lists that are not, computed.
use Rattle.std.specs.Prelude.{ℕ, ◌+◌, ◌-◌, ◌*◌, true, false, ◌≡◌, refl, List, [], ◌∷◌, replicate, Ok, Err}
use Rattle.answer.specs.declared.Refusal.TheVariants.{NoRoom, BadAddress, RangesOutOfOrder, BadRequestId, TooMany}
use Rattle.varint.specs.Numbers.{encode}
use Rattle.lists.specs.declared.AddressEntry.{AddressEntry}
use Rattle.lists.specs.declared.RouteRange.{RouteRange}
use Rattle.lists.specs.Rules.{sound_entry, sound_range, in_order}
use Rattle.lists.specs.Words.{max_addresses, entry_at, range_at, entries_of, ranges_of, entry_words, pack_entries, pack_ranges}
use Rattle.capsule.specs.Entries.{entry_bytes, range_bytes, entry_follows, range_follows}
use Rattle.capsule.specs.Capsules.{datagram, assign, advertise, capsule_bytes}
use Rattle.capsule_write.specs.Verdicts.{capsule_room, with_room, entries_verdict, ranges_verdict}

-- the IPv4 address of four bytes
ipv4 : ℕ → ℕ → ℕ → ℕ → ℕ
ipv4 a b c d = ((a * 256 + b) * 256 + c) * 256 + d

-- 192.0.2.3 with a prefix of so many bits
entry4 : ℕ → ℕ → AddressEntry
entry4 id n = record { request_id = record { 0 = id }; version = 4; prefix = n; hi = 0; lo = ipv4 192 0 2 3 }

-- one address of 198.51.100.0/24, for one protocol
range4 : ℕ → ℕ → RouteRange
range4 p a =
    record {
      version = 4;
      protocol = p;
      start_hi = 0;
      start_lo = ipv4 198 51 100 a;
      end_hi = 0;
      end_lo = ipv4 198 51 100 a;
    }

-- ---- written

assigned : List ℕ
assigned = pack_entries (entry4 0 32 ∷ [])

assignment_goes : with_room capsule_room (entries_verdict false assigned) ≡ Ok tt
unfolding with_room entries_verdict entry_at entry_follows sound_entry pack_entries assigned entry4 ipv4
assignment_goes = refl

-- 192.0.2.3/32, ID 0
assignment_bytes : capsule_bytes (assign (entries_of assigned)) ≡ 0x01 ∷ 0x07 ∷ 0x00 ∷ 0x04 ∷ 0xC0 ∷ 0x00 ∷ 0x02 ∷ 0x03 ∷ 0x20 ∷ []
unfolding capsule_bytes entry_bytes encode entries_of entry_at pack_entries assigned entry4 ipv4
assignment_bytes = refl

no-assignment_bytes : capsule_bytes (assign []) ≡ 0x01 ∷ 0x00 ∷ []
unfolding capsule_bytes encode
no-assignment_bytes = refl

advertised : List ℕ
advertised = pack_ranges (range4 17 2 ∷ [])

advertisement_goes : with_room capsule_room (ranges_verdict advertised) ≡ Ok tt
unfolding with_room ranges_verdict range_at range_follows sound_range in_order pack_ranges advertised range4 ipv4
advertisement_goes = refl

-- UDP to 198.51.100.2
advertisement_bytes : capsule_bytes (advertise (ranges_of advertised))
    ≡ 0x03 ∷ 0x0A ∷ 0x04 ∷ 0xC6 ∷ 0x33 ∷ 0x64 ∷ 0x02 ∷ 0xC6 ∷ 0x33 ∷ 0x64 ∷ 0x02 ∷ 0x11 ∷ []
unfolding capsule_bytes range_bytes encode ranges_of range_at pack_ranges advertised range4 ipv4
advertisement_bytes = refl

datagram-bytes : capsule_bytes (datagram (0x00 ∷ 0x45 ∷ [])) ≡ 0x00 ∷ 0x02 ∷ 0x00 ∷ 0x45 ∷ []
unfolding capsule_bytes encode
datagram-bytes = refl

-- ---- refused

-- the least output has 16,392 bytes
room : capsule_room ≡ 16392
room = refl

one_byte_less : with_room (capsule_room - 1) (entries_verdict false assigned) ≡ Err NoRoom
unfolding with_room
one_byte_less = refl

empty-request : with_room capsule_room (entries_verdict true (pack_entries [])) ≡ Err BadRequestId
unfolding with_room entries_verdict pack_entries
empty-request = refl

zero_id : with_room capsule_room (entries_verdict true assigned) ≡ Err BadRequestId
unfolding with_room entries_verdict entry_at entry_follows sound_entry pack_entries assigned entry4 ipv4
zero_id = refl

-- an ID again after another one; only a request refuses it
repeated : List ℕ
repeated = pack_entries (entry4 5 32 ∷ entry4 6 32 ∷ entry4 5 32 ∷ [])

repeated-id : with_room capsule_room (entries_verdict true repeated) ≡ Err BadRequestId
unfolding with_room entries_verdict entry_at entry_follows sound_entry pack_entries repeated entry4 ipv4
repeated-id = refl

repeated_assignment : with_room capsule_room (entries_verdict false repeated) ≡ Ok tt
unfolding with_room entries_verdict entry_at entry_follows sound_entry pack_entries repeated entry4 ipv4
repeated_assignment = refl

-- the words of a full list under a count of one more: a fault of theirs comes first
one_past : AddressEntry → List ℕ
one_past e = (max_addresses + 1) ∷ entry_words max_addresses (replicate max_addresses e)

too_many : with_room capsule_room (entries_verdict false (one_past (entry4 0 32))) ≡ Err TooMany
unfolding with_room entries_verdict entry_at entry_follows sound_entry one_past entry4 ipv4
too_many = refl

broken-first : with_room capsule_room (entries_verdict false (one_past (entry4 0 24))) ≡ Err BadAddress
unfolding with_room entries_verdict entry_at entry_follows sound_entry one_past entry4 ipv4
broken-first = refl

-- UDP and then all protocols
out_of_order : with_room capsule_room (ranges_verdict (pack_ranges (range4 17 2 ∷ range4 0 3 ∷ []))) ≡ Err RangesOutOfOrder
unfolding with_room ranges_verdict range_at range_follows sound_range in_order pack_ranges range4 ipv4
out_of_order = refl
