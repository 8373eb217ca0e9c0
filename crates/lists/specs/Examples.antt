-- The rules, computed.
use Rattle.std.specs.Prelude.{ℕ, ◌+◌, ◌*◌, Bool, true, false, ◌≡◌, refl, List, [], ◌∷◌, replicate}
use Rattle.lists.specs.declared.AddressEntry.{AddressEntry}
use Rattle.lists.specs.declared.RouteRange.{RouteRange}
use Rattle.lists.specs.Rules.{sound_entry, sound_range, in_order, before_all}
use Rattle.octets.specs.Scan.{from}
use Rattle.lists.specs.Words.{range_at, ranges_of, sound_addresses, sound_routes, pack_ranges}

-- the IPv4 address of four bytes
ipv4 : ℕ → ℕ → ℕ → ℕ → ℕ
ipv4 a b c d = ((a * 256 + b) * 256 + c) * 256 + d

entry4 : ℕ → ℕ → AddressEntry
entry4 a n = record { request_id = record { 0 = 1 }; version = 4; prefix = n; hi = 0; lo = a }

-- the addresses of 198.51.100.0/24 whose last byte is between two values
range4 : ℕ → ℕ → ℕ → RouteRange
range4 p a b =
    record {
      version = 4;
      protocol = p;
      start_hi = 0;
      start_lo = ipv4 198 51 100 a;
      end_hi = 0;
      end_lo = ipv4 198 51 100 b;
    }

-- ---- entries

-- 192.0.2.0/24, and 192.0.2.1/24
network-sound : sound_entry (entry4 (ipv4 192 0 2 0) 24) ≡ true
unfolding sound_entry entry4 ipv4
network-sound = refl

host_bit_broken : sound_entry (entry4 (ipv4 192 0 2 1) 24) ≡ false
unfolding sound_entry entry4 ipv4
host_bit_broken = refl

-- 192.0.2.1/32, and a prefix of 33 bits
host-sound : sound_entry (entry4 (ipv4 192 0 2 1) 32) ≡ true
unfolding sound_entry entry4 ipv4
host-sound = refl

prefix-broken : sound_entry (entry4 (ipv4 192 0 2 1) 33) ≡ false
unfolding sound_entry entry4 ipv4
prefix-broken = refl

-- ---- ranges

udp : ℕ
udp = 17

-- one address for UDP, and a range that ends before it starts
one_address_sound : sound_range (range4 udp 2 2) ≡ true
unfolding sound_range range4 ipv4 udp
one_address_sound = refl

reversed-broken : sound_range (range4 udp 3 2) ≡ false
unfolding sound_range range4 ipv4 udp
reversed-broken = refl

-- 2 to 9 and then 10 to 12, or 9 to 12
apart_in_order : in_order (range4 0 2 9) (range4 0 10 12) ≡ true
unfolding in_order range4 ipv4
apart_in_order = refl

touching_out_of_order : in_order (range4 0 2 9) (range4 0 9 12) ≡ false
unfolding in_order range4 ipv4
touching_out_of_order = refl

-- UDP and then all protocols, and the other way round
protocol_out_of_order : in_order (range4 udp 2 9) (range4 0 10 12) ≡ false
unfolding in_order range4 ipv4 udp
protocol_out_of_order = refl

protocol_in_order : in_order (range4 0 10 12) (range4 udp 2 9) ≡ true
unfolding in_order range4 ipv4 udp
protocol_in_order = refl

-- the first range follows nothing
first_in_order : in_order before_all (range4 0 0 0) ≡ true
unfolding in_order range4 ipv4
first_in_order = refl

-- ---- lists

routes : List RouteRange
routes = range4 0 2 9 ∷ range4 0 10 12 ∷ range4 udp 2 2 ∷ []

routes_read_back : ranges_of (pack_ranges routes) ≡ routes
unfolding ranges_of pack_ranges range_at routes range4 ipv4 udp
routes_read_back = refl

routes-sound : sound_routes (ranges_of (pack_ranges routes)) ≡ true
unfolding sound_routes ranges_of pack_ranges range_at sound_range in_order routes range4 ipv4 udp
routes-sound = refl

-- ---- full lists, and one element more

sound_row : ℕ → Bool
sound_row n = sound_addresses (replicate n (entry4 (ipv4 192 0 2 0) 24))

addresses-full : sound_row 32 ≡ true
unfolding sound_row sound_addresses sound_entry entry4 ipv4
addresses-full = refl

addresses-over : sound_row 33 ≡ false
unfolding sound_row sound_addresses sound_entry entry4 ipv4
addresses-over = refl

-- protocols 0 to 255 for one address, and then one address more
protocols : List RouteRange
protocols = from (λ p. range4 p 2 2) 0 256

routes-full : sound_routes protocols ≡ true
unfolding protocols sound_routes sound_range in_order range4 ipv4
routes-full = refl

routes-over : sound_routes (range4 0 1 1 ∷ protocols) ≡ false
unfolding protocols sound_routes sound_range in_order range4 ipv4
routes-over = refl
