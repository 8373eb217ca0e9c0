-- Cover, admission and the verdict, computed.
use Rattle.std.specs.Prelude.{ℕ, ◌+◌, ◌*◌, ◌^◌, true, false, ◌≡◌, refl, [], ◌∷◌}
use Rattle.inet.specs.declared.Address.{Address}
use Rattle.lists.specs.declared.AddressEntry.{AddressEntry}
use Rattle.lists.specs.declared.RouteRange.{RouteRange}
use Rattle.policy.specs.declared.Flow.{Flow}
use Rattle.policy.specs.Granted.{Side, covers, admits, passes, reversed}

-- the number of four bytes
ipv4 : ℕ → ℕ → ℕ → ℕ → ℕ
ipv4 a b c d = ((a * 256 + b) * 256 + c) * 256 + d

address4 : ℕ → Address
address4 a = record { version = 4; hi = 0; lo = a }

address6 : ℕ → ℕ → Address
address6 h l = record { version = 6; hi = h; lo = l }

entry4 : ℕ → ℕ → AddressEntry
entry4 a n = record { request_id = record { 0 = 0 }; version = 4; prefix = n; hi = 0; lo = a }

entry6 : ℕ → ℕ → ℕ → AddressEntry
entry6 h l n = record { request_id = record { 0 = 0 }; version = 6; prefix = n; hi = h; lo = l }

-- one IPv4 address for a protocol
only4 : ℕ → ℕ → RouteRange
only4 p a = record { version = 4; protocol = p; start_hi = 0; start_lo = a; end_hi = 0; end_lo = a }

udp : ℕ
udp = 17

tcp : ℕ
tcp = 6

-- ---- cover

-- 192.0.2.3/32
host-covers : covers (address4 (ipv4 192 0 2 3)) (entry4 (ipv4 192 0 2 3) 32) ≡ true
unfolding covers address4 entry4 ipv4
host-covers = refl

host_covers_no_other : covers (address4 (ipv4 192 0 2 4)) (entry4 (ipv4 192 0 2 3) 32) ≡ false
unfolding covers address4 entry4 ipv4
host_covers_no_other = refl

-- 192.0.2.0/24
network-covers : covers (address4 (ipv4 192 0 2 77)) (entry4 (ipv4 192 0 2 0) 24) ≡ true
unfolding covers address4 entry4 ipv4
network-covers = refl

network_covers_no_other : covers (address4 (ipv4 192 0 3 77)) (entry4 (ipv4 192 0 2 0) 24) ≡ false
unfolding covers address4 entry4 ipv4
network_covers_no_other = refl

-- 0.0.0.0/32 is declined; 0.0.0.0/0 is not
declined_covers_not_itself : covers (address4 0) (entry4 0 32) ≡ false
unfolding covers address4 entry4
declined_covers_not_itself = refl

all-covers : covers (address4 (ipv4 192 0 2 3)) (entry4 0 0) ≡ true
unfolding covers address4 entry4 ipv4
all-covers = refl

-- an IPv6 address of the same number
version_counts : covers (address6 0 (ipv4 192 0 2 3)) (entry4 (ipv4 192 0 2 3) 32) ≡ false
unfolding covers address6 entry4 ipv4
version_counts = refl

-- 2001:db8::/32 and 2001:db8::/96
prefix_in_high_word : covers (address6 (536939960 * 2 ^ 32 + 1) 5) (entry6 (536939960 * 2 ^ 32) 0 32) ≡ true
unfolding covers address6 entry6
prefix_in_high_word = refl

prefix_in_low_word : covers (address6 (536939960 * 2 ^ 32) 5) (entry6 (536939960 * 2 ^ 32) 0 96) ≡ true
unfolding covers address6 entry6
prefix_in_low_word = refl

prefix_in_low_word-broken : covers (address6 (536939960 * 2 ^ 32) (2 ^ 32)) (entry6 (536939960 * 2 ^ 32) 0 96) ≡ false
unfolding covers address6 entry6
prefix_in_low_word-broken = refl

-- ---- admission

-- UDP to 198.51.100.2
udp-admits : admits (address4 (ipv4 198 51 100 2)) udp false (only4 udp (ipv4 198 51 100 2)) ≡ true
unfolding admits address4 only4 ipv4 udp
udp-admits = refl

tcp_admits_not : admits (address4 (ipv4 198 51 100 2)) tcp false (only4 udp (ipv4 198 51 100 2)) ≡ false
unfolding admits address4 only4 ipv4 udp tcp
tcp_admits_not = refl

icmp_admits : admits (address4 (ipv4 198 51 100 2)) 1 true (only4 udp (ipv4 198 51 100 2)) ≡ true
unfolding admits address4 only4 ipv4 udp
icmp_admits = refl

other_admitted_not : admits (address4 (ipv4 198 51 100 3)) udp false (only4 udp (ipv4 198 51 100 2)) ≡ false
unfolding admits address4 only4 ipv4 udp
other_admitted_not = refl

-- ---- the verdict

-- UDP from 192.0.2.3 to 198.51.100.2
there : Flow
there =
    record { source = address4 (ipv4 192 0 2 3); destination = address4 (ipv4 198 51 100 2); protocol = udp; icmp = false }

side : Side
side = record { addresses = entry4 (ipv4 192 0 2 3) 32 ∷ []; routes = only4 udp (ipv4 198 51 100 2) ∷ [] }

nothing : Side
nothing = record { addresses = []; routes = [] }

there-passes : passes side nothing there ≡ true
unfolding passes covers admits side nothing there address4 entry4 only4 ipv4 udp
there-passes = refl

-- back it is a reply under the other side, and nothing under this one
back_passes : passes nothing side (reversed there) ≡ true
unfolding passes covers admits side nothing there address4 entry4 only4 ipv4 udp
back_passes = refl

back_passes_not : passes side nothing (reversed there) ≡ false
unfolding passes covers admits side nothing there address4 entry4 only4 ipv4 udp
back_passes_not = refl
