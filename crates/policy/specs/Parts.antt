-- A flow by the front of a packet, and the verdict of one side from numbers.
use Rattle.std.specs.Prelude.{ℕ, Bool, ◌&&◌, List}
use Rattle.octets.specs.Scan.{any_of}
use Rattle.inet.specs.declared.Address.{Address}
use Rattle.inet.specs.Packet.{version_of, source_of, destination_of, icmp_in}
use Rattle.policy.specs.declared.Flow.{Flow}
use Rattle.policy.specs.Granted.{Side, covers, admits}

-- what a packet that carries a protocol says, by its front
unfoldable pub flow_with : ℕ → List ℕ → Flow
flow_with protocol p =
    record { source = source_of p; destination = destination_of p; protocol = protocol; icmp = icmp_in (version_of p) protocol }

-- an address of its version and two words
abbrev pub address : ℕ → ℕ → ℕ → Address
address v h l = record { version = v; hi = h; lo = l }

-- `granted`, of a protocol and whether the packet is ICMP
abbrev pub granted_by : Side → Address → Address → ℕ → Bool → Bool
granted_by s near far protocol icmp = any_of (covers near) s.addresses && any_of (admits far protocol icmp) s.routes
