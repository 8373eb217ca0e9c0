-- What the inner functions of sending ask for: w are the words of a table, and t those of a template.
use Rattle.std.specs.Prelude.{ℕ, ◌+◌, ◌≤◌, ◌≡◌, true, List, length, take}
use Rattle.varint.specs.Numbers.{room}
use Rattle.inet.specs.Packet.{Form, hops_of, lowered}
use Rattle.table.specs.Limits.{static_limit}
use Rattle.table.specs.Words.{template_of}
use Rattle.table.specs.Sound.{UsableTemplate, Usable}
use Rattle.template.specs.Fits.{fits}
use Rattle.template.specs.Datagrams.{max_packet}
use Rattle.template.specs.Usable.{seed_of}
use Rattle.tunnel.specs.Tunnel.{send_room}

-- a packet that can be lowered, and room for its datagram
pub record Sendable (w p out : List ℕ) : Type 0 where
  pub usable : Usable w
  pub good : Form p
  pub hops : 1 ≤ hops_of p
  pub short : length p ≤ max_packet
  pub space : send_room ≤ length out

-- a packet that a template fits as it goes on, the seed under its checksum, the packet's front, and room for its datagram
pub record Shortable (t : List ℕ) (first : ℕ) (front p out : List ℕ) : Type 0 where
  pub usable : UsableTemplate t
  pub seeding : first ≡ seed_of (template_of t).sum (lowered p)
  pub bytes : front ≡ take static_limit (lowered p)
  pub fit : fits (template_of t) (lowered p) ≡ true
  pub space : room + length p ≤ length out
