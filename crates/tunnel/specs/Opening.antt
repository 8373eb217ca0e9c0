-- What a datagram stands for under the words of a state, and what taking in the packet asks for and promises.
use Rattle.std.specs.Prelude.{ℕ, ◌+◌, ◌≤◌, min, ◌≡◌, true, List, ◌++◌, length, Result}
use Rattle.answer.specs.declared.Refusal.{Refusal}
use Rattle.answer.specs.Verdict.{Writes}
use Rattle.state.specs.State.{sound_state, state_in}
use Rattle.inet.specs.Fronts.{max_header}
use Rattle.table.specs.Limits.{static_limit}
use Rattle.table.specs.Words.{template_of}
use Rattle.template.specs.Fits.{with_id}
use Rattle.template.specs.Datagrams.{Opened, packet, max_packet, rebuilt, open_short, opened}
use Rattle.template.specs.Usable.{Rebuildable}
use Rattle.tunnel.specs.Tunnel.{receive_room, opened_verdict, opened_bytes}

-- what a datagram stands for under the templates of the state w, and what the bytes v behind a Context ID do
abbrev pub opened_in : List ℕ → List ℕ → Opened
opened_in w d = opened (state_in w).templates d

abbrev pub short_in : List ℕ → ℕ → List ℕ → Opened
short_in w id v = open_short v (with_id id (state_in w).templates)

-- the packet that the bytes v and far stand for by the words of a template
abbrev pub opens : List ℕ → List ℕ → List ℕ → Opened
opens t v far = packet (rebuilt (template_of t) (v ++ far))

-- a sound state, and room for any packet
pub record Receivable (w out : List ℕ) : Type 0 where
  pub sound : sound_state (state_in w) ≡ true
  pub room : receive_room ≤ length out

-- a packet within the limit, whose front can be rebuilt
pub record Openable (t v far : List ℕ) : Type 0 where
  pub ready : Rebuildable t v far static_limit
  pub short : length (rebuilt (template_of t) (v ++ far)) ≤ max_packet

-- a sound state, and room for the packet
pub record Takable (w p out : List ℕ) : Type 0 where
  pub sound : sound_state (state_in w) ≡ true
  pub room : length p ≤ length out

-- the same of a packet in two parts, the front with all of its header
pub record Joinable (w front tail out : List ℕ) : Type 0 where
  pub sound : sound_state (state_in w) ≡ true
  pub room : length front + length tail ≤ length out
  pub header : min max_header (length front + length tail) ≤ length front

-- the packet is judged, and written where it passes; or what was opened is refused
pub record Takes (w : List ℕ) (o : Opened) (before : List ℕ) (r : Result ℕ Refusal) (after : List ℕ) : Type 0 where
  pub writes : Writes (opened_verdict (state_in w) o) (opened_bytes o) before r after
