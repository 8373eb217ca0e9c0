-- The state of one tunnel: what it means, its rules, and its words.
use Rattle.std.specs.Prelude.{ℕ, ◌+◌, ◌*◌, Bool, ◌&&◌, ◌≡◌, List}
use Rattle.octets.specs.Parts.{part}
use Rattle.lists.specs.declared.AddressEntry.{AddressEntry}
use Rattle.lists.specs.declared.RouteRange.{RouteRange}
use Rattle.policy.specs.Granted.{Side, side_words, side_in, sound_side, flow_of, passes}
use Rattle.table.specs.Templates.{Template}
use Rattle.table.specs.Rules.{sound_templates}
use Rattle.table.specs.Words.{table_words, templates_of}

-- what the other end granted, what was granted to it, and the templates
pub record State : Type 0 where
  pub received : Side
  pub given : Side
  pub templates : List Template

unfoldable pub sound_state : State → Bool
sound_state s = sound_side s.received && (sound_side s.given && sound_templates s.templates)

-- ---- what a state grants

-- sending is granted by what was received, or as a reply by what was given
unfoldable pub sending_granted : State → List ℕ → Bool
sending_granted s p = passes s.received s.given (flow_of p)

-- receiving swaps received and given
unfoldable pub receiving_granted : State → List ℕ → Bool
receiving_granted s p = passes s.given s.received (flow_of p)

-- two ends: what each received is what the other one gave
pub record Mirrors (s t : State) : Type 0 where
  pub received : s.received ≡ t.given
  pub given : s.given ≡ t.received

-- ---- exactly one part replaced

abbrev pub with_received : State → Side → State
with_received s side = record { received = side; given = s.given; templates = s.templates }

abbrev pub with_given : State → Side → State
with_given s side = record { received = s.received; given = side; templates = s.templates }

abbrev pub addresses_received : State → List AddressEntry → State
addresses_received s es = with_received s (record { addresses = es; routes = s.received.routes })

abbrev pub routes_received : State → List RouteRange → State
routes_received s rs = with_received s (record { addresses = s.received.addresses; routes = rs })

abbrev pub addresses_given : State → List AddressEntry → State
addresses_given s es = with_given s (record { addresses = es; routes = s.given.routes })

abbrev pub routes_given : State → List RouteRange → State
routes_given s rs = with_given s (record { addresses = s.given.addresses; routes = rs })

abbrev pub templates_loaded : State → List Template → State
templates_loaded s ts = record { received = s.received; given = s.given; templates = ts }

-- ---- a state in words: where each part starts, and what the words mean

abbrev pub received_at : ℕ
received_at = 0

abbrev pub given_at : ℕ
given_at = side_words

abbrev pub table_at : ℕ
table_at = 2 * side_words

abbrev pub store_at : ℕ
store_at = 2 * side_words + table_words

-- bytes kept, bytes to skip, the refusal remembered
abbrev pub store_words : ℕ
store_words = 3

abbrev pub state_words : ℕ
state_words = store_at + store_words

abbrev pub state_in : List ℕ → State
state_in w =
    record {
      received = side_in (part w received_at side_words);
      given = side_in (part w given_at side_words);
      templates = templates_of (part w table_at table_words);
    }
