-- A capsule read against the state of a new tunnel, computed.
use Rattle.std.specs.Prelude.{ℕ, ◌+◌, ◌*◌, ◌≡◌, refl, List, [], ◌∷◌, replicate, set}
use Rattle.answer.specs.declared.Refusal.TheVariants.{BrokenState}
use Rattle.varint.specs.Numbers.{read_number}
use Rattle.lists.specs.declared.AddressEntry.{AddressEntry}
use Rattle.lists.specs.Rules.{sound_entry}
use Rattle.lists.specs.Words.{max_addresses, entry_at, entries_of, ranges_of, sound_addresses, sound_routes, pack_entries}
use Rattle.capsule.specs.Elements.{parse, elements_in}
use Rattle.capsule.specs.Entries.{read_body, read_entry, entry_follows}
use Rattle.capsule.specs.Capsules.{assign, refused, capsule, frame_of, read_value, read_capsule}
use Rattle.policy.specs.Granted.{sound_side}
use Rattle.table.specs.Rules.{plan_fault, sound_templates}
use Rattle.table.specs.Words.{templates_of}
use Rattle.state.specs.State.{state_words, state_in, sound_state, addresses_received}
use Rattle.exchange.specs.Reading.{received, reading_in}

fresh : List ℕ
fresh = replicate state_words 0

-- 192.0.2.3/32, ID 0
network : AddressEntry
network = record { request_id = record { 0 = 0 }; version = 4; prefix = 32; hi = 0; lo = ((192 * 256 + 0) * 256 + 2) * 256 + 3 }

assigned : List ℕ
assigned = 0x01 ∷ 0x07 ∷ 0x00 ∷ 0x04 ∷ 0xc0 ∷ 0x00 ∷ 0x02 ∷ 0x03 ∷ 0x20 ∷ []

read-assigned : reading_in fresh assigned 0 ≡ capsule (assign (network ∷ [])) 2 9
unfolding reading_in sound_state sound_side sound_addresses sound_routes sound_templates plan_fault entries_of ranges_of templates_of read_capsule frame_of read_number read_value elements_in parse read_entry read_body sound_entry entry_follows fresh network assigned
read-assigned = refl

-- the address is received, and nothing else is changed
state-assigned : state_in (received fresh (capsule (assign (network ∷ [])) 2 9)) ≡ addresses_received (state_in fresh) (network ∷ [])
unfolding entries_of ranges_of templates_of entry_at pack_entries fresh network
state-assigned = refl

-- a count over the limit breaks the state
broken-state : reading_in (set fresh 0 (max_addresses + 1)) assigned 0 ≡ refused BrokenState
unfolding reading_in sound_state sound_side sound_addresses entries_of entry_at fresh
broken-state = refl
