-- The state of a new tunnel, computed.
use Rattle.std.specs.Prelude.{true, ◌≡◌, refl, [], replicate}
use Rattle.lists.specs.Words.{entries_of, ranges_of, sound_addresses, sound_routes}
use Rattle.policy.specs.Granted.{Side, sound_side}
use Rattle.table.specs.Rules.{plan_fault, sound_templates}
use Rattle.table.specs.Words.{templates_of}
use Rattle.state.specs.State.{State, sound_state, state_words, state_in}

nothing : Side
nothing = record { addresses = []; routes = [] }

fresh : State
fresh = record { received = nothing; given = nothing; templates = [] }

-- words that are all 0
zeros-read : state_in (replicate state_words 0) ≡ fresh
unfolding entries_of ranges_of templates_of fresh nothing
zeros-read = refl

fresh-sound : sound_state fresh ≡ true
unfolding sound_state sound_side sound_addresses sound_routes sound_templates plan_fault fresh nothing
fresh-sound = refl
