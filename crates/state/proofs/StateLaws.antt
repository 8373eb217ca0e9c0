-- The rules of a state by its parts, what a replaced part does to them, and two ends that mirror each other. Assumes nothing.
use Prim.Native.Nat.{ℕ}
use mathlib.Core.Bool.{Bool, true, false, ◌&&◌, and_assoc}
use mathlib.Core.Path.{◌≡◌, sym, ◌∙◌}
use mathlib.Core.List.{List}
use Rattle.answer.proofs.Tests.{and_both}
use Rattle.inet.specs.Packet.{lowered}
use Rattle.lists.specs.declared.AddressEntry.{AddressEntry}
use Rattle.lists.specs.declared.RouteRange.{RouteRange}
use Rattle.lists.specs.Words.{sound_addresses, sound_routes}
use Rattle.policy.specs.Granted.{sound_side}
use Rattle.policy.proofs.PassLaws.{passes-lowered, side_facts, facts_side}
use Rattle.table.specs.Templates.{Template}
use Rattle.table.specs.Rules.{sound_templates}
use Rattle.state.specs.State.{State, sound_state, sending_granted, receiving_granted, Mirrors}
use Rattle.state.specs.State.{addresses_received, routes_received, addresses_given, routes_given, templates_loaded}

-- ---- the rules

-- what a sound state is
pub record StateSound (s : State) : Type 0 where
  pub received : sound_side s.received ≡ true
  pub given : sound_side s.given ≡ true
  pub templates : sound_templates s.templates ≡ true

module _ (s : State) where
  pub state_facts : sound_state s ≡ true → StateSound s
  unfolding sound_state
  state_facts e =
      let a = and_both (sound_side s.received) (sound_side s.given && sound_templates s.templates) e in
      let b = and_both (sound_side s.given) (sound_templates s.templates) a.1 in
      record { received = a.0; given = b.0; templates = b.1 }

  pub facts_state : StateSound s → sound_state s ≡ true
  unfolding sound_state
  facts_state f = rw (f.received, f.given) f.templates

  -- the cases of the judge
  pub by-templates : {v t : Bool} → v ≡ (sound_side s.received && sound_side s.given) → v ≡ true → t ≡ sound_templates s.templates
      → t ≡ sound_state s
  unfolding sound_state
  by-templates e f q =
      let both = and_both (sound_side s.received) (sound_side s.given) (sym e ∙ f) in
      rw (both.0, both.1) q

  pub broken-side : {v : Bool} → v ≡ (sound_side s.received && sound_side s.given) → v ≡ false → v ≡ sound_state s
  unfolding sound_state
  broken-side e f =
      f ∙ sym (sym (and_assoc (sound_side s.received) (sound_side s.given) (sound_templates s.templates)) ∙ rw (sym e ∙ f))

-- a sound part in the place of another keeps a state sound
module _ (s : State) (e : sound_state s ≡ true) where
  pub sound-addresses_received : (es : List AddressEntry) → sound_addresses es ≡ true → sound_state (addresses_received s es) ≡ true
  sound-addresses_received es h =
      let f = state_facts s e in
      facts_state (addresses_received s es)
      (record { received = facts_side _ h (side_facts _ f.received).1; given = f.given; templates = f.templates })

  pub sound-routes_received : (rs : List RouteRange) → sound_routes rs ≡ true → sound_state (routes_received s rs) ≡ true
  sound-routes_received rs h =
      let f = state_facts s e in
      facts_state (routes_received s rs)
      (record { received = facts_side _ (side_facts _ f.received).0 h; given = f.given; templates = f.templates })

  pub sound-addresses_given : (es : List AddressEntry) → sound_addresses es ≡ true → sound_state (addresses_given s es) ≡ true
  sound-addresses_given es h =
      let f = state_facts s e in
      facts_state (addresses_given s es)
      (record { received = f.received; given = facts_side _ h (side_facts _ f.given).1; templates = f.templates })

  pub sound-routes_given : (rs : List RouteRange) → sound_routes rs ≡ true → sound_state (routes_given s rs) ≡ true
  sound-routes_given rs h =
      let f = state_facts s e in
      facts_state (routes_given s rs)
      (record { received = f.received; given = facts_side _ (side_facts _ f.given).0 h; templates = f.templates })

  pub sound_templates_loaded : (ts : List Template) → sound_templates ts ≡ true → sound_state (templates_loaded s ts) ≡ true
  sound_templates_loaded ts h =
      let f = state_facts s e in
      facts_state (templates_loaded s ts) (record { received = f.received; given = f.given; templates = h })

-- ---- two ends

module _ (s t : State) (m : Mirrors s t) where
  pub mirrors_back : Mirrors t s
  mirrors_back = record { received = sym m.given; given = sym m.received }

  -- receiving at the one end is granted exactly where sending is at the other
  pub receiving_mirrors : (p : List ℕ) → receiving_granted t p ≡ sending_granted s p
  unfolding sending_granted receiving_granted
  receiving_mirrors p = rw (m.received, m.given)

  pub sending_mirrors : (p : List ℕ) → sending_granted t p ≡ receiving_granted s p
  unfolding sending_granted receiving_granted
  sending_mirrors p = rw (m.received, m.given)

-- the verdict depends on no more than lowering keeps
module _ (s : State) (p : List ℕ) where
  pub sending_lowered : sending_granted s (lowered p) ≡ sending_granted s p
  unfolding sending_granted
  sending_lowered = passes-lowered s.received s.given p

  pub receiving_lowered : receiving_granted s (lowered p) ≡ receiving_granted s p
  unfolding receiving_granted
  receiving_lowered = passes-lowered s.given s.received p
