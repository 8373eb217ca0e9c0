-- Each capsule replaces one list at both ends by the same one, so after four of them the ends mirror; and then a packet that one end passes comes
-- out at the other. Assumes nothing.
use Prim.Native.Nat.{ℕ, ◌≤◌}
use mathlib.Core.Path.{◌≡◌, refl, sym, ◌∙◌}
use mathlib.Core.Bool.{true}
use mathlib.Core.List.{List}
use lib.ListN.{length, replicate}
use Rattle.lists.specs.Words.{entries_of, ranges_of, sound_addresses, sound_routes}
use Rattle.inet.specs.Packet.{lowered}
use Rattle.policy.specs.Granted.{sound_side}
use Rattle.table.specs.Rules.{plan_fault, sound_templates}
use Rattle.table.specs.Words.{templates_of}
use Rattle.state.specs.State.{State, sound_state, Mirrors, addresses_received, routes_received, addresses_given, routes_given, state_words, state_in}
use Rattle.exchange.proofs.ReadLaws.{read-keeps_sound}
use Rattle.exchange.proofs.WriteLaws.{assign_gives, assign-keeps_sound, assign-received, advertise_gives, advertise-keeps_sound, advertise-received}
use Rattle.tunnel.specs.Tunnel.{receive_room}
use Rattle.tunnel.specs.Answers.{Passes, datagram_of}
use Rattle.ends.specs.Ends.{AddressesCrossed, RoutesCrossed, Exchanged}
use Rattle.ends.specs.Outcomes.{TakesIn}
use Rattle.ends.proofs.Agreeing.{takes_in_sent, mirrored_zero}

-- what a crossing leaves at the giver and at the taker: they hold the list, as x and y, and both stay sound
record Left (giver' taker' x y : State) : Type 0 where
  giver : giver' ≡ x
  taker : taker' ≡ y
  giver-sound : sound_state giver' ≡ true
  taker-sound : sound_state taker' ≡ true

abbrev AddressesLeft : List ℕ → List ℕ → List ℕ → List ℕ → List ℕ → Type 0
AddressesLeft g t g' t' l = Left (state_in g') (state_in t') (addresses_given (state_in g) (entries_of l)) (addresses_received (state_in t) (entries_of l))

abbrev RoutesLeft : List ℕ → List ℕ → List ℕ → List ℕ → List ℕ → Type 0
RoutesLeft g t g' t' l = Left (state_in g') (state_in t') (routes_given (state_in g) (ranges_of l)) (routes_received (state_in t) (ranges_of l))

module _ {g t g' t' : List ℕ} (s : sound_state (state_in g) ≡ true) (u : sound_state (state_in t) ≡ true) where
  addresses-left : (c : AddressesCrossed g t g' t') → AddressesLeft g t g' t' c.list
  addresses-left c =
      record {
        giver = assign_gives g c.list c.before c.given c.sized c.writes c.count refl;
        taker = assign-received g c.list c.before c.given c.sized c.writes c.words c.count refl t c.rest c.asked c.taken u c.reads;
        giver-sound = assign-keeps_sound g c.list c.before c.given c.sized c.writes s;
        taker-sound = read-keeps_sound c.reads c.taken u;
      }

  routes-left : (c : RoutesCrossed g t g' t') → RoutesLeft g t g' t' c.list
  routes-left c =
      record {
        giver = advertise_gives g c.list c.before c.given c.sized c.writes c.count refl;
        taker = advertise-received g c.list c.before c.given c.sized c.writes c.words c.count refl t c.rest c.asked c.taken u c.reads;
        giver-sound = advertise-keeps_sound g c.list c.before c.given c.sized c.writes s;
        taker-sound = read-keeps_sound c.reads c.taken u;
      }

-- four lists replaced at each end: nothing is left of those before
settled : (n f n₁ n₂ n₃ n₄ f₁ f₂ f₃ f₄ : State) {a : _} {r : _} {b : _} {t : _}
    → f₁ ≡ addresses_given f a → n₁ ≡ addresses_received n a → f₂ ≡ routes_given f₁ r → n₂ ≡ routes_received n₁ r
    → n₃ ≡ addresses_given n₂ b → f₃ ≡ addresses_received f₂ b → n₄ ≡ routes_given n₃ t → f₄ ≡ routes_received f₃ t
    → Mirrors n₄ f₄ × (n₄.templates ≡ n.templates) × (f₄.templates ≡ f.templates)
settled n f n₁ n₂ n₃ n₄ f₁ f₂ f₃ f₄ p q u v w x y z = rw (z, y, x, w, v, u, q, p) (record { received = refl; given = refl }, refl, refl)

module _ {near far near' far' : List ℕ} (e : Exchanged near far near' far') (s : sound_state (state_in near) ≡ true) (u : sound_state (state_in far) ≡ true) where
  first : AddressesLeft far near e.far₁ e.near₁ e.addresses.list
  first = addresses-left u s e.addresses

  second : RoutesLeft e.far₁ e.near₁ e.far₂ e.near₂ e.routes.list
  second = routes-left first.giver-sound first.taker-sound e.routes

  third : AddressesLeft e.near₂ e.far₂ e.near₃ e.far₃ e.addresses-back.list
  third = addresses-left second.taker-sound second.giver-sound e.addresses-back

  fourth : RoutesLeft e.near₃ e.far₃ near' far' e.routes-back.list
  fourth = routes-left third.giver-sound third.taker-sound e.routes-back

  -- the ends mirror, whatever they held, and hold the templates that they held
  pub exchanged_mirror : Mirrors (state_in near') (state_in far') × ((state_in near').templates ≡ (state_in near).templates)
      × ((state_in far').templates ≡ (state_in far).templates)
  exchanged_mirror =
      settled (state_in near) (state_in far) (state_in e.near₁) (state_in e.near₂) (state_in e.near₃) (state_in near')
      (state_in e.far₁) (state_in e.far₂) (state_in e.far₃) (state_in far')
      first.giver first.taker second.giver second.taker third.giver third.taker fourth.giver fourth.taker

  -- the whole way: a packet that the near end passes comes out at the far end, with its hop count lowered
  pub whole_way : (state_in far).templates ≡ (state_in near).templates → (p out : List ℕ) → Passes (state_in near') p out → (into : List ℕ)
      → receive_room ≤ length into → TakesIn (state_in far') (datagram_of (state_in near') p out) into (lowered p)
  whole_way same p out passed into room =
      let m = exchanged_mirror in
      let t : (state_in far').templates ≡ (state_in near').templates = m.2 ∙ same ∙ sym m.1 in
      takes_in_sent (state_in near') p out passed (state_in far') t into (mirrored_zero (state_in near') p out passed (state_in far') t m.0 into room)

-- an end whose words are all 0
pub fresh-sound : sound_state (state_in (replicate state_words 0)) ≡ true
unfolding sound_state sound_side sound_addresses sound_routes sound_templates plan_fault entries_of ranges_of templates_of
fresh-sound = refl
