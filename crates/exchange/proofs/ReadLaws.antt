-- Laws of reading a capsule against the state: a good list replaces the received one whole and nothing else, all else leaves the state as it was,
-- and a sound state stays sound, since what is read is sound. Assumes nothing.
use Rattle.std.proofs.Common.{Result, Err}
use Prim.Native.Nat.{ℕ, ◌≤◌}
use mathlib.Core.Bool.{Bool, true, false}
use mathlib.Core.Path.{◌≡◌, refl, sym, ap, ◌∙◌}
use mathlib.Core.List.{List}
use native.Mathlib.Omega.{arith}
use lib.ListN.{length, drop}
use Rattle.answer.specs.declared.Refusal.{Refusal}
use Rattle.answer.specs.declared.Refusal.TheVariants.{BrokenState}
use Rattle.answer.specs.Choice.{pick}
use Rattle.lists.specs.declared.AddressEntry.{AddressEntry}
use Rattle.lists.specs.declared.RouteRange.{RouteRange}
use Rattle.lists.specs.Words.{entries_of, pack_entries, pack_ranges}
use Rattle.lists.proofs.Packing.{length_pack_entries, length_pack_ranges}
use Rattle.capsule.specs.declared.CapsuleRead.{CapsuleRead}
use Rattle.capsule.specs.Capsules.{Capsule, datagram, assign, request, advertise, unknown, Reading, refused, capsule, read_capsule}
use Rattle.capsule.specs.Results.{next_after, result_at, read_at}
use Rattle.capsule.specs.Sound.{Sound, sound-datagram, sound-assign, sound-request, sound-advertise, sound-unknown}
use Rattle.capsule.proofs.ReadLaws.{read-sound, addresses-sound, routes-sound, entries_packed, ranges_packed}
use Rattle.state.specs.State.{state_words, state_in, sound_state, addresses_received, routes_received}
use Rattle.state.proofs.StateLaws.{sound-addresses_received, sound-routes_received}
use Rattle.state.proofs.StoreLaws.{received_addresses_put, received_routes_put}
use Rattle.exchange.specs.Reading.{receive_addresses, receive_routes, taken, received, requested, reading_in, ReadsCapsule}

-- ---- the reading
module _ (w s : List ℕ) (at : ℕ) where
  pub reading-broken : sound_state (state_in w) ≡ false → reading_in w s at ≡ refused BrokenState
  unfolding reading_in
  reading-broken f = rw f

  pub reading-sound : sound_state (state_in w) ≡ true → reading_in w s at ≡ read_capsule (drop at s)
  unfolding reading_in
  reading-sound h = rw h

  -- a capsule says that the state is sound
  pub reading-capsule : (c : Capsule) (start size : ℕ) → reading_in w s at ≡ capsule c start size
      → (sound_state (state_in w) ≡ true) × (read_capsule (drop at s) ≡ capsule c start size)
  unfolding reading_in
  reading-capsule c start size e = of (sound_state (state_in w)) e
    where
      of : (b : Bool) → pick b (read_capsule (drop at s)) (refused BrokenState) ≡ capsule c start size
          → (b ≡ true) × (read_capsule (drop at s) ≡ capsule c start size)
      of true q = (refl, q)
      of false q = let z : ◌≡◌ {A = ℕ} 0 1 = cc in absurd (omega arith)

pub refused-only : (at : ℕ) (q : Reading) (why : Refusal) → result_at at q ≡ Err why → q ≡ refused why
refused-only at (refused r) why e = let z : r ≡ why = cc in ap refused z
refused-only at (capsule c start size) why e = let z : ◌≡◌ {A = ℕ} 0 1 = cc in absurd (omega arith)

-- ---- what is in force afterwards
module _ (w : List ℕ) (h : state_words ≤ length w) where
  pub entries-received : (es : List AddressEntry) → Sound (assign es) → state_in (receive_addresses w (pack_entries es)) ≡ addresses_received (state_in w) es
  entries-received es (sound-assign r) =
      received_addresses_put w (pack_entries es) h (length_pack_entries es) ∙ ap (addresses_received (state_in w)) (entries_packed false es r)

  pub ranges-received : (rs : List RouteRange) → Sound (advertise rs) → state_in (receive_routes w (pack_ranges rs)) ≡ routes_received (state_in w) rs
  ranges-received rs (sound-advertise r) =
      received_routes_put w (pack_ranges rs) h (length_pack_ranges rs) ∙ ap (routes_received (state_in w)) (ranges_packed rs r)

  -- a capsule that keeps the rules leaves a sound state
  pub taken-sound : sound_state (state_in w) ≡ true → (c : Capsule) → Sound c → sound_state (state_in (taken w c)) ≡ true
  taken-sound g c (sound-datagram l) = g
  taken-sound g c (sound-assign {es} r) =
      ap sound_state (entries-received es (sound-assign r)) ∙ sound-addresses_received (state_in w) g es (addresses-sound false es r)
  taken-sound g c (sound-request {es} r) = g
  taken-sound g c (sound-advertise {rs} r) =
      ap sound_state (ranges-received rs (sound-advertise r)) ∙ sound-routes_received (state_in w) g rs (routes-sound rs r)
  taken-sound g c sound-unknown = g

module _ {w s : List ℕ} {at : ℕ} {l : List ℕ} {r : Result CapsuleRead Refusal} {after list : List ℕ} (t : ReadsCapsule w s at l r after list) where
  -- a broken state is refused, and else the answer is that of the capsule
  pub read-broken-state : sound_state (state_in w) ≡ false → r ≡ Err BrokenState
  read-broken-state f = t.answer ∙ ap (result_at at) (reading-broken w s at f)

  pub read-capsule : sound_state (state_in w) ≡ true → r ≡ read_at s at
  unfolding read_at
  read-capsule g = t.answer ∙ ap (result_at at) (reading-sound w s at g)

  -- a refusal leaves all
  pub read_refusal_leaves : (why : Refusal) → r ≡ Err why → (after ≡ w) × (list ≡ l) × (next_after at r ≡ at)
  read_refusal_leaves why e =
      let q = refused-only at (reading_in w s at) why (sym t.answer ∙ e) in (
        t.state ∙ ap (received w) q,
        t.requested ∙ ap (requested l) q,
        ap (next_after at) e,
      )

  module _ (start size : ℕ) where
    state-after : (c : Capsule) → reading_in w s at ≡ capsule c start size → after ≡ taken w c
    state-after c e = t.state ∙ ap (received w) e

    -- a DATAGRAM, and a capsule of another type, leave all
    pub datagram_leaves : (v : List ℕ) → reading_in w s at ≡ capsule (datagram v) start size → (after ≡ w) × (list ≡ l)
    datagram_leaves v e = (state-after (datagram v) e, t.requested ∙ ap (requested l) e)

    pub other_leaves : reading_in w s at ≡ capsule unknown start size → (after ≡ w) × (list ≡ l)
    other_leaves e = (state-after unknown e, t.requested ∙ ap (requested l) e)

    -- a request is handed back, and leaves the state
    pub request-handed : (es : List AddressEntry) → reading_in w s at ≡ capsule (request es) start size → (after ≡ w) × (entries_of list ≡ es)
    request-handed es e =
        let q = reading-capsule w s at (request es) start size e in (
          state-after (request es) e,
          ap entries_of (t.requested ∙ ap (requested l) e) ∙ handed (read-sound (drop at s) (request es) start size q.1),
        )
      where
        handed : Sound (request es) → entries_of (pack_entries es) ≡ es
        handed (sound-request k) = entries_packed true es k

    module _ (h : state_words ≤ length w) where
      -- an ADDRESS_ASSIGN replaces the received addresses whole, and nothing else
      pub assign_replaces : (es : List AddressEntry) → reading_in w s at ≡ capsule (assign es) start size
          → state_in after ≡ addresses_received (state_in w) es
      assign_replaces es e =
          let q = reading-capsule w s at (assign es) start size e in
          ap state_in (state-after (assign es) e) ∙ entries-received w h es (read-sound (drop at s) (assign es) start size q.1)

      -- a ROUTE_ADVERTISEMENT the received routes
      pub advertise_replaces : (rs : List RouteRange) → reading_in w s at ≡ capsule (advertise rs) start size
          → state_in after ≡ routes_received (state_in w) rs
      advertise_replaces rs e =
          let q = reading-capsule w s at (advertise rs) start size e in
          ap state_in (state-after (advertise rs) e) ∙ ranges-received w h rs (read-sound (drop at s) (advertise rs) start size q.1)

  -- a sound state stays sound
  pub read-keeps_sound : state_words ≤ length w → sound_state (state_in w) ≡ true → sound_state (state_in after) ≡ true
  read-keeps_sound h g = ap (λ (x : List ℕ). sound_state (state_in x)) t.state ∙ of (reading_in w s at) refl
    where
      of : (q : Reading) → reading_in w s at ≡ q → sound_state (state_in (received w q)) ≡ true
      of (refused why) e = g
      of (capsule c start size) e =
          taken-sound w h g c (read-sound (drop at s) c start size (reading-capsule w s at c start size e).1)
