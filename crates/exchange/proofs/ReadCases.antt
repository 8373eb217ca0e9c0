-- The ways out of reading a capsule: a broken state, a frame that is refused, and the value of a frame that was found, by its kind.
-- Assumes nothing.
use Rattle.std.proofs.Common.{Result, Ok, Err}
use Prim.Native.Nat.{ℕ, ◌≤◌}
use mathlib.Core.Bool.{true, false}
use mathlib.Core.Path.{◌≡◌, refl, sym, ap, ◌∙◌}
use mathlib.Core.List.{List}
use mathlib.Core.Logic.{◌⊎◌, ⊎_elim}
use native.Mathlib.Omega.{arith}
use lib.ListN.{length}
use Rattle.answer.specs.declared.Refusal.{Refusal}
use Rattle.answer.specs.declared.Refusal.TheVariants.{BrokenState}
use Rattle.answer.specs.Verdict.{kept}
use Rattle.lists.specs.declared.AddressEntry.{AddressEntry}
use Rattle.lists.specs.declared.RouteRange.{RouteRange}
use Rattle.lists.specs.Words.{pack_entries, pack_ranges}
use Rattle.capsule.specs.declared.CapsuleRead.{CapsuleRead}
use Rattle.capsule.specs.declared.Kind.{Kind}
use Rattle.capsule.specs.declared.Kind.TheVariants.{Datagram, AddressAssign, AddressRequest, RouteAdvertisement, Other}
use Rattle.capsule.specs.Elements.{Parsed, fault, all, parsed_verdict, elements_of}
use Rattle.capsule.specs.Capsules.{max_value, kind_number, assign, request, advertise, listed, entries_in, ranges_in, read_value}
use Rattle.capsule.specs.Results.{judged_found, read_at, frame_in, value_verdict}
use Rattle.capsule.proofs.ValueCases as Value
use Rattle.state.specs.State.{state_in, sound_state}
use Rattle.exchange.specs.Reading.{receive_addresses, receive_routes, received, requested, reading_in, received_value, requested_value}
use Rattle.exchange.specs.Reading.{ReadsCapsule, TakesCapsule, TakesList, TakesAssign, TakesRoutes, TakesRequest, TakesValue}

-- ---- the list of a value
module _ {u : Result Unit Refusal} {new before : List ℕ} where
  pub list-taken : {after : List ℕ} → u ≡ Ok tt → after ≡ new → TakesList u new before (Ok tt) after
  list-taken g e = record { answer = sym g; stored = e ∙ ap (λ (v : Result Unit Refusal). kept v new before) (sym g) }

  pub list-refused : {why : Refusal} → u ≡ Err why → TakesList u new before (Err why) before
  list-refused g = record { answer = sym g; stored = ap (λ (v : Result Unit Refusal). kept v new before) (sym g) }

-- ---- a value by its kind
module _ (w v l : List ℕ) (kind : Kind) where
  assign-kind : kind ≡ AddressAssign → (parsed_verdict (entries_in false v) ≡ value_verdict kind v)
      × (kept (parsed_verdict (entries_in false v)) (receive_addresses w (pack_entries (elements_of (entries_in false v)))) w ≡ received_value kind v w)
      × (l ≡ requested_value kind v l)
  unfolding value_verdict received_value requested_value
  assign-kind k = rw k (refl, refl, refl)

  request-kind : kind ≡ AddressRequest → (parsed_verdict (entries_in true v) ≡ value_verdict kind v) × (w ≡ received_value kind v w)
      × (kept (parsed_verdict (entries_in true v)) (pack_entries (elements_of (entries_in true v))) l ≡ requested_value kind v l)
  unfolding value_verdict received_value requested_value
  request-kind k = rw k (refl, refl, refl)

  routes-kind : kind ≡ RouteAdvertisement → (parsed_verdict (ranges_in v) ≡ value_verdict kind v)
      × (kept (parsed_verdict (ranges_in v)) (receive_routes w (pack_ranges (elements_of (ranges_in v)))) w ≡ received_value kind v w)
      × (l ≡ requested_value kind v l)
  unfolding value_verdict received_value requested_value
  routes-kind k = rw k (refl, refl, refl)

  other-kind : (kind ≡ Datagram) ⊎ (kind ≡ Other) → ((Ok tt) ≡ value_verdict kind v) × (w ≡ received_value kind v w) × (l ≡ requested_value kind v l)
  unfolding value_verdict received_value requested_value
  other-kind k = ⊎_elim (λ q. rw q (refl, refl, refl)) (λ q. rw q (refl, refl, refl)) k

module _ (w : List ℕ) (kind : Kind) (v l : List ℕ) where
  pub takes_assign : {r : Result Unit Refusal} {after : List ℕ} → kind ≡ AddressAssign → TakesAssign w v r after → TakesValue w kind v l r after l
  takes_assign k t =
      let e = assign-kind w v l kind k in
      record { answer = t.answer ∙ e.0; state = t.stored ∙ e.1; requested = e.2 }

  pub takes_request : {r : Result Unit Refusal} {list : List ℕ} → kind ≡ AddressRequest → TakesRequest l v r list → TakesValue w kind v l r w list
  takes_request k t =
      let e = request-kind w v l kind k in
      record { answer = t.answer ∙ e.0; state = e.1; requested = t.stored ∙ e.2 }

  pub takes_routes : {r : Result Unit Refusal} {after : List ℕ} → kind ≡ RouteAdvertisement → TakesRoutes w v r after → TakesValue w kind v l r after l
  takes_routes k t =
      let e = routes-kind w v l kind k in
      record { answer = t.answer ∙ e.0; state = t.stored ∙ e.1; requested = e.2 }

  pub takes_nothing : (kind ≡ Datagram) ⊎ (kind ≡ Other) → TakesValue w kind v l (Ok tt) w l
  takes_nothing k =
      let e = other-kind w v l kind k in
      record { answer = e.0; state = e.1; requested = e.2 }

-- what a list leaves, as a reading says it
module _ (w l : List ℕ) (a z : ℕ) where
  left-assign : (p : Parsed AddressEntry) → received w (listed assign a z p) ≡ kept (parsed_verdict p) (receive_addresses w (pack_entries (elements_of p))) w
  left-assign (fault r) = refl
  left-assign (all es) = refl

  left-routes : (p : Parsed RouteRange) → received w (listed advertise a z p) ≡ kept (parsed_verdict p) (receive_routes w (pack_ranges (elements_of p))) w
  left-routes (fault r) = refl
  left-routes (all rs) = refl

  left-request : (p : Parsed AddressEntry) → received w (listed request a z p) ≡ w
  left-request (fault r) = refl
  left-request (all es) = refl

  asked-assign : (p : Parsed AddressEntry) → requested l (listed assign a z p) ≡ l
  asked-assign (fault r) = refl
  asked-assign (all es) = refl

  asked-routes : (p : Parsed RouteRange) → requested l (listed advertise a z p) ≡ l
  asked-routes (fault r) = refl
  asked-routes (all rs) = refl

  asked-request : (p : Parsed AddressEntry) → requested l (listed request a z p) ≡ kept (parsed_verdict p) (pack_entries (elements_of p)) l
  asked-request (fault r) = refl
  asked-request (all es) = refl

module _ (w v l : List ℕ) (start : ℕ) where
  value-left : (kind : Kind) → (kind_number kind ≤ 3 → length v ≤ max_value)
      → (received w (read_value (kind_number kind) v start) ≡ received_value kind v w) × (requested l (read_value (kind_number kind) v start) ≡ requested_value kind v l)
  unfolding read_value received_value requested_value
  value-left Datagram s = (refl, refl)
  value-left AddressAssign s =
      rw (Value.entries-short false v (s (omega arith))) (left-assign w l _ _ (entries_in false v), asked-assign w l _ _ (entries_in false v))
  value-left AddressRequest s =
      rw (Value.entries-short true v (s (omega arith))) (left-request w l _ _ (entries_in true v), asked-request w l _ _ (entries_in true v))
  value-left RouteAdvertisement s =
      rw (Value.ranges-short v (s (omega arith))) (left-routes w l _ _ (ranges_in v), asked-routes w l _ _ (ranges_in v))
  value-left Other s = (refl, refl)

-- no list is found
abbrev pub Plain : Result CapsuleRead Refusal → Type 0
Plain (Ok f) = (f.kind ≡ Datagram) ⊎ (f.kind ≡ Other)
Plain (Err why) = Unit

-- ---- the capsule
module _ (w s : List ℕ) (at : ℕ) (l : List ℕ) where
  -- a frame that is refused
  pub read-refused : {why : Refusal} → frame_in s at ≡ Err why → TakesCapsule w s at l (Err why) w l
  unfolding read_at
  read-refused {why} e =
      let q = Value.refused-reading s at why e in
      record { answer = Value.frame_refused s at why e; state = sym (ap (received w) q); requested = sym (ap (requested l) q) }

  -- the value of a frame that was found
  pub read_taken : {f : CapsuleRead} {v : Result Unit Refusal} {r : Result CapsuleRead Refusal} {after list : List ℕ} → (k : Value.Found s at f)
      → TakesValue w f.kind (Value.value_in s f) l v after list → r ≡ judged_found v f → TakesCapsule w s at l r after list
  unfolding read_at
  read_taken {f} {v} {r} {after} {list} k t e =
      let q = Value.reading k in
      let b = value-left w (Value.value_in s f) l k.behind f.kind (Value.value-short k) in
      record {
        answer = e ∙ ap (λ (x : Result Unit Refusal). judged_found x f) t.answer ∙ sym (Value.judged-value k);
        state = t.state ∙ sym (ap (received w) q ∙ b.0);
        requested = t.requested ∙ sym (ap (requested l) q ∙ b.1);
      }

  -- a frame that was found and has no list
  read_no_list : {f : CapsuleRead} → Ok f ≡ frame_in s at → (f.kind ≡ Datagram) ⊎ (f.kind ≡ Other) → TakesCapsule w s at l (Ok f) w l
  read_no_list {f} e n = read_taken (Value.found s at f e) (takes_nothing w f.kind (Value.value_in s f) l n) refl

  -- a frame that is refused or has no list
  pub read_plain : (r : Result CapsuleRead Refusal) → r ≡ frame_in s at → Plain r → TakesCapsule w s at l r w l
  read_plain (Ok f) e n = read_no_list e n
  read_plain (Err why) e n = read-refused (sym e)

  -- the state is judged first
  pub read-broken : sound_state (state_in w) ≡ false → ReadsCapsule w s at l (Err BrokenState) w l
  unfolding reading_in
  read-broken f = record { answer = rw f; state = rw f; requested = rw f }

  pub read_sound-state : {r : Result CapsuleRead Refusal} {after list : List ℕ} → sound_state (state_in w) ≡ true → TakesCapsule w s at l r after list
      → ReadsCapsule w s at l r after list
  unfolding reading_in
  read_sound-state h t = record { answer = rw h t.answer; state = rw h t.state; requested = rw h t.requested }
