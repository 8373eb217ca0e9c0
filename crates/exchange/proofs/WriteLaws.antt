-- Laws of writing a capsule against the state: the list written becomes the given one and nothing else changes, a sound state stays sound, and the
-- other end reads the same list. Assumes nothing.
use Rattle.std.proofs.Common.{Result, Ok, Err, ℕ}
use Prim.Native.Nat.{ℕ, ◌≤◌}
use mathlib.Core.Bool.{true, false, not}
use mathlib.Core.Path.{◌≡◌, refl, sym, ap, ◌∙◌}
use mathlib.Core.List.{List, ◌++◌}
use native.Mathlib.Omega.{arith}
use lib.ListN.{length, take, drop}
use lib.Seq.{take_at}
use Rattle.answer.specs.declared.Refusal.{Refusal}
use Rattle.answer.specs.declared.Refusal.TheVariants.{BrokenState}
use Rattle.answer.specs.Verdict.{kept}
use Rattle.answer.proofs.Tables.{done-go, done-count, go-rest}
use Rattle.octets.specs.Big.{Bytes}
use Rattle.lists.specs.Words.{address_words, route_words, entries_of, ranges_of, pack_entries, pack_ranges}
use Rattle.lists.proofs.Packing.{length_pack_entries, length_pack_ranges}
use Rattle.capsule.specs.declared.CapsuleRead.{CapsuleRead}
use Rattle.capsule.specs.Elements.{parsed_verdict}
use Rattle.capsule.specs.Capsules.{Capsule, kind_of, assign, advertise, unknown, capsule, read_capsule, capsule_bytes, entries_in, ranges_in}
use Rattle.capsule.specs.Sound.{value_start, Sound, sound-assign, sound-advertise, in_words}
use Rattle.capsule.proofs.ReadLaws.{entries-ruled, ranges-ruled, entries_in_words, ranges_in_words, addresses-sound, routes-sound}
use Rattle.capsule.proofs.RoundTrip.{read-written}
use Rattle.capsule_write.specs.Verdicts.{Words, entries_verdict, ranges_verdict}
use Rattle.capsule_write.proofs.Accepted.{room_go, entries-go, ranges-go}
use Rattle.capsule_write.proofs.ReadBack.{assign-sound, advertise-sound, entries-words, ranges-words}
use Rattle.state.specs.State.{state_words, state_in, sound_state, addresses_received, routes_received, addresses_given, routes_given}
use Rattle.state.proofs.StateLaws.{sound-addresses_given, sound-routes_given}
use Rattle.state.proofs.StoreLaws.{given_addresses_put, given_routes_put}
use Rattle.exchange.specs.Reading.{reading_in, ReadsCapsule}
use Rattle.exchange.specs.Writing.{with_state, ready, entries_taken, ranges_taken, Gives}
use Rattle.exchange.specs.Writing.{Assigns, Advertises, AssignsValue, AdvertisesValue}
use Rattle.exchange.proofs.ReadLaws.{reading-sound, assign_replaces, advertise_replaces}
use Rattle.exchange.specs.Taken.{parsed-all, taken-entries, taken-ranges}

-- ---- any list
-- an `Ok` of all is an `Ok` of the list
pub ready-go : (n : ℕ) (w : List ℕ) (v : Result Unit Refusal) → ready n w v ≡ Ok tt → v ≡ Ok tt
unfolding with_state
ready-go n w v e = go-rest (not (sound_state (state_in w))) BrokenState v (room_go n (with_state w v) e).1

module _ {v : Result Unit Refusal} {m new w before : List ℕ} {r : Result ℕ Refusal} {left after : List ℕ} (g : Gives v m new w before r left after) where
  -- a sound state stays sound where what is stored is
  keeps-sound : sound_state (state_in w) ≡ true → (v ≡ Ok tt → sound_state (state_in new) ≡ true) → sound_state (state_in left) ≡ true
  keeps-sound h f = ap (λ (x : List ℕ). sound_state (state_in x)) g.state ∙ of v refl
    where
      of : (u : Result Unit Refusal) → v ≡ u → sound_state (state_in (kept u new w)) ≡ true
      of (Ok _) e = f e
      of (Err q) e = h

  module _ (n : ℕ) (e : r ≡ Ok n) where
    went : v ≡ Ok tt
    went = done-go v (length m) n (sym g.writes.answer ∙ e)

    counted : length m ≡ n
    counted = done-count v (length m) n (sym g.writes.answer ∙ e)

    pub given-state : left ≡ new
    given-state = rw went at g.state

    pub written-bytes : take n after ≡ m
    written-bytes = ap (take n) (rw went at g.writes.output) ∙ take_at m (drop (length m) before) n counted

-- the other end, in a sound state x, reads the capsule that was written, whatever follows it
other-reads : (c : Capsule) {v : Result Unit Refusal} {new w before : List ℕ} {r : Result ℕ Refusal} {left after : List ℕ} (g : Gives v (capsule_bytes c) new w before r left after)
    (n : ℕ) → r ≡ Ok n → Sound c → in_words c ≡ true → (c ≡ unknown → ⊥) → (x rest : List ℕ) → sound_state (state_in x) ≡ true
    → reading_in x (take n after ++ rest) 0 ≡ capsule c (value_start c) n
other-reads c {after = after} g n e s i k x rest h =
    reading-sound x (take n after ++ rest) 0 h
    ∙ ap (λ (b : List ℕ). read_capsule (b ++ rest)) (written-bytes g n e)
    ∙ read-written c rest s i k
    ∙ ap (capsule c (value_start c)) (counted g n e)

-- ---- a list in words
module _ (w l before : List ℕ) {r : Result ℕ Refusal} {left after : List ℕ} (h : state_words ≤ length w) where
  module _ (q : length l ≡ address_words) (g : Assigns w l before r left after) where
    -- the given addresses are replaced whole, and nothing else
    pub assign_gives : (n : ℕ) → r ≡ Ok n → state_in left ≡ addresses_given (state_in w) (entries_of l)
    assign_gives n e = ap state_in (given-state g n e) ∙ given_addresses_put w l h q

    pub assign-keeps_sound : sound_state (state_in w) ≡ true → sound_state (state_in left) ≡ true
    assign-keeps_sound s =
        keeps-sound g s
        (λ e.
        ap sound_state (given_addresses_put w l h q)
        ∙ sound-addresses_given (state_in w) s (entries_of l) (entries-go false l (ready-go (length before) w (entries_verdict false l) e)).sound)

    -- the other end receives the list that this end gives
    pub assign-received : Words l → (n : ℕ) → r ≡ Ok n → (x rest lent : List ℕ) {a : Result CapsuleRead Refusal} {state list : List ℕ} → state_words ≤ length x
        → sound_state (state_in x) ≡ true → ReadsCapsule x (take n after ++ rest) 0 lent a state list
        → state_in state ≡ addresses_received (state_in x) (entries_of l)
    assign-received small n e x rest lent k s t =
        let go = ready-go (length before) w (entries_verdict false l) (went g n e) in
        assign_replaces t (value_start (assign (entries_of l))) n k (entries_of l)
        (other-reads (assign (entries_of l)) g n e (assign-sound l go) (entries-words l small) (λ y. omega (arith, ap kind_of y)) x rest s)

  module _ (q : length l ≡ route_words) (g : Advertises w l before r left after) where
    pub advertise_gives : (n : ℕ) → r ≡ Ok n → state_in left ≡ routes_given (state_in w) (ranges_of l)
    advertise_gives n e = ap state_in (given-state g n e) ∙ given_routes_put w l h q

    pub advertise-keeps_sound : sound_state (state_in w) ≡ true → sound_state (state_in left) ≡ true
    advertise-keeps_sound s =
        keeps-sound g s
        (λ e.
        ap sound_state (given_routes_put w l h q)
        ∙ sound-routes_given (state_in w) s (ranges_of l) (ranges-go l (ready-go (length before) w (ranges_verdict l) e)).sound)

    pub advertise-received : Words l → (n : ℕ) → r ≡ Ok n → (x rest lent : List ℕ) {a : Result CapsuleRead Refusal} {state list : List ℕ} → state_words ≤ length x
        → sound_state (state_in x) ≡ true → ReadsCapsule x (take n after ++ rest) 0 lent a state list
        → state_in state ≡ routes_received (state_in x) (ranges_of l)
    advertise-received small n e x rest lent k s t =
        let go = ready-go (length before) w (ranges_verdict l) (went g n e) in
        advertise_replaces t (value_start (advertise (ranges_of l))) n k (ranges_of l)
        (other-reads (advertise (ranges_of l)) g n e (advertise-sound l go) (ranges-words l small) (λ y. omega (arith, ap kind_of y)) x rest s)

-- ---- a list in bytes
module _ (w v before : List ℕ) {r : Result ℕ Refusal} {left after : List ℕ} (h : state_words ≤ length w) where
  module _ (g : AssignsValue w v before r left after) where
    pub assign_value_gives : (n : ℕ) → r ≡ Ok n → state_in left ≡ addresses_given (state_in w) (entries_taken v)
    assign_value_gives n e =
        let go = ready-go (length before) w (parsed_verdict (entries_in false v)) (went g n e) in
        ap state_in (given-state g n e)
        ∙ given_addresses_put w (pack_entries (entries_taken v)) h (length_pack_entries (entries_taken v))
        ∙ ap (addresses_given (state_in w)) (taken-entries false v go)

    pub assign_value_keeps_sound : sound_state (state_in w) ≡ true → sound_state (state_in left) ≡ true
    assign_value_keeps_sound s =
        keeps-sound g s
        (λ e.
        let go = ready-go (length before) w (parsed_verdict (entries_in false v)) e in
        ap sound_state
        (given_addresses_put w (pack_entries (entries_taken v)) h (length_pack_entries (entries_taken v)) ∙ ap (addresses_given (state_in w)) (taken-entries false v go))
        ∙ sound-addresses_given (state_in w) s (entries_taken v) (addresses-sound false (entries_taken v) (entries-ruled v false (entries_taken v) (parsed-all (entries_in false v) go))))

    pub assign_value_received : Bytes v → (n : ℕ) → r ≡ Ok n → (x rest lent : List ℕ) {a : Result CapsuleRead Refusal} {state list : List ℕ} → state_words ≤ length x
        → sound_state (state_in x) ≡ true → ReadsCapsule x (take n after ++ rest) 0 lent a state list
        → state_in state ≡ addresses_received (state_in x) (entries_taken v)
    assign_value_received b n e x rest lent k s t =
        let es = entries_taken v in
        let p = parsed-all (entries_in false v) (ready-go (length before) w (parsed_verdict (entries_in false v)) (went g n e)) in
        assign_replaces t (value_start (assign es)) n k es
        (other-reads (assign es) g n e (sound-assign (entries-ruled v false es p)) (entries_in_words v false es p b) (λ y. omega (arith, ap kind_of y)) x rest s)

  module _ (g : AdvertisesValue w v before r left after) where
    pub advertise_value_gives : (n : ℕ) → r ≡ Ok n → state_in left ≡ routes_given (state_in w) (ranges_taken v)
    advertise_value_gives n e =
        let go = ready-go (length before) w (parsed_verdict (ranges_in v)) (went g n e) in
        ap state_in (given-state g n e)
        ∙ given_routes_put w (pack_ranges (ranges_taken v)) h (length_pack_ranges (ranges_taken v))
        ∙ ap (routes_given (state_in w)) (taken-ranges v go)

    pub advertise_value_keeps_sound : sound_state (state_in w) ≡ true → sound_state (state_in left) ≡ true
    advertise_value_keeps_sound s =
        keeps-sound g s
        (λ e.
        let go = ready-go (length before) w (parsed_verdict (ranges_in v)) e in
        ap sound_state
        (given_routes_put w (pack_ranges (ranges_taken v)) h (length_pack_ranges (ranges_taken v)) ∙ ap (routes_given (state_in w)) (taken-ranges v go))
        ∙ sound-routes_given (state_in w) s (ranges_taken v) (routes-sound (ranges_taken v) (ranges-ruled v (ranges_taken v) (parsed-all (ranges_in v) go))))

    pub advertise_value_received : Bytes v → (n : ℕ) → r ≡ Ok n → (x rest lent : List ℕ) {a : Result CapsuleRead Refusal} {state list : List ℕ} → state_words ≤ length x
        → sound_state (state_in x) ≡ true → ReadsCapsule x (take n after ++ rest) 0 lent a state list
        → state_in state ≡ routes_received (state_in x) (ranges_taken v)
    advertise_value_received b n e x rest lent k s t =
        let rs = ranges_taken v in
        let p = parsed-all (ranges_in v) (ready-go (length before) w (parsed_verdict (ranges_in v)) (went g n e)) in
        advertise_replaces t (value_start (advertise rs)) n k rs
        (other-reads (advertise rs) g n e (sound-advertise (ranges-ruled v rs p)) (ranges_in_words v rs p b) (λ y. omega (arith, ap kind_of y)) x rest s)
