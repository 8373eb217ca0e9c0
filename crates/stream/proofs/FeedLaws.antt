-- One call over the lent memory, from a state and a store that keep their rules: what the host then finds is the model's next store, the lists
-- follow from what was handed out, and all rules are kept. Assumes nothing.
use Rattle.std.proofs.Common.{Result, Ok, Err}
use Prim.Native.Nat.{ℕ, zero, suc, ◌+◌, ◌-◌, ◌≤◌, ◌<◌}
use mathlib.Core.Bool.{Bool, true, false}
use mathlib.Core.Path.{◌≡◌, refl, sym, ap, ◌∙◌}
use mathlib.Core.List.{List, [], ◌∷◌, ◌++◌}
use native.Mathlib.Omega.{arith}
use lib.Dec.{ltb, eqb}
use lib.ListN.{length, get_or, take, drop}
use lib.Seq.{length-take-le, length_front, take-append_seam}
use Rattle.answer.specs.declared.Refusal.{Refusal}
use Rattle.answer.specs.Choice.{pick}
use Rattle.answer.specs.Number.{number_of}
use Rattle.answer.specs.Verdict.{output_of, kept}
use Rattle.octets.specs.Big.{Bytes}
use Rattle.octets.proofs.BigLaws.{bytes_take, bytes_drop, bytes_append}
use Rattle.octets.proofs.Parts.{length_with_part}
use Rattle.lists.specs.Words.{address_words, route_words, pack_entries, pack_ranges}
use Rattle.lists.proofs.Packing.{length_pack_entries, length_pack_ranges}
use Rattle.capsule.specs.Capsules.{Capsule, datagram, assign, request, advertise, unknown, kind_of, kind_numbered, Reading, refused, capsule, max_value, read_capsule}
use Rattle.capsule.specs.Sound.{Sound, sound-datagram, sound-assign, sound-request, sound-advertise, sound-unknown}
use Rattle.capsule.proofs.ReadLaws.{entries_packed}
use Rattle.state.specs.State.{State, received_at, store_at, state_words, state_in, sound_state}
use Rattle.exchange.specs.Reading.{taken, asked}
use Rattle.exchange.proofs.ReadLaws.{entries-received, ranges-received, taken-sound}
use Rattle.stream.specs.declared.feeding.Call.{Call}
use Rattle.stream.specs.declared.feeding.Piece.{Piece}
use Rattle.stream.specs.Store.{Store, empty, to_skip, keeping, Said, out, clean, wait, no, Fed, waiting, waits, remembers, on_reading, feed_open, feed_live, feed_store}
use Rattle.stream.specs.Feeding.{kept_size, store_in, feed_verdict, fed, datagram_bytes, on_out, state_fed, call_of, piece_with, piece_of, call_by, taken_by, Feeds}
use Rattle.stream.specs.Handing.{hand_verdict, HandsOn}
use Rattle.stream.specs.Buffer.{before, given}
use Rattle.stream.specs.Runs.{Ready, seen_as, seen, lists_after, lists_after_all}
use Rattle.stream.proofs.TestLaws.{verdict-go}
use Rattle.stream.proofs.StepLaws.{resume, Open, store_open, open_store, open_within, Stepped, step}
use Rattle.stream.proofs.StoreLaws.{length_stored, state-stored, store_stored}

-- ---- a capsule that keeps the rules, taken into the words of a state

pub length_taken : (w : List ℕ) (c : Capsule) → state_words ≤ length w → length (taken w c) ≡ length w
length_taken w (datagram v) h = refl
length_taken w (assign es) h = length_with_part w received_at address_words (pack_entries es) (length_pack_entries es) (omega arith)
length_taken w (request es) h = refl
length_taken w (advertise rs) h =
    length_with_part w (received_at + address_words) route_words (pack_ranges rs) (length_pack_ranges rs) (omega arith)
length_taken w unknown h = refl

module _ (w : List ℕ) (h : state_words ≤ length w) where
  pub taken-lists : (c : Capsule) → Sound c → state_in (taken w c) ≡ lists_after (state_in w) c
  taken-lists c (sound-datagram l) = refl
  taken-lists c (sound-assign {es} r) = entries-received w h es (sound-assign r)
  taken-lists c (sound-request {es} r) = refl
  taken-lists c (sound-advertise {rs} r) = ranges-received w h rs (sound-advertise r)
  taken-lists c sound-unknown = refl

-- the host finds it: a DATAGRAM by the bytes v
pub seen_as_lem : (c : Capsule) → Sound c → (v l : List ℕ) (s : State) → (kind_of c ≡ 0 → v ≡ datagram_bytes c)
    → seen_as (kind_numbered (kind_of c)) v (asked l c) (lists_after s c) ≡ c
seen_as_lem c (sound-datagram n) v l s h = ap datagram (h refl)
seen_as_lem c (sound-assign {es} r) v l s h = refl
seen_as_lem c (sound-request {es} r) v l s h = ap request (entries_packed true es r)
seen_as_lem c (sound-advertise {rs} r) v l s h = refl
seen_as_lem c sound-unknown v l s h = refl

-- ---- what is said, and what it leaves of the state
module _ (w : List ℕ) (h : length w ≡ state_words) where
  length_said : (x : Said) → length (on_out (taken w) w x) ≡ state_words
  length_said (out c) = length_taken w c (omega arith) ∙ h
  length_said clean = h
  length_said wait = h
  length_said (no r) = h

  said-lists : (x : Said) → ((c : Capsule) → x ≡ out c → Sound c) → state_in (on_out (taken w) w x) ≡ lists_after_all (state_in w) (given x)
  said-lists (out c) s = taken-lists w (omega arith) c (s c refl)
  said-lists clean s = refl
  said-lists wait s = refl
  said-lists (no r) s = refl

  said-sound : (x : Said) → ((c : Capsule) → x ≡ out c → Sound c) → sound_state (state_in w) ≡ true → sound_state (state_in (on_out (taken w) w x)) ≡ true
  said-sound (out c) s g = taken-sound w (omega arith) g c (s c refl)
  said-sound clean s g = g
  said-sound wait s g = g
  said-sound (no r) s g = g

said-seen : (x : Said) (before l : List ℕ) (s : State) → ((c : Capsule) → x ≡ out c → Sound c)
    → seen (call_of x) (output_of (Ok tt) (on_out datagram_bytes [] x) before) (on_out (asked l) l x) (lists_after_all s (given x)) ≡ given x
said-seen (out c) before l s h =
    ap (λ (d : Capsule). d ∷ [])
    (seen_as_lem c (h c refl) (take (length (datagram_bytes c)) (datagram_bytes c ++ drop (length (datagram_bytes c)) before)) l s
    (λ e. take-append_seam (datagram_bytes c) (drop (length (datagram_bytes c)) before)))
said-seen clean before l s h = refl
said-seen wait before l s h = refl
said-seen (no r) before l s h = refl

-- ---- a call with room
module _ {w held : List ℕ} (k : Ready w held) where
  pub ready_open : Open (store_in w held)
  ready_open = store_open (store_in w held) k.store

  pub kept-bytes : Bytes (store_in w held).kept
  kept-bytes = bytes_take (get_or w store_at 0) held k.lent.bytes

  -- the kept bytes never pass the lent memory
  pub ready-within : length (store_in w held).kept < kept_size
  ready-within = open_within (store_in w held) ready_open kept-bytes

  pub ready-go : (n : ℕ) → max_value ≤ n → feed_verdict w held n ≡ Ok tt
  ready-go n h = verdict-go w held n h k.lists k.store

  module _ (t : List ℕ) (b : Bytes t) where
    pub fed-stepped : Stepped (store_in w held) t (fed w held t)
    fed-stepped = step (store_in w held) t ready_open kept-bytes b

    abbrev f : Fed
    f = fed w held t

    -- what the host finds of the store is the model's next one
    pub next-store : store_in (state_fed w f) (f.store.kept ++ drop (length f.store.kept) held) ≡ f.store
    next-store =
        store_stored (on_out (taken w) w f.said) f.store (length_said w k.lent.words f.said) held fed-stepped.stays.stop

    -- the store's words are no part of the lists and templates
    pub next-state : state_in (state_fed w f) ≡ state_in (on_out (taken w) w f.said)
    next-state = state-stored (on_out (taken w) w f.said) f.store (length_said w k.lent.words f.said)

    pub next-lists : state_in (state_fed w f) ≡ lists_after_all (state_in w) (given f.said)
    next-lists = next-state ∙ said-lists w k.lent.words f.said fed-stepped.sound

    pub next-ready : Ready (state_fed w f) (f.store.kept ++ drop (length f.store.kept) held)
    next-ready =
        let s = fed-stepped in
        let l = open_within f.store s.stays s.bytes in
        record {
          lent =
              record {
                words = length_stored (on_out (taken w) w f.said) f.store (length_said w k.lent.words f.said);
                memory =
                    length_front held f.store.kept (length f.store.kept) (sym (length-take-le (length f.store.kept) held (omega (arith, k.lent.memory))))
                    ∙ k.lent.memory;
                bytes =
                    bytes_append f.store.kept (drop (length f.store.kept) held) s.bytes (bytes_drop (length f.store.kept) held k.lent.bytes);
              };
          lists = ap sound_state next-state ∙ said-sound w k.lent.words f.said s.sound k.lists;
          store = rw next-store (open_store f.store s.stays);
        }

    -- or a refusal, before anything was looked at
    ready-after : (v : Result Unit Refusal) {later holds : List ℕ} → later ≡ kept v (state_fed w (fed w held t)) w
        → holds ≡ output_of v (fed w held t).store.kept held → Ready later holds
    ready-after (Ok _) e g = rw (e, g) next-ready
    ready-after (Err q) e g = rw (e, g) k

-- ---- the parts of an answer
pub call-with : (n : ℕ) (x : Result Call Refusal) → call_by (piece_with n x) ≡ x
call-with n (Ok c) = refl
call-with n (Err r) = refl

-- what refuses takes nothing
abbrev Takes : Fed → Type 0
Takes f = taken_by (piece_of (Ok tt) f) ≡ f.taken

module _ (k : Store) (t : List ℕ) where
  takes-waiting : (n : ℕ) (s : List ℕ) (l : Store) → Takes (record { said = waiting s; taken = n; store = l })
  takes-waiting n [] l = refl
  takes-waiting n (b ∷ s) l = refl

  takes-refused : (n : ℕ) (s : List ℕ) (r : Refusal) (b : Bool) → Takes (pick b (waits n s) (remembers k r))
  takes-refused n s r true = takes-waiting n s (keeping s (to_skip s))
  takes-refused n s r false = refl

  takes-reading : (n : ℕ) (s : List ℕ) (r : Reading) → Takes (on_reading k n s r)
  takes-reading n s (refused r) = takes-refused n s r (eqb (number_of r) 1)
  takes-reading n s (capsule c start size) = refl

  takes-skip : (n m : ℕ) (b : Bool)
      → Takes (pick b (record { said = wait; taken = m; store = record { kept = []; skip = n - m; stopped = (Ok tt) } }) (record { said = out unknown; taken = n; store = empty }))
  takes-skip n m true = refl
  takes-skip n m false = refl

  takes_open : (n : ℕ) → Takes (feed_open k t n)
  takes_open zero = takes-reading (length t) (k.kept ++ t) (read_capsule (k.kept ++ t))
  takes_open (suc n) = takes-skip (suc n) (length t) (ltb (length t) (suc n))

  takes-live : (v : Result Unit Refusal) → Takes (feed_live k t v)
  takes-live (Ok _) = takes_open k.skip
  takes-live (Err r) = refl

  pub takes : taken_by (piece_of (Ok tt) (feed_store k t)) ≡ (feed_store k t).taken
  unfolding feed_store
  takes = takes-live k.stopped

-- a call by its contract
pub record Called (w held t : List ℕ) (r : Result Piece Refusal) (handed : List Capsule) (later holds : List ℕ) : Type 0 where
  -- with any bytes u behind, what was to come is what is handed out and what is still to come
  pub same : (u : List ℕ) → resume (store_in w held) (t ++ u) ≡ before handed (resume (store_in later holds) (drop (taken_by r) t ++ u))
  pub lists : state_in later ≡ lists_after_all (state_in w) handed
  pub ready : Ready later holds
  pub within : taken_by r ≤ length t
  pub moves : 0 < length t → (store_in later holds).stopped ≡ Ok tt → 0 < taken_by r

module _ {w held t before l : List ℕ} {r : Result Piece Refusal} {later holds after list : List ℕ} (x : Feeds w held t before l r later holds after list) (k : Ready w held) where
  module _ (room : max_value ≤ length before) where
    pub call-answer : r ≡ piece_of (Ok tt) (fed w held t)
    call-answer = x.answer ∙ rw (ready-go k (length before) room)

    pub call-said : call_by r ≡ call_of (fed w held t).said
    call-said = ap call_by call-answer ∙ call-with (fed w held t).taken (call_of (fed w held t).said)

    pub call-taken : taken_by r ≡ (fed w held t).taken
    call-taken = ap taken_by call-answer ∙ takes (store_in w held) t

    pub call-state : later ≡ state_fed w (fed w held t)
    call-state = x.state ∙ rw (ready-go k (length before) room)

    pub call-bytes : holds ≡ (fed w held t).store.kept ++ drop (length (fed w held t).store.kept) held
    call-bytes = x.bytes ∙ rw (ready-go k (length before) room)

    pub call-output : after ≡ output_of (Ok tt) (on_out datagram_bytes [] (fed w held t).said) before
    call-output = x.output ∙ rw (ready-go k (length before) room)

    pub call-requested : list ≡ on_out (asked l) l (fed w held t).said
    call-requested = x.requested ∙ rw (ready-go k (length before) room)

    module _ (b : Bytes t) where
      pub call-store : store_in later holds ≡ (fed w held t).store
      call-store = rw (call-state, call-bytes) (next-store k t b)

      pub call-lists : state_in later ≡ lists_after_all (state_in w) (given (fed w held t).said)
      call-lists = ap state_in call-state ∙ next-lists k t b

      pub call-seen : seen (call_by r) after list (state_in later) ≡ given (fed w held t).said
      call-seen =
          rw (call-said, call-output, call-requested, call-lists)
          (said-seen (fed w held t).said before l (state_in w) (fed-stepped k t b).sound)

      pub call-follows : Called w held t r (seen (call_by r) after list (state_in later)) later holds
      call-follows =
          let s = fed-stepped k t b in
          rw call-seen
          (record {
            same = λ u. s.same u ∙ rw (call-store, call-taken);
            lists = call-lists;
            ready = rw (call-state, call-bytes) (next-ready k t b);
            within = rw call-taken s.within;
            moves = λ h g. rw call-taken (s.moves h (sym (ap (λ (y : Store). y.stopped) call-store) ∙ g));
          })

  -- every call leaves lists, templates and store that keep their rules, whatever the room
  pub feed_keeps_sound : Bytes t → Ready later holds
  feed_keeps_sound b = ready-after k t b (feed_verdict w held (length before)) x.state x.bytes

pub hand_keeps_sound : {w held t before : List ℕ} {r : Result Piece Refusal} {later holds after : List ℕ} → HandsOn w held t before r later holds after
    → Ready w held → Bytes t → Ready later holds
hand_keeps_sound {w} {held} {t} {before} x k b = ready-after k t b (hand_verdict w held (length before)) x.state x.bytes
