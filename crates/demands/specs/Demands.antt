-- What the box promises, in the paper's words and order. Each is a statement about the very definitions that the contracts cite:
-- `send_answer`, `send_output`, `receive_answer` and `receive_output` are what those of `tunnel::send` and `tunnel::receive` say of the state that the
-- lent words mean (`state_in`). "Room" is an output that is large enough and nothing handed in that breaks its own rules.
use Rattle.std.specs.Prelude.{ℕ, ◌+◌, ◌-◌, ◌%◌, ◌<◌, ◌≤◌, ◌≡◌, refl, true, false, ◌⊎◌, length, get_or, take, drop, replicate, Result, Ok, Err, Some, None}
use mathlib.Core.List.{List, [], ◌++◌, flatten}
use Rattle.answer.specs.declared.Refusal.{Refusal}
use Rattle.answer.specs.declared.Refusal.TheVariants.{BrokenState, NoRoom}
use Rattle.answer.specs.Number.{answer_number, answer_length}
use Rattle.answer.specs.Verdict.{Writes}
use Rattle.octets.specs.Big.{Bytes}
use Rattle.varint.specs.Numbers.{read_number, encode, write_verdict, number}
use Rattle.octets.specs.Scan.{any_of}
use Rattle.chain.specs.Chain.{plain, class_of, size_of, offset_of, onward, behind, chain, chain_of}
use Rattle.inet.specs.Sum.{fold}
use Rattle.inet.specs.Update.{complement, equation3}
use Rattle.inet.specs.UpdateLaws.{SecondDiffers, equation3_recomputes, second_differs}
use Rattle.inet.specs.Packet.{version_of, form, hops_of, source_of, destination_of, protocol_of, protocol_byte, is_icmp, lowered}
use Rattle.chain.proofs.ChainLaws.{chain-step, behind-shorter}
use Rattle.inet.proofs.LoweredLaws.{lowered-chain}
use Rattle.inet.proofs.ProtocolLaws.{chain_same, protocol-plain, past-bad, icmp_not, chain-first_fragment, chain-later-fragment}
use Rattle.inet.proofs.UpdatedLaws.{lowered_updates}
use Rattle.inet.specs.Transport.{field_of, damaged}
use Rattle.lists.specs.declared.AddressEntry.{AddressEntry}
use Rattle.lists.specs.declared.RouteRange.{RouteRange}
use Rattle.lists.specs.Words.{address_words, route_words, entries_of, ranges_of}
use Rattle.capsule.specs.declared.Kind.{Kind}
use Rattle.capsule.specs.declared.CapsuleRead.{CapsuleRead}
use Rattle.capsule.specs.Results.{next_after}
use Rattle.capsule.specs.Capsules.{max_value, Capsule, datagram, assign, request, advertise, unknown, capsule, read_capsule, capsule_bytes}
use Rattle.capsule.specs.Sound.{Sound, in_words, value_start}
use Rattle.capsule.specs.Shortest.{shortest_capsule}
use Rattle.capsule.proofs.RoundTrip.{read-written, shortest-written}
use Rattle.capsule_write.specs.Verdicts.{Words, DatagramWritten, AssignWritten, RequestWritten, RoutesWritten}
use Rattle.policy.specs.Granted.{covers, holds}
use Rattle.policy.proofs.PassLaws.{icmp_6_not_1}
use Rattle.table.specs.Templates.{Template}
use Rattle.table.specs.Rules.{sound_templates}
use Rattle.table.specs.Words.{pack_table, templates_of}
use Rattle.table.specs.File.{found, plan_in, plan_bytes}
use Rattle.table.specs.Load.{Loads}
use Rattle.plan_write.specs.Writing.{WritesPlan}
use Rattle.table.proofs.Encoded as Encoded
use Rattle.table.proofs.Written.{written_read}
use Rattle.table.proofs.Packed.{read-sound, read_means}
use Rattle.state.specs.State.{State, sound_state, sending_granted, receiving_granted, Mirrors, addresses_received, routes_received, addresses_given, routes_given}
use Rattle.state.specs.State.{templates_loaded, state_words, state_in}
use Rattle.state.specs.Loading.{LoadsPlan}
use Rattle.state.proofs.LoadLaws.{file-loaded, load_keeps_sound}
use Rattle.exchange.specs.Reading.{reading_in, ReadsCapsule}
use Rattle.exchange.specs.Writing.{Gives, Assigns, Advertises, AssignsValue, AdvertisesValue, RequestsValue, entries_taken, ranges_taken}
use Rattle.exchange.proofs.ReadLaws.{read_refusal_leaves, read-keeps_sound, assign_replaces, advertise_replaces}
use Rattle.exchange.proofs.ReadLaws.{request-handed, datagram_leaves, other_leaves}
use Rattle.exchange.proofs.WriteLaws.{assign_gives, advertise_gives, assign-received, advertise-received}
use Rattle.exchange.proofs.WriteLaws.{assign_value_gives, advertise_value_gives, assign-keeps_sound, advertise-keeps_sound}
use Rattle.exchange.proofs.WriteLaws.{assign_value_keeps_sound, advertise_value_keeps_sound, assign_value_received, advertise_value_received}
use Rattle.stream.specs.declared.feeding.Call.TheVariants.{Handed, Between, Wait}
use Rattle.stream.specs.declared.feeding.Piece.{Piece}
use Rattle.stream.specs.Store.{empty, sound_store}
use Rattle.stream.specs.Feeding.{kept_size, store_in, call_by, taken_by, Feeds}
use Rattle.stream.specs.Handing.{HandsOn}
use Rattle.stream.specs.Runs.{Lent, Ready, Calls, Through, ReadsAll, SameAs, Repeats, EndsIn, LeavesAll, Remembers, Rests, Waits}
use Rattle.stream.proofs.FeedLaws.{ready-within, feed_keeps_sound, hand_keeps_sound}
use Rattle.stream.proofs.CallLaws.{no_room, broken-lists, broken-store, repeats, refused-either, wait-unfinished, between_rests, handed-ends, skipped_not_kept}
use Rattle.stream.proofs.EndLaws.{calls_repeat, calls_through}
use Rattle.stream.proofs.BufferLaws.{cut_anywhere, cut_in_two}
use Rattle.ends.specs.Ends.{Exchanged}
use Rattle.template.specs.Members.{In}
use Rattle.template.specs.Fits.{fits}
use Rattle.template.specs.Datagrams.{full_form, packet, opened}
use Rattle.tunnel.specs.Tunnel.{send_room, receive_room, Sends, Receives}
use Rattle.tunnel.specs.Answers.{send_answer, send_output, receive_answer, receive_output, Passes, datagram_of, packet_of}
use Rattle.tunnel_c.specs.declared.PlainAnswer.{PlainAnswer}
use Rattle.tunnel_c.specs.declared.capsules.PlainCapsule.{PlainCapsule}
use Rattle.tunnel_c.specs.declared.pieces.PlainPiece.{PlainPiece}
use Rattle.tunnel_c.specs.Plain.{plain_answer, Plainly, ReadsPlainly, AssignsPlainly, AdvertisesPlainly, FeedsPlainly}
use Rattle.ends.specs.Outcomes.{Leaves, PieceRefused, ReadBack, Consumed, StaysSound, allowed_out, allowed_in, SentShort, TakesIn, Twins}
use Rattle.ends.proofs.Refusals.{writes_leaves, gives_leaves, load_leaves, state_load_leaves, consumed}
use Rattle.ends.proofs.Refusals.{plainly_leaves, plainly_gives_leaves, plainly_read_leaves, plainly_feed_leaves}
use Rattle.ends.proofs.WrittenBack.{datagram-back, assign-back, request-back, routes-back}
use Rattle.ends.proofs.Passing.{sends_answer, receives_answer, allowed_passes, passes_allowed, passes_lowers, allowed_taken, taken_allowed, taken_unchanged}
use Rattle.ends.proofs.Passing.{icmp_out, icmp_out_reply, icmp_in_lem, icmp_in_reply, icmp_4_not_58, chain-out, chain_in}
use Rattle.ends.proofs.Choosing.{fit-short, none-full, none-wire, zero_none}
use Rattle.ends.proofs.Agreeing.{alike, takes_in_sent, mirrored_zero, damaged-alike, lowered-apart, twins-one}
use Rattle.ends.proofs.Crossing.{exchanged_mirror, whole_way, fresh-sound}

-- ---- 1. Any bytes get an answer. A refusal returns length 0, alters no lent byte and no word of the state, and consumes nothing

-- the one law of everything that writes
pub refused_leaves : (v : Result Unit Refusal) {m before after : List ℕ} {r : Result ℕ Refusal} → Writes v m before r after → Leaves r before after
refused_leaves = writes_leaves

-- a number, the four capsules, the entries of a request as bytes, a plan file, a packet, a datagram
module _ {before after : List ℕ} {r : Result ℕ Refusal} where
  pub number-refused : (v : ℕ) → Writes (write_verdict v (length before)) (encode v) before r after → Leaves r before after
  number-refused v = writes_leaves _

  pub datagram-refused : (v : List ℕ) → DatagramWritten v before r after → Leaves r before after
  datagram-refused v = writes_leaves _

  pub assign-refused : (l : List ℕ) → AssignWritten l before r after → Leaves r before after
  assign-refused l = writes_leaves _

  pub request-refused : (l : List ℕ) → RequestWritten l before r after → Leaves r before after
  request-refused l = writes_leaves _

  pub routes-refused : (l : List ℕ) → RoutesWritten l before r after → Leaves r before after
  routes-refused l = writes_leaves _

  pub request_value_refused : (v : List ℕ) → RequestsValue v before r after → Leaves r before after
  request_value_refused v = writes_leaves _

  pub plan_file_refused : (table : List ℕ) → WritesPlan table before r after → Leaves r before after
  plan_file_refused table = writes_leaves _

  pub send_refused : (w p : List ℕ) → Sends w p before r after → Leaves r before after
  send_refused w p s = writes_leaves _ s.writes

  pub receive_refused : (w d : List ℕ) → Receives w d before r after → Leaves r before after
  receive_refused w d s = writes_leaves _ s.writes

-- a plan file that is refused leaves the table, and the state
pub load_refused : (file before after : List ℕ) (r : Result Unit Refusal) → Loads file before r after → (why : Refusal) → r ≡ Err why → after ≡ before
load_refused = load_leaves

pub state-load_refused : (file w after : List ℕ) (r : Result Unit Refusal) → LoadsPlan file w r after → (why : Refusal) → r ≡ Err why → after ≡ w
state-load_refused = state_load_leaves

-- a capsule that is refused alters no word of the state and of the host's list for requests, and consumes nothing
pub read-refused : {w s : List ℕ} {at : ℕ} {l : List ℕ} {r : Result CapsuleRead Refusal} {after list : List ℕ} → ReadsCapsule w s at l r after list
    → (why : Refusal) → r ≡ Err why → (after ≡ w) × (list ≡ l) × (next_after at r ≡ at)
read-refused = read_refusal_leaves

-- a list that is refused, to be assigned or advertised, in words or as bytes, alters no word of the state and no byte of the output
pub list-refused : (v : Result Unit Refusal) {m new w before : List ℕ} {r : Result ℕ Refusal} {left after : List ℕ} → Gives v m new w before r left after
    → (answer_number r ≡ 0 → ⊥) → (answer_length r ≡ 0) × (after ≡ before) × (left ≡ w)
list-refused = gives_leaves

-- the functions for C: what they hand over has the number and the length of such an answer
module _ {r : PlainAnswer} where
  pub plain-refused : {P : Result ℕ Refusal → Type 0} {before after : List ℕ} → Plainly plain_answer P r → (r.number ≡ 0 → ⊥)
      → ((a : Result ℕ Refusal) → P a → Leaves a before after) → (r.length ≡ 0) × (after ≡ before)
  plain-refused q h law = plainly_leaves q h law

  module _ (w l : List ℕ) {before left after : List ℕ} (refused : r.number ≡ 0 → ⊥) where
    pub plain-assign_refused : AssignsPlainly w l before r left after → (r.length ≡ 0) × (after ≡ before) × (left ≡ w)
    plain-assign_refused q = plainly_gives_leaves q refused _ (λ a g. g)

    pub plain-routes_refused : AdvertisesPlainly w l before r left after → (r.length ≡ 0) × (after ≡ before) × (left ≡ w)
    plain-routes_refused q = plainly_gives_leaves q refused _ (λ a g. g)

pub plain-read_refused : {w s : List ℕ} {at : ℕ} {l : List ℕ} {r : PlainCapsule} {after list : List ℕ} → ReadsPlainly w s at l r after list
    → (r.number ≡ 0 → ⊥) → (after ≡ w) × (list ≡ l) × (r.next ≡ at)
plain-read_refused = plainly_read_leaves

-- ---- 1 as request 01 amends it: the stream in pieces. `Lent w held`: the state and the memory for kept bytes have their sizes. `Ready w held`: and lists,
-- templates and store keep their rules. `store_in w held` is what is kept
module _ {w held t before l : List ℕ} {r : Result Piece Refusal} {later holds after list : List ℕ} (c : Feeds w held t before l r later holds after list) where
  -- a refusal alters nothing that was lent, or it is one of 2 to 7, and the word that remembers it is all that it alters
  pub feed_refused : Lent w held → Bytes t → (why : Refusal) → r ≡ Err why
      → LeavesAll why w held before l r later holds after list ⊎ Remembers why w held before l r later holds after list
  feed_refused = refused-either c

  -- 16 and 9 alter nothing, so they are not remembered; 16 comes first
  pub feed_no_room : length before < max_value → LeavesAll NoRoom w held before l r later holds after list
  feed_no_room = no_room c

  pub feed_broken_lists : max_value ≤ length before → sound_state (state_in w) ≡ false → LeavesAll BrokenState w held before l r later holds after list
  feed_broken_lists = broken-lists c

  pub feed_broken_store : max_value ≤ length before → sound_state (state_in w) ≡ true → sound_store (store_in w held) ≡ false
      → LeavesAll BrokenState w held before l r later holds after list
  feed_broken_store = broken-store c

  module _ (ready : Ready w held) (room : max_value ≤ length before) where
    -- what is remembered is repeated, and then alters nothing
    pub feed_repeats : (why : Refusal) → (store_in w held).stopped ≡ Err why → LeavesAll why w held before l r later holds after list
    feed_repeats = repeats c ready room

    -- 1 is given only while a capsule is open, takes all bytes, and changes only what is kept
    pub feed_waits : Bytes t → call_by r ≡ Ok Wait → Waits w t before l r later holds after list
    feed_waits = wait-unfinished c ready room

    -- between capsules, with no bytes, it is 0
    pub feed_between : Bytes t → call_by r ≡ Ok Between → Rests w held t before l r later holds after list
    feed_between = between_rests c ready room

    -- a capsule is handed out with its last byte, and no byte past it is taken
    pub feed_ends : Bytes t → (kind : Kind) (n : ℕ) → call_by r ≡ Ok (Handed kind n) → EndsIn (store_in w held) t (taken_by r) × (store_in later holds ≡ empty)
    feed_ends = handed-ends c ready room

-- the same of the function for C, by the number that it hands over: lists, templates and store stand, and the last word of the state may hold the number
pub plain-feed_refused : {w held t before l : List ℕ} {r : PlainPiece} {later holds after list : List ℕ} → FeedsPlainly w held t before l r later holds after list
    → Lent w held → Bytes t → 1 < r.number → PieceRefused w held before l r later holds after list
plain-feed_refused = plainly_feed_leaves

-- after that refusal each call repeats it: none hands out a capsule or alters anything
pub refusal-repeated : {w held left : List ℕ} {ps : List (List ℕ)} {handed : List Capsule} {later holds rest : List ℕ}
    → Calls w held left ps handed later holds rest → Ready w held → (why : Refusal) → (store_in w held).stopped ≡ Err why → Repeats w held handed later holds
refusal-repeated = calls_repeat

-- fewer bytes are kept than the memory for them holds, and none of a value that is skipped
pub kept-fits : {w held : List ℕ} → Ready w held → length (store_in w held).kept < kept_size
kept-fits = ready-within

pub skipped_unkept : {w held : List ℕ} → Ready w held → 0 < (store_in w held).skip → (store_in w held).kept ≡ []
skipped_unkept = skipped_not_kept

-- ---- 2. Capsules, lists and verdicts

-- reading a written capsule gives the same entries, or the same value, and consumes exactly its encoded size, whatever follows it. `Sound c`: it
-- keeps the rules; `in_words c`: each half of an address is a 64-bit word
pub written_is_read : (c : Capsule) (rest : List ℕ) → Sound c → in_words c ≡ true → (c ≡ unknown → ⊥)
    → read_capsule (capsule_bytes c ++ rest) ≡ capsule c (value_start c) (length (capsule_bytes c))
written_is_read = read-written

-- so what each of the four writers wrote is read back
module _ {before after : List ℕ} {n : ℕ} (rest : List ℕ) where
  pub datagram_read-back : (v : List ℕ) → DatagramWritten v before (Ok n) after → ReadBack (datagram v) n after rest
  datagram_read-back v = datagram-back rest v

  module _ (l : List ℕ) (small : Words l) where
    pub assign_read_back : AssignWritten l before (Ok n) after → ReadBack (assign (entries_of l)) n after rest
    assign_read_back = assign-back rest l small

    pub request_read_back : RequestWritten l before (Ok n) after → ReadBack (request (entries_of l)) n after rest
    request_read_back = request-back rest l small

    pub routes_read_back : RoutesWritten l before (Ok n) after → ReadBack (advertise (ranges_of l)) n after rest
    routes_read_back = routes-back rest l small

-- whatever is read, what is consumed is its encoded size
pub read_consumes : (s : List ℕ) (c : Capsule) (start size : ℕ) → read_capsule s ≡ capsule c start size → Consumed s size
read_consumes = consumed

-- a capsule whose numbers are all shortest is exactly what writing its entries gives
pub shortest_is_written : (s : List ℕ) (c : Capsule) (start size : ℕ) → Bytes s → read_capsule s ≡ capsule c start size → (c ≡ unknown → ⊥)
    → shortest_capsule s ≡ true → take size s ≡ capsule_bytes c
shortest_is_written = shortest-written

-- after a good type 1 the received addresses are exactly the capsule's entries, after a good type 3 the received routes; all else stands
pub addresses_replaced : {w s : List ℕ} {at : ℕ} {l : List ℕ} {r : Result CapsuleRead Refusal} {after list : List ℕ} → ReadsCapsule w s at l r after list
    → (start size : ℕ) → state_words ≤ length w → (es : List AddressEntry) → reading_in w s at ≡ capsule (assign es) start size
    → state_in after ≡ addresses_received (state_in w) es
addresses_replaced = assign_replaces

pub routes_replaced : {w s : List ℕ} {at : ℕ} {l : List ℕ} {r : Result CapsuleRead Refusal} {after list : List ℕ} → ReadsCapsule w s at l r after list
    → (start size : ℕ) → state_words ≤ length w → (rs : List RouteRange) → reading_in w s at ≡ capsule (advertise rs) start size
    → state_in after ≡ routes_received (state_in w) rs
routes_replaced = advertise_replaces

-- a good type 2 hands its entries back and changes no list; a DATAGRAM and a capsule of another type change nothing
module _ {w s : List ℕ} {at : ℕ} {l : List ℕ} {r : Result CapsuleRead Refusal} {after list : List ℕ} (k : ReadsCapsule w s at l r after list) (start size : ℕ) where
  pub request_hands_back : (es : List AddressEntry) → reading_in w s at ≡ capsule (request es) start size → (after ≡ w) × (entries_of list ≡ es)
  request_hands_back = request-handed k start size

  pub datagram_changes_nothing : (v : List ℕ) → reading_in w s at ≡ capsule (datagram v) start size → (after ≡ w) × (list ≡ l)
  datagram_changes_nothing = datagram_leaves k start size

  pub other_changes_nothing : reading_in w s at ≡ capsule unknown start size → (after ≡ w) × (list ≡ l)
  other_changes_nothing = other_leaves k start size

-- a list that was written becomes the given one whole
pub addresses-given : (w l before : List ℕ) {r : Result ℕ Refusal} {left after : List ℕ} → state_words ≤ length w → length l ≡ address_words
    → Assigns w l before r left after → (n : ℕ) → r ≡ Ok n → state_in left ≡ addresses_given (state_in w) (entries_of l)
addresses-given = assign_gives

pub routes-given : (w l before : List ℕ) {r : Result ℕ Refusal} {left after : List ℕ} → state_words ≤ length w → length l ≡ route_words
    → Advertises w l before r left after → (n : ℕ) → r ≡ Ok n → state_in left ≡ routes_given (state_in w) (ranges_of l)
routes-given = advertise_gives

-- and the other end, reading it, receives the same list
pub addresses_agreed : (w l before : List ℕ) {r : Result ℕ Refusal} {left after : List ℕ} → state_words ≤ length w → length l ≡ address_words
    → Assigns w l before r left after → Words l → (n : ℕ) → r ≡ Ok n
    → (x rest lent : List ℕ) {a : Result CapsuleRead Refusal} {state list : List ℕ} → state_words ≤ length x → sound_state (state_in x) ≡ true
    → ReadsCapsule x (take n after ++ rest) 0 lent a state list → state_in state ≡ addresses_received (state_in x) (entries_of l)
addresses_agreed = assign-received

pub routes_agreed : (w l before : List ℕ) {r : Result ℕ Refusal} {left after : List ℕ} → state_words ≤ length w → length l ≡ route_words
    → Advertises w l before r left after → Words l → (n : ℕ) → r ≡ Ok n
    → (x rest lent : List ℕ) {a : Result CapsuleRead Refusal} {state list : List ℕ} → state_words ≤ length x → sound_state (state_in x) ≡ true
    → ReadsCapsule x (take n after ++ rest) 0 lent a state list → state_in state ≡ routes_received (state_in x) (ranges_of l)
routes_agreed = advertise-received

-- the same of lists that are handed in as bytes
pub addresses-value_given : (w v before : List ℕ) {r : Result ℕ Refusal} {left after : List ℕ} → state_words ≤ length w → AssignsValue w v before r left after
    → (n : ℕ) → r ≡ Ok n → state_in left ≡ addresses_given (state_in w) (entries_taken v)
addresses-value_given = assign_value_gives

pub routes-value_given : (w v before : List ℕ) {r : Result ℕ Refusal} {left after : List ℕ} → state_words ≤ length w → AdvertisesValue w v before r left after
    → (n : ℕ) → r ≡ Ok n → state_in left ≡ routes_given (state_in w) (ranges_taken v)
routes-value_given = advertise_value_gives

pub addresses_value_agreed : (w v before : List ℕ) {r : Result ℕ Refusal} {left after : List ℕ} → state_words ≤ length w → AssignsValue w v before r left after
    → Bytes v → (n : ℕ) → r ≡ Ok n → (x rest lent : List ℕ) {a : Result CapsuleRead Refusal} {state list : List ℕ} → state_words ≤ length x
    → sound_state (state_in x) ≡ true → ReadsCapsule x (take n after ++ rest) 0 lent a state list → state_in state ≡ addresses_received (state_in x) (entries_taken v)
addresses_value_agreed = assign_value_received

pub routes_value_agreed : (w v before : List ℕ) {r : Result ℕ Refusal} {left after : List ℕ} → state_words ≤ length w → AdvertisesValue w v before r left after
    → Bytes v → (n : ℕ) → r ≡ Ok n → (x rest lent : List ℕ) {a : Result CapsuleRead Refusal} {state list : List ℕ} → state_words ≤ length x
    → sound_state (state_in x) ≡ true → ReadsCapsule x (take n after ++ rest) 0 lent a state list → state_in state ≡ routes_received (state_in x) (ranges_taken v)
routes_value_agreed = advertise_value_received

-- a good plan file replaces the templates whole
pub plan-loaded : (file w after : List ℕ) {r : Result Unit Refusal} → LoadsPlan file w r after → Bytes file → state_words ≤ length w
    → (ts : List Template) (rest : List ℕ) → plan_in file ≡ found ts rest → state_in after ≡ templates_loaded (state_in w) ts
plan-loaded = file-loaded

-- a fresh state, whose words are all 0, is sound, and whatever is called, a sound state stays sound: a 9 is never the box's own doing. Sending and
-- receiving leave the state as it is
pub fresh_is_sound : sound_state (state_in (replicate state_words 0)) ≡ true
fresh_is_sound = fresh-sound

module _ {w later : List ℕ} (size : state_words ≤ length w) where
  pub read_stays_sound : {s l list : List ℕ} {at : ℕ} {r : Result CapsuleRead Refusal} → ReadsCapsule w s at l r later list → StaysSound w later
  read_stays_sound k = read-keeps_sound k size

  pub load_stays_sound : (file : List ℕ) {r : Result Unit Refusal} → LoadsPlan file w r later → Bytes file → StaysSound w later
  load_stays_sound file k b = load_keeps_sound file w later k b size

  module _ (l before : List ℕ) {after : List ℕ} {r : Result ℕ Refusal} where
    pub assign_stays_sound : length l ≡ address_words → Assigns w l before r later after → StaysSound w later
    assign_stays_sound n k = assign-keeps_sound w l before size n k

    pub routes_stay_sound : length l ≡ route_words → Advertises w l before r later after → StaysSound w later
    routes_stay_sound n k = advertise-keeps_sound w l before size n k

    pub assign_value_stays_sound : AssignsValue w l before r later after → StaysSound w later
    assign_value_stays_sound k = assign_value_keeps_sound w l before size k

    pub routes_value_stay_sound : AdvertisesValue w l before r later after → StaysSound w later
    routes_value_stay_sound k = advertise_value_keeps_sound w l before size k

-- the stream in pieces leaves lists, templates and store that keep their rules: the box never gives 9 to itself
pub feed_stays_ready : {w held t before l : List ℕ} {r : Result Piece Refusal} {later holds after list : List ℕ} → Feeds w held t before l r later holds after list
    → Ready w held → Bytes t → Ready later holds
feed_stays_ready = feed_keeps_sound

pub hand_stays_ready : {w held t before : List ℕ} {r : Result Piece Refusal} {later holds after : List ℕ} → HandsOn w held t before r later holds after
    → Ready w held → Bytes t → Ready later holds
hand_stays_ready = hand_keeps_sound

-- request 01: with room, from an empty store and the same lists, each call given those that the last one left and the bytes that it left, for any way of cutting
-- the same bytes, the capsules handed out, the lists and the first refusal other than 1 are those of the whole buffer, read from place to place
pub cut_as_whole : {w held : List ℕ} {ps : List (List ℕ)} {handed : List Capsule} {later holds rest u s : List ℕ} {read : List Capsule} {left : List ℕ} {v : Result Unit Refusal}
    → Calls w held [] ps handed later holds rest → Through later holds rest → ReadsAll u s 0 read left v
    → Ready w held → store_in w held ≡ empty → state_words ≤ length u → state_in u ≡ state_in w → flatten ps ≡ s → Bytes s
    → SameAs handed later holds read left v
cut_as_whole = cut_anywhere

-- as many calls with no new bytes as there are bytes left come to the end, or to a refusal
pub comes_through : {w held left : List ℕ} {ps : List (List ℕ)} {handed : List Capsule} {later holds rest : List ℕ}
    → Calls w held left ps handed later holds rest → Ready w held → Bytes left → flatten ps ≡ [] → length left ≤ length ps → Through later holds rest
comes_through = calls_through

-- the step: a ++ b to its end hands out, and leaves as lists and refusal, what a, and then b to its end does; from any store
pub cut-between : {w held a b : List ℕ} {ps : List (List ℕ)} {handed : List Capsule} {later holds rest : List ℕ}
    {qs : List (List ℕ)} {first : List Capsule} {mid now over : List ℕ} {rs : List (List ℕ)} {second : List Capsule} {left keeps more : List ℕ}
    → Calls w held [] ps handed later holds rest → Through later holds rest → flatten ps ≡ a ++ b
    → Calls w held [] qs first mid now over → flatten qs ≡ a → Calls mid now over rs second left keeps more → Through left keeps more → flatten rs ≡ b
    → Ready w held → Bytes (a ++ b) → SameAs handed later holds (first ++ second) left (store_in left keeps).stopped
cut-between = cut_in_two

-- what is said below of `send_answer`, `send_output`, `receive_answer` and `receive_output` is said of what the two entry points answer and leave
pub send_answers : (w p : List ℕ) {before after : List ℕ} {r : Result ℕ Refusal} → Sends w p before r after
    → (r ≡ send_answer (state_in w) p before) × (after ≡ send_output (state_in w) p before)
send_answers = sends_answer

pub receive_answers : (w d : List ℕ) {before after : List ℕ} {r : Result ℕ Refusal} → Receives w d before r after
    → (r ≡ receive_answer (state_in w) d before) × (after ≡ receive_output (state_in w) d before)
receive_answers = receives_answer

-- with room, a packet passes exactly when size, form, hop count and the grants in force allow it
pub passes_if_allowed : (s : State) (p out : List ℕ) → send_room ≤ length out → sound_state s ≡ true → allowed_out s p ≡ true → Passes s p out
passes_if_allowed = allowed_passes

pub allowed_if_passes : (s : State) (p out : List ℕ) → Passes s p out → allowed_out s p ≡ true
allowed_if_passes = passes_allowed

-- a datagram that stands for the packet q is taken in, with room, exactly when form and grants allow q; no hop count is asked for
pub taken_in_if_allowed : (s : State) (d q out : List ℕ) → opened s.templates d ≡ packet q → receive_room ≤ length out → sound_state s ≡ true
    → allowed_in s q ≡ true → TakesIn s d out q
taken_in_if_allowed = allowed_taken

pub allowed_if_taken_in : (s : State) (d out : List ℕ) → answer_number (receive_answer s d out) ≡ 0
    → (opened s.templates d ≡ packet (packet_of s d out)) × (allowed_in s (packet_of s d out) ≡ true)
allowed_if_taken_in = taken_allowed

-- sending lowers the hop count by exactly one; receiving hands out the packet that the datagram stands for with no byte changed
pub lowered_by_one : (s : State) (p out : List ℕ) → Passes s p out → hops_of (lowered p) ≡ hops_of p - 1
lowered_by_one = passes_lowers

pub received_unchanged : (s : State) (d q out : List ℕ) → opened s.templates d ≡ packet q → answer_number (receive_answer s d out) ≡ 0 → TakesIn s d out q
received_unchanged = taken_unchanged

-- ICMP passes whatever protocol the range names: sent by a grant and as a reply, received by a grant and as a reply
module _ (s : State) (p : List ℕ) (icmp : is_icmp p ≡ true) where
  pub icmp_sent : any_of (covers (source_of p)) s.received.addresses ≡ true → any_of (holds (destination_of p)) s.received.routes ≡ true
      → sending_granted s p ≡ true
  icmp_sent = icmp_out s p icmp

  pub icmp_sent_reply : any_of (covers (destination_of p)) s.given.addresses ≡ true → any_of (holds (source_of p)) s.given.routes ≡ true
      → sending_granted s p ≡ true
  icmp_sent_reply = icmp_out_reply s p icmp

  pub icmp_received : any_of (covers (source_of p)) s.given.addresses ≡ true → any_of (holds (destination_of p)) s.given.routes ≡ true
      → receiving_granted s p ≡ true
  icmp_received = icmp_in_lem s p icmp

  pub icmp_received_reply : any_of (covers (destination_of p)) s.received.addresses ≡ true → any_of (holds (source_of p)) s.received.routes ≡ true
      → receiving_granted s p ≡ true
  icmp_received_reply = icmp_in_reply s p icmp

-- protocol 1 is not ICMP in IPv6, and 58 is not in IPv4
pub ipv6_one_no_icmp : (p : List ℕ) → version_of p ≡ 6 → protocol_of p ≡ 1 → is_icmp p ≡ false
ipv6_one_no_icmp = icmp_6_not_1

pub ipv4_58_no_icmp : (p : List ℕ) → version_of p ≡ 4 → protocol_of p ≡ 58 → is_icmp p ≡ false
ipv4_58_no_icmp = icmp_4_not_58

-- request 03: the protocol that grants are about is what the chain of headers leads to, in IPv6. Without extension headers that is byte 6, which checksums count
pub plain-protocol : (p : List ℕ) → version_of p ≡ 6 → class_of (get_or p 6 0) ≡ plain → protocol_of p ≡ protocol_byte p
plain-protocol = protocol-plain

-- every chain ends: it is its first header and then the chain behind that, which is 8 bytes shorter at least; no count of steps shows
pub chain_goes_on : (n : ℕ) (l : List ℕ) → chain n l ≡ onward n l (chain (get_or l 0 0) (behind n l))
chain_goes_on = chain-step

pub chain_gets_shorter : (n : ℕ) (l : List ℕ) → size_of (class_of n) l ≤ length l → length (behind n l) + 8 ≤ length l
chain_gets_shorter = behind-shorter

-- it depends on byte 6 and on the bytes from 40 on alone, and lowering changes none of these
pub chain_depends : (p q : List ℕ) → get_or p 6 0 ≡ get_or q 6 0 → drop 40 p ≡ drop 40 q → chain_of p ≡ chain_of q
chain_depends = chain_same

pub chain-kept : (p : List ℕ) → chain_of (lowered p) ≡ chain_of p
chain-kept = lowered-chain

-- one that runs past the packet is a bad form
pub chain_past-refused : (p : List ℕ) → version_of p ≡ 6 → chain_of p ≡ None → form p ≡ false
chain_past-refused = past-bad

-- ICMP behind a chain passes whatever protocol the range names
module _ (s : State) (p : List ℕ) (six : version_of p ≡ 6) (icmp : chain_of p ≡ Some 58) where
  pub icmp_behind-sent : any_of (covers (source_of p)) s.received.addresses ≡ true → any_of (holds (destination_of p)) s.received.routes ≡ true
      → sending_granted s p ≡ true
  icmp_behind-sent = chain-out s p six icmp

  pub icmp_behind-received : any_of (covers (source_of p)) s.given.addresses ≡ true → any_of (holds (destination_of p)) s.given.routes ≡ true
      → receiving_granted s p ≡ true
  icmp_behind-received = chain_in s p six icmp

-- a first fragment goes on behind its header; a later one is protocol 44, and so no ICMP
pub first-fragment : (l : List ℕ) → 8 ≤ length l → offset_of l ≡ 0 → chain 44 l ≡ chain (get_or l 0 0) (drop 8 l)
first-fragment = chain-first_fragment

pub later-fragment : (l : List ℕ) → 8 ≤ length l → (offset_of l ≡ 0 → ⊥) → chain 44 l ≡ Some 44
later-fragment = chain-later-fragment

pub no_other_icmp : (p : List ℕ) → version_of p ≡ 6 → {n : ℕ} → chain_of p ≡ Some n → (n ≡ 58 → ⊥) → is_icmp p ≡ false
no_other_icmp = icmp_not

-- request 04: after a hop the IPv4 header checksum, made again from all the words, is the update of RFC 1624, equation 3, of the one that stood there
pub hop_updates_checksum : (p : List ℕ) → Bytes p → version_of p ≡ 4 → form p ≡ true → 1 ≤ hops_of p
    → field_of 10 (lowered p) ≡ equation3 (field_of 10 p) (field_of 8 p) (field_of 8 (lowered p))
hop_updates_checksum = lowered_updates

-- the same over numbers, for any word of a header that sums to 65535: hc is its checksum, and m becomes n; only FFFF may not become 0000
pub update_recomputes : (hc m n others : ℕ) → hc ≤ 65535 → m ≤ 65535 → 0 < complement m + n → 0 < others + n → fold (others + m + hc) ≡ 65535
    → equation3 hc m n ≡ complement (fold (others + n))
update_recomputes = equation3_recomputes

-- equation 2 does not do: a header of good form with the checksum FEFF, for which it gives FFFF, and the sum made again 0000
pub equation2_differs : SecondDiffers
equation2_differs = second_differs

-- ---- 3. Short and full agree. The packet p passes: the number given back is 0; `datagram_of` is the n bytes that sending wrote
module _ (s : State) (p out : List ℕ) (passed : Passes s p out) where
  -- (a) short exactly when some template fits, by the lowest Context ID, which is not 0 and stands in front
  pub short_if_some_fits : (t : Template) → In t s.templates → fits t (lowered p) ≡ true → SentShort s p out
  short_if_some_fits = fit-short s p out passed

  -- else in full, with 0 in front
  module _ (none : (t : Template) → In t s.templates → fits t (lowered p) ≡ false) where
    pub full_if_none_fits : datagram_of s p out ≡ full_form (lowered p)
    full_if_none_fits = none-full s p out passed none

    pub full-wire : read_number (datagram_of s p out) ≡ Some (number 0 1)
    full-wire = none-wire s p out passed none

  -- so that a datagram with 0 in front says that none fits
  pub none_fits_if_full : read_number (datagram_of s p out) ≡ Some (number 0 1) → (t : Template) → In t s.templates → fits t (lowered p) ≡ false
  none_fits_if_full = zero_none s p out passed

  -- the other end holds the same templates
  module _ (other : State) (same : other.templates ≡ s.templates) where
    -- (b) whatever its lists, and whatever stands in its output, its answer to the datagram is its answer to the full form
    pub answered-alike : (into : List ℕ)
        → (receive_answer other (datagram_of s p out) into ≡ receive_answer other (full_form (lowered p)) into)
        × (receive_output other (datagram_of s p out) into ≡ receive_output other (full_form (lowered p)) into)
    answered-alike = alike s p out passed other same

    -- (c) where it takes the datagram in, the sender's packet comes out, with its hop count lowered, and then what stood there
    pub comes_out : (into : List ℕ) → answer_number (receive_answer other (datagram_of s p out) into) ≡ 0
        → TakesIn other (datagram_of s p out) into (lowered p)
    comes_out = takes_in_sent s p out passed other same

    -- and with mirrored lists and room it takes it in
    pub mirror_passes : Mirrors s other → (into : List ℕ) → receive_room ≤ length into
        → answer_number (receive_answer other (datagram_of s p out) into) ≡ 0
    mirror_passes = mirrored_zero s p out passed other same

    -- (d) a transport checksum at any field and start is damaged in what comes out exactly where it was damaged in the packet
    pub damage_stays : (into : List ℕ) → answer_number (receive_answer other (datagram_of s p out) into) ≡ 0
        → (field start : ℕ) → 20 ≤ start → start ≤ field → (field - start) % 2 ≡ 0
        → damaged field start (packet_of other (datagram_of s p out) into) ≡ damaged field start p
    damage_stays = damaged-alike s p out passed other same

-- (e) two packets that pass under the same templates, each with its own lists, and differ after lowering, never make the same datagram
pub never_the_same : (s t : State) (p q out into : List ℕ) → t.templates ≡ s.templates → Passes s p out → Passes t q into
    → datagram_of s p out ≡ datagram_of t q into → lowered p ≡ lowered q
never_the_same = lowered-apart

-- (f) no more than (e) can be said: two different IPv4 packets of good form, with header checksums 0000 and FFFF, become one once lowered
pub twins : Twins
twins = twins-one

-- ---- The whole way: two ends whose lists went both ways mirror, whatever they held before; a packet that one passes comes out at the other
pub ends_mirror : {near far near' far' : List ℕ} → Exchanged near far near' far' → sound_state (state_in near) ≡ true → sound_state (state_in far) ≡ true
    → Mirrors (state_in near') (state_in far') × ((state_in near').templates ≡ (state_in near).templates) × ((state_in far').templates ≡ (state_in far).templates)
ends_mirror = exchanged_mirror

pub the_whole_way : {near far near' far' : List ℕ} → Exchanged near far near' far' → sound_state (state_in near) ≡ true → sound_state (state_in far) ≡ true
    → (state_in far).templates ≡ (state_in near).templates → (p out : List ℕ) → Passes (state_in near') p out → (into : List ℕ) → receive_room ≤ length into
    → TakesIn (state_in far') (datagram_of (state_in near') p out) into (lowered p)
the_whole_way = whole_way

-- for two fresh ends, whose words are all 0
pub fresh-ends : {near' far' : List ℕ} → Exchanged (replicate state_words 0) (replicate state_words 0) near' far'
    → (p out : List ℕ) → Passes (state_in near') p out → (into : List ℕ) → receive_room ≤ length into
    → TakesIn (state_in far') (datagram_of (state_in near') p out) into (lowered p)
fresh-ends e = whole_way e fresh-sound fresh-sound refl

-- ---- One plan has exactly one file

-- reading the file of sound templates gives them
pub file_is_read : (ts : List Template) → sound_templates ts ≡ true → plan_in (plan_bytes ts) ≡ found ts []
file_is_read = Encoded.read-written

-- the file of what was read is the file
pub read_is_file : (s : List ℕ) (ts : List Template) (rest : List ℕ) → Bytes s → plan_in s ≡ found ts rest → plan_bytes ts ≡ s
read_is_file s ts rest h e = written_read s h e

-- what was read keeps the rules, and the words that reading makes mean it
pub read-plan_sound : (s : List ℕ) (ts : List Template) (rest : List ℕ) → Bytes s → plan_in s ≡ found ts rest
    → (sound_templates ts ≡ true) × (templates_of (pack_table ts) ≡ ts)
read-plan_sound s ts rest h e = (read-sound s h e, read_means s h e)

-- two sound lists of templates with the same file are the same; a list fixes its file, since the file is a function of it
pub one-file : (ts us : List Template) → sound_templates ts ≡ true → sound_templates us ≡ true → plan_bytes ts ≡ plan_bytes us → ts ≡ us
one-file = Encoded.same-file
