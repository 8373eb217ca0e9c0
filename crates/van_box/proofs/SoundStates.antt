-- A record leaves a sound state and a sound store sound, so that a program that starts with fresh ones never holds broken ones. Assumes nothing.
use Rattle.std.proofs.Common.{Result, Ok, Err}
use Prim.Native.Nat.{ℕ, zero, suc, ◌+◌, ◌-◌, ◌<◌, ◌≤◌}
use mathlib.Core.Bool.{Bool, true, false}
use mathlib.Core.Path.{◌≡◌, refl, sym, ap, ◌∙◌}
use mathlib.Core.List.{List, []}
use native.Mathlib.Omega.{arith}
use lib.Dec.{ltb, eqb}
use lib.ListN.{length, get_or, drop, replicate, length-replicate}
use lib.Seq.{get_or-drop, get_or-take}
use Rattle.answer.specs.declared.Refusal.{Refusal}
use Rattle.answer.specs.Choice.{pick}
use Rattle.answer.specs.Verdict.{kept}
use Rattle.octets.specs.Big.{Bytes}
use Rattle.octets.specs.Parts.{part, with_part}
use Rattle.octets.proofs.BigLaws.{bytes_take, bytes_drop}
use Rattle.octets.proofs.Parts.{length_with_part, part-after}
use Rattle.varint.specs.Numbers.{read_number}
use Rattle.lists.specs.Words.{address_words, route_words, pack_entries, pack_ranges, sound_addresses, sound_routes, entries_of, ranges_of}
use Rattle.lists.proofs.Packing.{length_pack_entries, length_pack_ranges}
use Rattle.capsule.specs.Elements.{parsed_verdict}
use Rattle.capsule.specs.Heads.{head_of}
use Rattle.capsule.specs.Capsules.{entries_in, ranges_in, frame_of}
use Rattle.capsule_write.specs.Verdicts.{capsule_room}
use Rattle.policy.specs.Granted.{sound_side}
use Rattle.table.specs.Templates.{Template}
use Rattle.table.specs.Rules.{plan_fault, sound_templates}
use Rattle.table.specs.Words.{table_words, pack_table, templates_of}
use Rattle.table.specs.File.{Step, stop, found, plan_in}
use Rattle.table.proofs.SoundCases.{sound-ok}
use Rattle.table.proofs.Packed.{read-sound, bytes_zero}
use Rattle.state.specs.State.{sound_state, given_at, table_at, store_at, store_words, state_words, state_in}
use Rattle.state.specs.Loading.{with_templates}
use Rattle.state.proofs.LoadLaws.{length_table, load_keeps_sound}
use Rattle.exchange.specs.Writing.{ready, give_addresses, give_routes, entries_taken, ranges_taken}
use Rattle.exchange.proofs.WriteLaws.{assign_value_keeps_sound, advertise_value_keeps_sound}
use Rattle.stream.specs.Store.{Said, out, clean, wait, no, to_skip, sound_store}
use Rattle.stream.specs.Feeding.{kept_size, fed}
use Rattle.stream.specs.Handing.{hand_verdict}
use Rattle.stream.proofs.FeedLaws.{next-ready}
use Rattle.van_box.specs.Records.{stream_kind, plan_kind, assign_kind, advertise_kind, request_kind, packet_kind, datagram_kind}
use Rattle.van_box.specs.Records.{Memory, memory, Outcome, leaving, beside, plan_outcome, assign_outcome, advertise_outcome}
use Rattle.van_box.specs.Records.{step_of, stepped, behind, capsules, stream_outcome, outcome, sent_answer, received_answer, request_answer}
use Rattle.van_box.specs.Outgoing.{unknown_answer}
use Rattle.van_box.specs.Sizes.{record_head}
use Rattle.van_box.specs.Incoming.{record_size}
use Rattle.van_box.specs.Passing.{Sound, Passed, none, more}

pub fresh : Sound (memory (replicate state_words 0) (replicate kept_size 0))
unfolding sound_state sound_side sound_addresses sound_routes sound_templates plan_fault entries_of ranges_of templates_of sound_store to_skip frame_of head_of read_number
fresh =
    record {
      lent = record { words = length-replicate {A = ℕ} state_words 0; memory = length-replicate {A = ℕ} kept_size 0; bytes = bytes_zero kept_size };
      lists = refl;
      store = refl;
    }

-- ---- the stream

behind-sound : (next : Memory → List ℕ → Outcome Memory) → ((m : Memory) (s : List ℕ) → Bytes s → Sound m → Sound (next m s).left)
    → (s : List ℕ) → Bytes s → (m : Memory) (n : ℕ) → Sound m → (x : Said) → Sound (behind next s m n x).left
behind-sound next h s b m n k (out c) = of (ltb n (length s))
  where
    of : (b : Bool) → Sound (pick b (next m (drop n s)) (leaving [] m)).left
    of true = h m (drop n s) (bytes_drop n s b) k
    of false = k
behind-sound next h s b m n k clean = k
behind-sound next h s b m n k wait = k
behind-sound next h s b m n k (no r) = k

step-sound : (m : Memory) (s : List ℕ) → Bytes s → Sound m → Sound (stepped m s).memory
unfolding stepped
step-sound m s b k = of (hand_verdict m.state m.bytes capsule_room)
  where
    of : (v : Result Unit Refusal) → Sound (step_of v m (fed m.state m.bytes s)).memory
    of (Ok _) = next-ready k s b
    of (Err r) = k

capsules-sound : (fuel : ℕ) (m : Memory) (s : List ℕ) → Bytes s → Sound m → Sound (capsules fuel m s).left
unfolding capsules
capsules-sound zero m s b k = k
capsules-sound (suc fuel) m s b k =
    behind-sound (capsules fuel) (capsules-sound fuel) s b (stepped m s).memory (stepped m s).taken (step-sound m s b k) (stepped m s).said

-- ---- words beside the store

pub record Beside (w later : List ℕ) : Type 0 where
  pub size : length later ≡ length w
  pub store : part later store_at store_words ≡ part w store_at store_words

word-beside : {w later : List ℕ} → Beside w later → (i : ℕ) → i < store_words → get_or later (store_at + i) 0 ≡ get_or w (store_at + i) 0
word-beside {w} {later} t i h =
    sym (get_or-drop store_at later i 0)
    ∙ sym (get_or-take store_words (drop store_at later) i 0 h)
    ∙ ap (λ (l : List ℕ). get_or l i 0) t.store
    ∙ get_or-take store_words (drop store_at w) i 0 h
    ∙ get_or-drop store_at w i 0

sound-beside : {w later held : List ℕ} → Sound (memory w held) → Beside w later → sound_state (state_in later) ≡ true → Sound (memory later held)
sound-beside {w} {later} {held} k t s =
    let a : get_or later store_at 0 ≡ get_or w store_at 0 = word-beside t 0 (omega arith) in
    let b : get_or later (store_at + 1) 0 ≡ get_or w (store_at + 1) 0 = word-beside t 1 (omega arith) in
    let c : get_or later (store_at + 2) 0 ≡ get_or w (store_at + 2) 0 = word-beside t 2 (omega arith) in
    record {
      lent = record { words = t.size ∙ k.lent.words; memory = k.lent.memory; bytes = k.lent.bytes };
      lists = s;
      store = rw (a, b, c) k.store;
    }

part-beside : (w v : List ℕ) (a n : ℕ) → length w ≡ state_words → length v ≡ n → a + n ≤ store_at → Beside w (with_part w a (a + n) v)
part-beside w v a n l s h =
    let e : a + n ≤ length w = omega arith in
    record { size = length_with_part w a n v s e; store = part-after w a n v s e store_at store_words h }

kept-beside : (v : Result Unit Refusal) (new w : List ℕ) → Beside w new → Beside w (kept v new w)
kept-beside (Ok _) new w t = t
kept-beside (Err r) new w t = record { size = refl; store = refl }

-- ---- a plan file, a list

loaded-beside : (file w : List ℕ) → Bytes file → length w ≡ state_words → (x : Step (List Template)) → plan_in file ≡ x → Beside w (with_templates x w)
loaded-beside file w b n (stop r) e = record { size = refl; store = refl }
loaded-beside file w b n (found ts rest) e =
    part-beside w (pack_table ts) table_at table_words n (length_table ts (sound-ok ts (read-sound file b e))) (omega arith)

module _ (w held v : List ℕ) (k : Sound (memory w held)) where
  abbrev Leaves : Outcome (List ℕ) → Type 0
  Leaves x = Sound (memory x.left held)

  wide : state_words ≤ length w
  wide = omega (arith, k.lent.words)

  plan-sound : Bytes v → Leaves (plan_outcome w v)
  unfolding plan_outcome
  plan-sound b =
      sound-beside k (loaded-beside v w b k.lent.words (plan_in v) refl)
      (load_keeps_sound v w (with_templates (plan_in v) w) (record { verdict = refl; words = refl }) b wide k.lists)

  -- an output of the room that the definition speaks of
  abbrev room : List ℕ
  room = replicate capsule_room 0

  assign-sound : Leaves (assign_outcome w v)
  unfolding assign_outcome
  assign-sound =
      sound-beside k
      (kept-beside (ready capsule_room w (parsed_verdict (entries_in false v))) (give_addresses w (pack_entries (entries_taken v))) w
      (part-beside w (pack_entries (entries_taken v)) given_at address_words k.lent.words (length_pack_entries (entries_taken v)) (omega arith)))
      (rw (length-replicate {A = ℕ} capsule_room 0) at (
      assign_value_keeps_sound w v room wide (record { writes = record { answer = refl; output = refl }; state = refl }) k.lists))

  advertise-sound : Leaves (advertise_outcome w v)
  unfolding advertise_outcome
  advertise-sound =
      sound-beside k
      (kept-beside (ready capsule_room w (parsed_verdict (ranges_in v))) (give_routes w (pack_ranges (ranges_taken v))) w
      (part-beside w (pack_ranges (ranges_taken v)) (given_at + address_words) route_words k.lent.words (length_pack_ranges (ranges_taken v)) (omega arith)))
      (rw (length-replicate {A = ℕ} capsule_room 0) at (
      advertise_value_keeps_sound w v room wide (record { writes = record { answer = refl; output = refl }; state = refl }) k.lists))

-- ---- any record

pick-sound : (b : Bool) (x y : Outcome Memory) → Sound x.left → Sound y.left → Sound (pick b x y).left
pick-sound true x y k l = k
pick-sound false x y k l = l

pub outcome-sound : (kind : ℕ) (m : Memory) (s : List ℕ) → Bytes s → Sound m → Sound (outcome kind m s).left
unfolding outcome
outcome-sound kind m s b k =
    let w = m.state in
    let held = m.bytes in
    pick-sound (eqb kind stream_kind) (stream_outcome m s) _ (capsules-sound (suc (length s)) m s b k)
    (pick-sound (eqb kind plan_kind) (beside held (plan_outcome w s)) _ (plan-sound w held s k b)
    (pick-sound (eqb kind assign_kind) (beside held (assign_outcome w s)) _ (assign-sound w held s k)
    (pick-sound (eqb kind advertise_kind) (beside held (advertise_outcome w s)) _ (advertise-sound w held s k)
    (pick-sound (eqb kind request_kind) (leaving (request_answer s) m) _ k
    (pick-sound (eqb kind packet_kind) (leaving (sent_answer w s) m) _ k
    (pick-sound (eqb kind datagram_kind) (leaving (received_answer w s) m) (leaving unknown_answer m) k k))))))

-- ---- records one after the other
pub passed-sound : {m : Memory} {s : List ℕ} → Bytes s → Sound m → {x : Memory} {a : List ℕ} {at : ℕ} → Passed m s at a x → Sound x
passed-sound b k none = k
passed-sound {s = s} b k (more {at} {x = y} t h) =
    outcome-sound (get_or (drop at s) 0 0) y (part (drop at s) record_head (record_size (drop at s) - record_head))
    (bytes_take (record_size (drop at s) - record_head) (drop record_head (drop at s)) (bytes_drop record_head (drop at s) (bytes_drop at s b)))
    (passed-sound b k t)
