-- Records and their answers in the memory of a new tunnel, computed.
use Rattle.std.specs.Prelude.{ℕ, ◌≡◌, refl, List, [], ◌∷◌, replicate, take, Ok}
use Rattle.varint.specs.Numbers.{encode, read_number}
use Rattle.inet.specs.Packet.{form, form4, fixed6, form6}
use Rattle.lists.specs.Rules.{sound_entry}
use Rattle.lists.specs.Words.{entries_of, ranges_of, sound_addresses, sound_routes}
use Rattle.capsule.specs.Elements.{parse, elements_in}
use Rattle.capsule.specs.Entries.{read_body, read_entry, entry_bytes, entry_follows}
use Rattle.capsule.specs.Heads.{head_of}
use Rattle.capsule.specs.Capsules.{capsule_bytes, entries_in, frame_of, read_value, read_capsule}
use Rattle.capsule_write.specs.Verdicts.{with_room}
use Rattle.policy.specs.Granted.{sound_side}
use Rattle.table.specs.File.{bytes_in, plan_in}
use Rattle.table.specs.Load.{plan_read}
use Rattle.table.specs.Rules.{plan_fault, sound_templates}
use Rattle.table.specs.Words.{templates_of}
use Rattle.state.specs.State.{state_words, sound_state}
use Rattle.stream.specs.Store.{to_skip, sound_store, feed_store}
use Rattle.stream.specs.Feeding.{kept_size, feed_tests}
use Rattle.template.specs.Datagrams.{opened}
use Rattle.tunnel.specs.Tunnel.{send_tests, send_verdict, receive_tests, receive_verdict}
use Rattle.van_box.specs.Incoming.{record_size}
use Rattle.van_box.specs.Outgoing.{answer_bytes}
use Rattle.van_box.specs.Records.{stream_kind, plan_kind, request_kind, packet_kind, datagram_kind}
use Rattle.van_box.specs.Records.{Memory, memory, leaving, sent_answer, received_answer, request_answer, plan_outcome, stepped, capsules, outcome}

fresh : Memory
fresh = memory (replicate state_words 0) (replicate kept_size 0)

-- ---- heads

-- a T of 2 bytes, and a byte of the next record
whole_record : record_size (0x54 ∷ 0x00 ∷ 0x02 ∷ 0x45 ∷ 0x00 ∷ 0x44 ∷ []) ≡ 5
unfolding record_size
whole_record = refl

cut_record : record_size (0x54 ∷ 0x00 ∷ 0x02 ∷ 0x45 ∷ []) ≡ 0
unfolding record_size
cut_record = refl

-- 258 bytes
long-answer : take 4 (answer_bytes packet_kind (Ok tt) (replicate 258 7)) ≡ 0x54 ∷ 0x00 ∷ 0x01 ∷ 0x02 ∷ []
long-answer = refl

-- ---- the stream

-- a DATAGRAM, and a capsule of another type
two-capsules : outcome stream_kind fresh (0x00 ∷ 0x02 ∷ 0x00 ∷ 0x45 ∷ 0x21 ∷ 0x00 ∷ [])
    ≡ leaving (0x43 ∷ 0x00 ∷ 0x00 ∷ 0x02 ∷ 0x00 ∷ 0x45 ∷ 0x43 ∷ 0x00 ∷ 0x00 ∷ 0x00 ∷ []) fresh
unfolding outcome capsules stepped feed_tests sound_state sound_side sound_addresses sound_routes sound_templates plan_fault entries_of ranges_of templates_of sound_store to_skip head_of feed_store read_capsule frame_of read_number read_value fresh
two-capsules = refl

-- the answers of records one after the other
streamed : Memory → List (List ℕ) → List (List ℕ)
streamed m [] = []
streamed m (s ∷ ss) = (outcome stream_kind m s).answers ∷ streamed (outcome stream_kind m s).left ss

-- a DATAGRAM that is cut in its length and in its value
cut-capsule : streamed fresh ((0x00 ∷ 0x40 ∷ []) ∷ (0x02 ∷ 0x00 ∷ []) ∷ (0x45 ∷ []) ∷ [])
    ≡ (0x43 ∷ 0x01 ∷ 0x00 ∷ 0x00 ∷ []) ∷ (0x43 ∷ 0x01 ∷ 0x00 ∷ 0x00 ∷ []) ∷ (0x43 ∷ 0x00 ∷ 0x00 ∷ 0x02 ∷ 0x00 ∷ 0x45 ∷ []) ∷ []
unfolding streamed outcome capsules stepped feed_tests sound_state sound_side sound_addresses sound_routes sound_templates plan_fault entries_of ranges_of templates_of sound_store to_skip head_of feed_store read_capsule frame_of read_number read_value fresh
cut-capsule = refl

-- no bytes, between capsules and in one
no_bytes : streamed fresh ([] ∷ (0x00 ∷ []) ∷ [] ∷ (0x00 ∷ []) ∷ [] ∷ [])
    ≡ (0x43 ∷ 0x00 ∷ 0x00 ∷ 0x00 ∷ []) ∷ (0x43 ∷ 0x01 ∷ 0x00 ∷ 0x00 ∷ []) ∷ (0x43 ∷ 0x01 ∷ 0x00 ∷ 0x00 ∷ []) ∷ (0x43 ∷ 0x00 ∷ 0x00 ∷ 0x00 ∷ [])
    ∷ (0x43 ∷ 0x00 ∷ 0x00 ∷ 0x00 ∷ []) ∷ []
unfolding streamed outcome capsules stepped feed_tests sound_state sound_side sound_addresses sound_routes sound_templates plan_fault entries_of ranges_of templates_of sound_store to_skip head_of feed_store read_capsule frame_of read_number read_value fresh
no_bytes = refl

-- a capsule of another type over two records; the first byte of a third capsule follows it
cut-skipped : streamed fresh ((0x21 ∷ 0x03 ∷ 0x61 ∷ []) ∷ (0x62 ∷ 0x63 ∷ 0x00 ∷ []) ∷ [])
    ≡ (0x43 ∷ 0x01 ∷ 0x00 ∷ 0x00 ∷ []) ∷ (0x43 ∷ 0x00 ∷ 0x00 ∷ 0x00 ∷ 0x43 ∷ 0x01 ∷ 0x00 ∷ 0x00 ∷ []) ∷ []
unfolding streamed outcome capsules stepped feed_tests sound_state sound_side sound_addresses sound_routes sound_templates plan_fault entries_of ranges_of templates_of sound_store to_skip head_of feed_store read_capsule frame_of read_number read_value fresh
cut-skipped = refl

-- an empty request, and a DATAGRAM that is dropped; the refusal is repeated, also where no bytes are given
refusal-repeated : streamed fresh ((0x02 ∷ 0x00 ∷ 0x00 ∷ 0x00 ∷ []) ∷ [] ∷ (0x00 ∷ 0x00 ∷ []) ∷ [])
    ≡ (0x43 ∷ 0x06 ∷ 0x00 ∷ 0x00 ∷ []) ∷ (0x43 ∷ 0x06 ∷ 0x00 ∷ 0x00 ∷ []) ∷ (0x43 ∷ 0x06 ∷ 0x00 ∷ 0x00 ∷ []) ∷ []
unfolding streamed outcome capsules stepped feed_tests sound_state sound_side sound_addresses sound_routes sound_templates plan_fault entries_of ranges_of templates_of sound_store to_skip head_of feed_store read_capsule frame_of read_number read_value elements_in parse fresh
refusal-repeated = refl

-- ---- the other kinds

-- 192.0.2.3/32 with the ID 5
requested : outcome request_kind fresh (0x05 ∷ 0x04 ∷ 0xc0 ∷ 0x00 ∷ 0x02 ∷ 0x03 ∷ 0x20 ∷ [])
    ≡ leaving (0x51 ∷ 0x00 ∷ 0x00 ∷ 0x09 ∷ 0x02 ∷ 0x07 ∷ 0x05 ∷ 0x04 ∷ 0xc0 ∷ 0x00 ∷ 0x02 ∷ 0x03 ∷ 0x20 ∷ []) fresh
unfolding outcome request_answer with_room entries_in elements_in parse read_entry read_body read_number sound_entry entry_follows capsule_bytes entry_bytes encode fresh
requested = refl

-- no packet is of bad form, and no datagram is cut
no-packet : outcome packet_kind fresh [] ≡ leaving (0x54 ∷ 0x0a ∷ 0x00 ∷ 0x00 ∷ []) fresh
unfolding outcome sent_answer send_verdict send_tests sound_state sound_side sound_addresses sound_routes sound_templates plan_fault entries_of ranges_of templates_of form form4 form6 fixed6 fresh
no-packet = refl

no-datagram : outcome datagram_kind fresh [] ≡ leaving (0x44 ∷ 0x0e ∷ 0x00 ∷ 0x00 ∷ []) fresh
unfolding outcome received_answer receive_verdict receive_tests sound_state sound_side sound_addresses sound_routes sound_templates plan_fault entries_of ranges_of templates_of opened read_number fresh
no-datagram = refl

-- another mark
no-plan : outcome plan_kind fresh (0x56 ∷ 0x41 ∷ 0x4d ∷ []) ≡ leaving (0x50 ∷ 0x14 ∷ 0x00 ∷ 0x00 ∷ []) fresh
unfolding outcome plan_outcome plan_read plan_in bytes_in fresh
no-plan = refl

-- an X
unknown-kind : outcome 0x58 fresh (0x00 ∷ []) ≡ leaving (0x3f ∷ 0x01 ∷ 0x00 ∷ 0x00 ∷ []) fresh
unfolding outcome fresh
unknown-kind = refl
