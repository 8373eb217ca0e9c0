-- Calls, computed.
use Rattle.std.specs.Prelude.{ℕ, ◌-◌, ◌^◌, ◌≡◌, refl, true, false, List, [], ◌∷◌, replicate, Ok, Err}
use Rattle.answer.specs.declared.Refusal.TheVariants.{TooLong, BadRequestId, BrokenState, NoRoom}
use Rattle.varint.specs.Numbers.{read_number}
use Rattle.capsule.specs.Elements.{parse, elements_in}
use Rattle.capsule.specs.Heads.{head_of}
use Rattle.capsule.specs.Capsules.{max_value, datagram, assign, unknown, frame_of, read_value, read_capsule}
use Rattle.policy.specs.Granted.{sound_side}
use Rattle.lists.specs.Words.{entries_of, ranges_of, sound_addresses, sound_routes}
use Rattle.table.specs.Rules.{plan_fault, sound_templates}
use Rattle.table.specs.Words.{templates_of}
use Rattle.state.specs.State.{state_words, sound_state}
use Rattle.stream.specs.Store.{Store, empty, to_skip, sound_store, out, clean, wait, remembers, says, feed_store}
use Rattle.stream.specs.Feeding.{kept_size, store_in, feed_tests, feed_verdict}

-- a store with these bytes of an open capsule
holding : List ℕ → Store
holding s = record { kept = s; skip = 0; stopped = (Ok tt) }

-- so many bytes of a skipped value are still to come
skipping : ℕ → Store
skipping n = record { kept = []; skip = n; stopped = (Ok tt) }

-- ---- cut anywhere

-- a DATAGRAM cut in its value, and its last byte with one more, which is not taken
cut_in_value : feed_store empty (0x00 ∷ 0x03 ∷ 0x45 ∷ 0x00 ∷ []) ≡ record { said = wait; taken = 4; store = holding (0x00 ∷ 0x03 ∷ 0x45 ∷ 0x00 ∷ []) }
unfolding feed_store read_capsule frame_of read_number read_value to_skip head_of holding
cut_in_value = refl

ended : feed_store (holding (0x00 ∷ 0x03 ∷ 0x45 ∷ 0x00 ∷ [])) (0x21 ∷ 0x01 ∷ []) ≡ record { said = out (datagram (0x45 ∷ 0x00 ∷ 0x21 ∷ [])); taken = 1; store = empty }
unfolding feed_store read_capsule frame_of read_number read_value to_skip head_of holding
ended = refl

-- in its length of two bytes, and in a type of eight
cut_in_length : feed_store empty (0x00 ∷ 0x40 ∷ []) ≡ record { said = wait; taken = 2; store = holding (0x00 ∷ 0x40 ∷ []) }
unfolding feed_store read_capsule frame_of read_number read_value to_skip head_of holding
cut_in_length = refl

cut_in_type : feed_store (holding (0xc0 ∷ 0x00 ∷ [])) (0x00 ∷ []) ≡ record { said = wait; taken = 1; store = holding (0xc0 ∷ 0x00 ∷ 0x00 ∷ []) }
unfolding feed_store read_capsule frame_of read_number read_value to_skip head_of holding
cut_in_type = refl

-- an empty list, all there, and a byte of the next capsule
whole : feed_store empty (0x01 ∷ 0x00 ∷ 0x00 ∷ []) ≡ record { said = out (assign []); taken = 2; store = empty }
unfolding feed_store read_capsule frame_of read_number read_value elements_in parse to_skip head_of
whole = refl

-- ---- nothing given: 0 between capsules, 1 in one
between : feed_store empty [] ≡ record { said = clean; taken = 0; store = empty }
unfolding feed_store read_capsule frame_of read_number read_value to_skip head_of
between = refl

inside : feed_store (holding (0x00 ∷ [])) [] ≡ record { said = wait; taken = 0; store = holding (0x00 ∷ []) }
unfolding feed_store read_capsule frame_of read_number read_value to_skip head_of holding
inside = refl

-- ---- a type that is skipped, of 1,024 bytes: only how many are still to come is kept
skip-starts : feed_store empty (0x21 ∷ 0x44 ∷ 0x00 ∷ 0xaa ∷ []) ≡ record { said = wait; taken = 4; store = skipping 1023 }
unfolding feed_store read_capsule frame_of read_number read_value to_skip head_of skipping
skip-starts = refl

skip_goes_on : feed_store (skipping 1023) (replicate 1000 0xaa) ≡ record { said = wait; taken = 1000; store = skipping 23 }
unfolding feed_store skipping
skip_goes_on = refl

skip-ends : feed_store (skipping 23) (replicate 24 0xaa) ≡ record { said = out unknown; taken = 23; store = empty }
unfolding feed_store skipping
skip-ends = refl

-- the largest length
longest : feed_store empty (0x21 ∷ 0xff ∷ 0xff ∷ 0xff ∷ 0xff ∷ 0xff ∷ 0xff ∷ 0xff ∷ 0xff ∷ []) ≡ record { said = wait; taken = 9; store = skipping (2 ^ 62 - 1) }
unfolding feed_store read_capsule frame_of read_number read_value to_skip head_of skipping
longest = refl

-- ---- refusals

-- 16,385 bytes of a DATAGRAM: 2, found at the length; 16,384 are waited for
cut_length : Store
cut_length = holding (0x00 ∷ 0x80 ∷ 0x00 ∷ 0x40 ∷ [])

too_long : feed_store cut_length (0x01 ∷ []) ≡ remembers cut_length TooLong
unfolding feed_store read_capsule frame_of read_number read_value to_skip head_of holding cut_length
too_long = refl

longest-value : feed_store cut_length (0x00 ∷ []) ≡ record { said = wait; taken = 1; store = holding (0x00 ∷ 0x80 ∷ 0x00 ∷ 0x40 ∷ 0x00 ∷ []) }
unfolding feed_store read_capsule frame_of read_number read_value to_skip head_of holding cut_length
longest-value = refl

-- an empty request, and every call after it
refused : feed_store (holding (0x02 ∷ [])) (0x00 ∷ 0x00 ∷ []) ≡ remembers (holding (0x02 ∷ [])) BadRequestId
unfolding feed_store read_capsule frame_of read_number read_value elements_in parse to_skip head_of holding
refused = refl

stopped : Store
stopped = record { kept = 0x02 ∷ []; skip = 0; stopped = Err BadRequestId }

repeated : feed_store stopped (0x00 ∷ 0x00 ∷ []) ≡ says stopped BadRequestId
unfolding feed_store stopped
repeated = refl

-- ---- the rules of a store
sound : sound_store (holding (0x00 ∷ 0x03 ∷ 0x45 ∷ [])) ≡ true
unfolding sound_store frame_of read_number to_skip head_of holding
sound = refl

-- a capsule that is all there, a skipped type, and a remembered 9 are never kept
all_there : sound_store (holding (0x00 ∷ 0x01 ∷ 0x45 ∷ [])) ≡ false
unfolding sound_store frame_of read_number to_skip head_of holding
all_there = refl

skipped-kept : sound_store (holding (0x21 ∷ 0x03 ∷ 0x45 ∷ [])) ≡ false
unfolding sound_store frame_of read_number to_skip head_of holding
skipped-kept = refl

nine_kept : sound_store (record { kept = []; skip = 0; stopped = Err BrokenState }) ≡ false
unfolding sound_store frame_of read_number to_skip head_of
nine_kept = refl

-- ---- the bytes that are lent beside the state
kept-size : kept_size ≡ 16400
kept-size = refl

-- ---- a new state, whose words are all 0: too small an output comes first
fresh : List ℕ
fresh = replicate state_words 0

fresh-store : store_in fresh (replicate kept_size 0xff) ≡ empty
unfolding fresh
fresh-store = refl

no_room : feed_verdict fresh (replicate kept_size 0) (max_value - 1) ≡ Err NoRoom
unfolding feed_tests fresh
no_room = refl

room : feed_verdict fresh (replicate kept_size 0) max_value ≡ Ok tt
unfolding feed_tests sound_state sound_side sound_addresses sound_routes sound_templates plan_fault entries_of ranges_of templates_of sound_store frame_of read_number to_skip head_of fresh
room = refl
