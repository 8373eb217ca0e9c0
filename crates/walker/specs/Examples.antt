-- Buffers of several capsules, walked.
use Rattle.std.specs.Prelude.{◌≡◌, refl, [], ◌∷◌, Ok, Err}
use Rattle.answer.specs.declared.Refusal.TheVariants.{Incomplete, BadRequestId}
use Rattle.varint.specs.Numbers.{read_number}
use Rattle.capsule.specs.Elements.{elements_in, parse}
use Rattle.capsule.specs.Capsules.{frame_of, read_value, read_capsule}
use Rattle.capsule.specs.Results.{found_at, read_at}
use Rattle.walker.specs.Walk.{walk, refused_at}

-- an empty list, a datagram, a type that is not known, and the end, where the answer stays 1
several : walk 5 (0x01 ∷ 0x00 ∷ 0x00 ∷ 0x03 ∷ 0x00 ∷ 0x45 ∷ 0x00 ∷ 0x21 ∷ 0x02 ∷ 0xaa ∷ 0xbb ∷ []) 0
    ≡ Ok (found_at 0 1 2 0) ∷ Ok (found_at 2 0 2 3) ∷ Ok (found_at 7 4 2 2) ∷ Err (refused_at 11 Incomplete) ∷ Err (refused_at 11 Incomplete) ∷ []
unfolding walk read_at read_capsule frame_of read_number read_value elements_in parse
several = refl

-- a refusal is not passed over: the capsule behind it is not reached
refused-stays : walk 2 (0x02 ∷ 0x00 ∷ 0x01 ∷ 0x00 ∷ []) 0 ≡ Err (refused_at 0 BadRequestId) ∷ Err (refused_at 0 BadRequestId) ∷ []
unfolding walk read_at read_capsule frame_of read_number read_value elements_in parse
refused-stays = refl

-- a place past the end
past_the_end : walk 1 (0x01 ∷ 0x00 ∷ []) 7 ≡ Err (refused_at 7 Incomplete) ∷ []
unfolding walk read_at read_capsule frame_of read_number read_value
past_the_end = refl
