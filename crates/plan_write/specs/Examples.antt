-- Templates as they are written, and templates that are not, computed.
use Rattle.std.specs.Prelude.{ℕ, ◌≡◌, refl, List, [], ◌∷◌, Ok, Err}
use Rattle.answer.specs.declared.Refusal.TheVariants.{NoRoom, PlanRule, PlanContext}
use Rattle.varint.specs.Numbers.{encode}
use Rattle.table.specs.Templates.{Template, sum_at}
use Rattle.table.specs.Rules.{plan_room, template_fault, plan_fault, plan_verdict}
use Rattle.table.specs.File.{plan_bytes}

-- the first two bytes of a packet are static, and its checksum is completed
plan : ℕ → ℕ → List Template
plan id field = record { id = id; pieces = record { offset = 0; bytes = 0x45 ∷ 0x00 ∷ [] } ∷ []; sum = sum_at field 20 } ∷ []

-- a field at 100 takes two bytes
file-bytes : plan_bytes (plan 2 100)
    ≡ 0x56 ∷ 0x41 ∷ 0x4E ∷ 0x00 ∷ 0x01 ∷ 0x01 ∷ 0x02 ∷ 0x01 ∷ 0x00 ∷ 0x02 ∷ 0x45 ∷ 0x00 ∷ 0x01 ∷ 0x40 ∷ 0x64 ∷ 0x14 ∷ []
unfolding plan_bytes encode plan
file-bytes = refl

no-template_bytes : plan_bytes [] ≡ 0x56 ∷ 0x41 ∷ 0x4E ∷ 0x00 ∷ 0x01 ∷ 0x00 ∷ []
unfolding plan_bytes
no-template_bytes = refl

goes : plan_verdict (plan 2 100) plan_room ≡ Ok tt
unfolding plan_verdict plan_fault template_fault plan
goes = refl

-- ---- refused

one_byte_less : plan_verdict (plan 2 100) 1399 ≡ Err NoRoom
unfolding plan_verdict
one_byte_less = refl

-- the room is tested before the plan
room-first : plan_verdict (plan 0 100) 1399 ≡ Err NoRoom
unfolding plan_verdict
room-first = refl

zero_id : plan_verdict (plan 0 100) plan_room ≡ Err PlanContext
unfolding plan_verdict plan_fault template_fault plan
zero_id = refl

odd_field : plan_verdict (plan 2 101) plan_room ≡ Err PlanRule
unfolding plan_verdict plan_fault template_fault plan
odd_field = refl
