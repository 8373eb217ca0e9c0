-- The numbers that the box gives back.
use Rattle.std.specs.Prelude.{ℕ, ◌<◌, ◌≡◌, refl, List, [], ◌∷◌, get_or, Result, Ok, Err}
use Rattle.std.proofs.Common.{sym, ap, ◌∙◌, lit<}
use Rattle.answer.specs.declared.Refusal.{Refusal}
use Rattle.answer.specs.declared.Refusal.TheVariants.{Incomplete, TooLong, BadAddress, BadRange, RangesOutOfOrder, BadRequestId, TooMany}
use Rattle.answer.specs.declared.Refusal.TheVariants.{BrokenState, BadForm, HopLimit, NotGranted, UnknownContext, CutDatagram, PacketTooLong, NoRoom}
use Rattle.answer.specs.declared.Refusal.TheVariants.{PlanMark, PlanVersion, PlanCut, PlanRule, PlanNotShortest, PlanContext}

abbrev pub number_of : Refusal → ℕ
number_of Incomplete = 1
number_of TooLong = 2
number_of BadAddress = 3
number_of BadRange = 4
number_of RangesOutOfOrder = 5
number_of BadRequestId = 6
number_of TooMany = 7
number_of BrokenState = 9
number_of BadForm = 10
number_of HopLimit = 11
number_of NotGranted = 12
number_of UnknownContext = 13
number_of CutDatagram = 14
number_of PacketTooLong = 15
number_of NoRoom = 16
number_of PlanMark = 20
number_of PlanVersion = 21
number_of PlanCut = 22
number_of PlanRule = 23
number_of PlanNotShortest = 24
number_of PlanContext = 25

-- the number of an answer, whatever it gives: 0 is done
abbrev pub answer_number : {A : Type 0} → Result A Refusal → ℕ
answer_number (Ok n) = 0
answer_number (Err r) = number_of r

-- the number of a verdict: 0 is `Ok`
abbrev pub verdict_number : Result Unit Refusal → ℕ
verdict_number v = answer_number v

-- how many bytes an answer says were written: a refusal's length is 0
abbrev pub answer_length : Result ℕ Refusal → ℕ
answer_length (Ok n) = n
answer_length (Err r) = 0

-- the refusals in the order of their numbers, from 1 on; the numbers not in use are filled with the one before
numbered : List Refusal
numbered =
    Incomplete ∷ Incomplete ∷ TooLong ∷ BadAddress ∷ BadRange ∷ RangesOutOfOrder ∷ BadRequestId ∷ TooMany ∷ TooMany ∷ BrokenState
    ∷ BadForm ∷ HopLimit ∷ NotGranted ∷ UnknownContext ∷ CutDatagram ∷ PacketTooLong ∷ NoRoom ∷ NoRoom ∷ NoRoom ∷ NoRoom
    ∷ PlanMark ∷ PlanVersion ∷ PlanCut ∷ PlanRule ∷ PlanNotShortest ∷ PlanContext ∷ []

read_back : (r : Refusal) → get_or numbered (number_of r) Incomplete ≡ r
unfolding numbered
read_back Incomplete = refl
read_back TooLong = refl
read_back BadAddress = refl
read_back BadRange = refl
read_back RangesOutOfOrder = refl
read_back BadRequestId = refl
read_back TooMany = refl
read_back BrokenState = refl
read_back BadForm = refl
read_back HopLimit = refl
read_back NotGranted = refl
read_back UnknownContext = refl
read_back CutDatagram = refl
read_back PacketTooLong = refl
read_back NoRoom = refl
read_back PlanMark = refl
read_back PlanVersion = refl
read_back PlanCut = refl
read_back PlanRule = refl
read_back PlanNotShortest = refl
read_back PlanContext = refl

-- the number tells any two refusals apart
pub number_of_injective : (a b : Refusal) → number_of a ≡ number_of b → a ≡ b
number_of_injective a b e = sym (read_back a) ∙ ap (λ (n : ℕ). get_or numbered n Incomplete) e ∙ read_back b

-- 0 is no refusal's number
pub number_of_positive : (r : Refusal) → 0 < number_of r
number_of_positive Incomplete = lit< tt
number_of_positive TooLong = lit< tt
number_of_positive BadAddress = lit< tt
number_of_positive BadRange = lit< tt
number_of_positive RangesOutOfOrder = lit< tt
number_of_positive BadRequestId = lit< tt
number_of_positive TooMany = lit< tt
number_of_positive BrokenState = lit< tt
number_of_positive BadForm = lit< tt
number_of_positive HopLimit = lit< tt
number_of_positive NotGranted = lit< tt
number_of_positive UnknownContext = lit< tt
number_of_positive CutDatagram = lit< tt
number_of_positive PacketTooLong = lit< tt
number_of_positive NoRoom = lit< tt
number_of_positive PlanMark = lit< tt
number_of_positive PlanVersion = lit< tt
number_of_positive PlanCut = lit< tt
number_of_positive PlanRule = lit< tt
number_of_positive PlanNotShortest = lit< tt
number_of_positive PlanContext = lit< tt
