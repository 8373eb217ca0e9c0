-- What the programs print of bytes, refusals and answers.
use Rattle.std.specs.Prelude.{ℕ, ◌≡◌, ◌<◌, ◌-◌, ◌^◌, List, [], ◌∷◌, ◌++◌, ◌/◌, ◌%◌, false, nat_le, if◌then◌else◌, length, take, flat_map, Result, Ok, Err}
use Rattle.std.specs.Fmt.{decimal, digits, digit_glyph, format_spec, padded_integral}
use Rattle.std.proofs.lemmas.Fmt.{hex_byte}
use Rattle.std.proofs.Common.{lit<, refl}
use lib.Chars.{codes}
use Rattle.answer.specs.declared.Refusal.{Refusal}
use Rattle.answer.specs.Number.{number_of, answer_number, answer_length}

-- what `{:02x}` writes of a byte
abbrev pub hex_pair : ℕ → List ℕ
hex_pair b = padded_integral (format_spec 32 0 4 2 (2 ^ 64 - 1)) false [] (digits 16 false b)

-- two digits
pub hex_pair_digits : (b : ℕ) → b < 256 → hex_pair b ≡ digit_glyph false (b / 16) ∷ digit_glyph false (b % 16) ∷ []
hex_pair_digits = hex_byte false

abbrev pub hex_text : List ℕ → List ℕ
hex_text = flat_map hex_pair

pub hex_text_example : hex_text (0 ∷ 171 ∷ []) ≡ codes "00ab"
hex_text_example = rw (hex_pair_digits 0 (lit< tt), hex_pair_digits 171 (lit< tt)) refl

abbrev pub refused_text : Refusal → List ℕ
refused_text why = codes "refused " ++ decimal (number_of why)

abbrev pub counted_text : Result ℕ Refusal → List ℕ
counted_text a = codes "number " ++ decimal (answer_number a) ++ codes " length " ++ decimal (answer_length a)

-- the first n bytes, if there are so many
abbrev pub front : List ℕ → ℕ → List ℕ
front out n = if nat_le n (length out) then take n out else []

abbrev pub written_text : Result ℕ Refusal → List ℕ → List ℕ
written_text (Ok n) out = hex_text (front out n)
written_text (Err why) out = refused_text why
