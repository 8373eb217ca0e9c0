-- The numbers of RFC 9000, appendix A.1, read and written. Each fact here is found by computing.
use Rattle.std.specs.Prelude.{◌^◌, ◌-◌, ◌≡◌, refl, [], ◌∷◌, Some, None}
use Rattle.varint.specs.Numbers.{read_number, encode, number}

eight-bytes : read_number (0xc2 ∷ 0x19 ∷ 0x7c ∷ 0x5e ∷ 0xff ∷ 0x14 ∷ 0xe8 ∷ 0x8c ∷ []) ≡ Some (number 151288809941952652 8)
unfolding read_number
eight-bytes = refl

four_bytes : read_number (0x9d ∷ 0x7f ∷ 0x3e ∷ 0x7d ∷ []) ≡ Some (number 494878333 4)
unfolding read_number
four_bytes = refl

two_bytes : read_number (0x7b ∷ 0xbd ∷ []) ≡ Some (number 15293 2)
unfolding read_number
two_bytes = refl

one_byte : read_number (0x25 ∷ []) ≡ Some (number 37 1)
unfolding read_number
one_byte = refl

-- a longer form is accepted
longer-form : read_number (0x40 ∷ 0x25 ∷ []) ≡ Some (number 37 2)
unfolding read_number
longer-form = refl

cut_short : read_number (0x9d ∷ 0x7f ∷ 0x3e ∷ []) ≡ None
unfolding read_number
cut_short = refl

nothing-there : read_number [] ≡ None
unfolding read_number
nothing-there = refl

eight-written : encode 151288809941952652 ≡ 0xc2 ∷ 0x19 ∷ 0x7c ∷ 0x5e ∷ 0xff ∷ 0x14 ∷ 0xe8 ∷ 0x8c ∷ []
unfolding encode
eight-written = refl

four-written : encode 494878333 ≡ 0x9d ∷ 0x7f ∷ 0x3e ∷ 0x7d ∷ []
unfolding encode
four-written = refl

two-written : encode 15293 ≡ 0x7b ∷ 0xbd ∷ []
unfolding encode
two-written = refl

one_written : encode 37 ≡ 0x25 ∷ []
unfolding encode
one_written = refl

largest-written : encode (2 ^ 62 - 1) ≡ 0xff ∷ 0xff ∷ 0xff ∷ 0xff ∷ 0xff ∷ 0xff ∷ 0xff ∷ 0xff ∷ []
unfolding encode
largest-written = refl
