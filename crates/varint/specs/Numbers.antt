-- QUIC numbers (RFC 9000, section 16) on byte lists.
use Rattle.std.specs.Prelude.{ℕ, ◌+◌, ◌-◌, ◌*◌, ◌/◌, ◌%◌, ◌^◌, ◌<◌, ◌≡◌, Bool, List, [], ◌∷◌, length, get_or, take, drop, ltb, leb, eqb, Result, Option, Some, None}
use Rattle.answer.specs.declared.Refusal.{Refusal}
use Rattle.answer.specs.declared.Refusal.TheVariants.{Incomplete, BadAddress, NoRoom}
use Rattle.answer.specs.Choice.{pick}
use Rattle.answer.specs.Number.{number_of}
use Rattle.answer.specs.Verdict.{Test, ◌⇒◌, first_of}
use Rattle.octets.specs.Big.{big_from, digits}
use Rattle.varint.specs.declared.Number.{Number}

-- the first value that no form holds, and the least output that a number is written to
abbrev pub limit : ℕ
limit = 2 ^ 62

abbrev pub room : ℕ
room = 8

-- the top two bits of the first byte choose 1, 2, 4 or 8 bytes
abbrev pub form_size : List ℕ → ℕ
form_size s = 2 ^ (get_or s 0 0 / 64)

-- a number and how many bytes it took
abbrev pub number : ℕ → ℕ → Number
number v n = record { value = v; size = n }

-- the number at the front of s: what is left of the first byte and the bytes after it, big-endian; none where not all are there
unfoldable pub read_number : List ℕ → Option Number
read_number s =
    pick (leb (form_size s) (length s)) (Some (number (big_from (get_or s 0 0 % 64) (take (form_size s - 1) (drop 1 s))) (form_size s))) None

-- the value of a reading, 0 where there is none
abbrev pub value_in : Option Number → ℕ
value_in (Some q) = q.value
value_in None = 0

-- what reading answers; of bytes a value below the limit
pub record Read (s : List ℕ) (r : Option Number) : Type 0 where
  pub reading : r ≡ read_number s
  pub below : value_in r < limit

-- the number that a reading by itself gives back
abbrev pub reading_number : Option Number → ℕ
reading_number (Some q) = 0
reading_number None = number_of Incomplete

-- the shortest form of v, which is below the limit
unfoldable pub encode : ℕ → List ℕ
encode v =
    pick (ltb v (2 ^ 6)) (digits 1 v)
    (pick (ltb v (2 ^ 14)) (digits 2 (2 ^ 14 + v)) (pick (ltb v (2 ^ 30)) (digits 4 (2 ^ 31 + v)) (digits 8 (3 * 2 ^ 62 + v))))

unfoldable pub encoded_size : ℕ → ℕ
encoded_size v = length (encode v)

-- a value that took n bytes took no more than it had to
abbrev pub shortest : ℕ → ℕ → Bool
shortest v n = eqb n (encoded_size v)

-- the reasons not to write a number: the first that holds counts
unfoldable pub write_tests : ℕ → ℕ → List Test
write_tests v n = (ltb n room ⇒ NoRoom) ∷ (leb limit v ⇒ BadAddress) ∷ []

unfoldable pub write_verdict : ℕ → ℕ → Result Unit Refusal
write_verdict v n = first_of (write_tests v n)
