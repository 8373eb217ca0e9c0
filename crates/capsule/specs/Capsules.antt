-- Capsules on bytes (RFC 9297, section 3.2; RFC 9484, section 4.7): type, length, value.
use Rattle.std.specs.Prelude.{ℕ, zero, suc, ◌+◌, ◌/◌, min, ◌≡◌, refl, Bool, true, false, ◌&&◌, List, [], ◌++◌, leb, ltb, eqb, length, take, drop, Option, Some, None, Result, Ok, Err}
use Rattle.std.proofs.Common.{arith}
use Rattle.answer.specs.declared.Refusal.{Refusal}
use Rattle.answer.specs.declared.Refusal.TheVariants.{Incomplete, TooLong}
use Rattle.answer.specs.Choice.{pick}
use Rattle.varint.specs.declared.Number.{Number}
use Rattle.varint.specs.Numbers.{read_number, encode}
use Rattle.lists.specs.declared.AddressEntry.{AddressEntry}
use Rattle.lists.specs.declared.RouteRange.{RouteRange}
use Rattle.lists.specs.Words.{max_addresses, max_ranges}
use Rattle.capsule.specs.declared.FrameRead.{FrameRead}
use Rattle.capsule.specs.declared.Kind.{Kind}
use Rattle.capsule.specs.declared.Kind.TheVariants.{Datagram, AddressAssign, AddressRequest, RouteAdvertisement, Other}
use Rattle.capsule.specs.Elements.{Parsed, fault, all, elements_in, written}
use Rattle.capsule.specs.Entries.{entry_format, range_format}

-- the most bytes of a value of types 0 to 3
abbrev pub max_value : ℕ
max_value = 16384

-- the fewest bytes of an entry: an ID of one byte, the version, four bytes of address, the prefix
abbrev pub min_entry : ℕ
min_entry = 7

-- the most entries that a value within the limit can hold
abbrev pub max_entries : ℕ
max_entries = max_value / min_entry

pub data Capsule : Type 0 where
  datagram : List ℕ → Capsule
  assign : List AddressEntry → Capsule
  request : List AddressEntry → Capsule
  advertise : List RouteRange → Capsule
  unknown : Capsule

-- 0 to 3 are the types themselves, and 4 is any other type
abbrev pub kind_of : Capsule → ℕ
kind_of (datagram v) = 0
kind_of (assign es) = 1
kind_of (request es) = 2
kind_of (advertise rs) = 3
kind_of unknown = 4

abbrev pub kind_number : Kind → ℕ
kind_number Datagram = 0
kind_number AddressAssign = 1
kind_number AddressRequest = 2
kind_number RouteAdvertisement = 3
kind_number Other = 4

-- the kind of a capsule type
abbrev pub kind_numbered : ℕ → Kind
kind_numbered zero = Datagram
kind_numbered (suc zero) = AddressAssign
kind_numbered (suc (suc zero)) = AddressRequest
kind_numbered (suc (suc (suc zero))) = RouteAdvertisement
kind_numbered (suc (suc (suc (suc n)))) = Other

pub number-numbered : (n : ℕ) → kind_number (kind_numbered n) ≡ min n 4
number-numbered zero = refl
number-numbered (suc zero) = refl
number-numbered (suc (suc zero)) = refl
number-numbered (suc (suc (suc zero))) = refl
number-numbered (suc (suc (suc (suc n)))) = omega arith

-- ---- the frame: where the value of a capsule at the front of s starts and how long it is

abbrev pub frame_read : ℕ → ℕ → ℕ → FrameRead
frame_read kind start size = record { kind = kind; start = start; length = size }

-- the length is tested against the limit before the value is looked for
abbrev pub frame_at : List ℕ → ℕ → ℕ → ℕ → Result FrameRead Refusal
frame_at s kind start size =
    pick (leb kind 3 && ltb max_value size) (Err TooLong)
    (pick (leb (start + size) (length s)) (Ok (frame_read kind start size)) (Err Incomplete))

abbrev pub after_length : List ℕ → ℕ → ℕ → Option Number → Result FrameRead Refusal
after_length s kind n (Some q) = frame_at s kind (n + q.size) q.value
after_length s kind n None = Err Incomplete

abbrev pub after_type : List ℕ → Option Number → Result FrameRead Refusal
after_type s (Some q) = after_length s q.value q.size (read_number (drop q.size s))
after_type s None = Err Incomplete

unfoldable pub frame_of : List ℕ → Result FrameRead Refusal
frame_of s = after_type s (read_number s)

-- ---- the elements of a value: over the limit, then the first fault element by element, then that of the whole list

unfoldable pub entries_in : Bool → List ℕ → Parsed AddressEntry
entries_in asked v = pick (ltb max_value (length v)) (fault TooLong) (elements_in (entry_format asked) asked max_addresses v)

unfoldable pub ranges_in : List ℕ → Parsed RouteRange
ranges_in v = pick (ltb max_value (length v)) (fault TooLong) (elements_in range_format false max_ranges v)

-- ---- what is read: a capsule, where its value starts and how many bytes it took in all; or the refusal
pub data Reading : Type 0 where
  refused : Refusal → Reading
  capsule : Capsule → ℕ → ℕ → Reading

abbrev pub listed : {A : Type 0} → (List A → Capsule) → ℕ → ℕ → Parsed A → Reading
listed c start size (fault r) = refused r
listed c start size (all xs) = capsule (c xs) start size

-- a value v that starts at a place
unfoldable pub read_value : ℕ → List ℕ → ℕ → Reading
read_value kind v start =
    pick (eqb kind 0) (capsule (datagram v) start (start + length v))
    (pick (eqb kind 1) (listed assign start (start + length v) (elements_in (entry_format false) false max_addresses v))
    (pick (eqb kind 2) (listed request start (start + length v) (elements_in (entry_format true) true max_addresses v))
    (pick (eqb kind 3) (listed advertise start (start + length v) (elements_in range_format false max_ranges v))
    (capsule unknown start (start + length v)))))

abbrev pub in_frame : List ℕ → Result FrameRead Refusal → Reading
in_frame s (Ok f) = read_value f.kind (take f.length (drop f.start s)) f.start
in_frame s (Err r) = refused r

-- the capsule at the front of s
unfoldable pub read_capsule : List ℕ → Reading
read_capsule s = in_frame s (frame_of s)

-- ---- a capsule as it is written: all numbers in their shortest form
abbrev pub frame_bytes : ℕ → List ℕ → List ℕ
frame_bytes kind v = encode kind ++ (encode (length v) ++ v)

abbrev pub value_of : Capsule → List ℕ
value_of (datagram v) = v
value_of (assign es) = written (entry_format false) es
value_of (request es) = written (entry_format true) es
value_of (advertise rs) = written range_format rs
value_of unknown = []

-- no capsule of another type is written
unfoldable pub capsule_bytes : Capsule → List ℕ
capsule_bytes c = frame_bytes (kind_of c) (value_of c)
