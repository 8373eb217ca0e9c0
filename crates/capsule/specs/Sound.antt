-- Capsules that keep the rules, by their parts.
use Rattle.std.specs.Prelude.{ℕ, ◌+◌, ◌^◌, ◌≤◌, ◌≡◌, Bool, true, false, ◌&&◌, List, [], ltb, length, Ok}
use Rattle.varint.specs.Numbers.{encoded_size}
use Rattle.lists.specs.declared.AddressEntry.{AddressEntry}
use Rattle.lists.specs.declared.RouteRange.{RouteRange}
use Rattle.octets.specs.Scan.{all_of}
use Rattle.lists.specs.Words.{max_addresses, max_ranges}
use Rattle.capsule.specs.Elements.{Format, judged, count_verdict}
use Rattle.capsule.specs.Entries.{entry_format, range_format}
use Rattle.capsule.specs.Capsules.{max_value, kind_of, value_of, Capsule, datagram, assign, request, advertise, unknown}

-- where the value starts: behind the type and the length
abbrev pub value_start : Capsule → ℕ
value_start c = encoded_size (kind_of c) + encoded_size (length (value_of c))

-- ---- the rules

-- every element keeps its rule, and there are as many as there may be
pub record Ruled {A : Type 0} (f : Format A) (asked : Bool) (limit : ℕ) (xs : List A) : Type 0 where
  pub elements : judged f [] xs ≡ Ok tt
  pub number : count_verdict asked limit (length xs) ≡ Ok tt

pub data Sound : Capsule → Type 0 where
  sound-datagram : {v : List ℕ} → length v ≤ max_value → Sound (datagram v)
  sound-assign : {es : List AddressEntry} → Ruled (entry_format false) false max_addresses es → Sound (assign es)
  sound-request : {es : List AddressEntry} → Ruled (entry_format true) true max_addresses es → Sound (request es)
  sound-advertise : {rs : List RouteRange} → Ruled range_format false max_ranges rs → Sound (advertise rs)
  sound-unknown : Sound unknown

-- every half of an address is a word
abbrev pub is_word : ℕ → Bool
is_word a = ltb a (2 ^ 64)

abbrev pub entry_in_words : AddressEntry → Bool
entry_in_words e = is_word e.hi && is_word e.lo

abbrev pub range_in_words : RouteRange → Bool
range_in_words r = is_word r.start_hi && (is_word r.start_lo && (is_word r.end_hi && is_word r.end_lo))

abbrev pub in_words : Capsule → Bool
in_words (datagram v) = true
in_words (assign es) = all_of entry_in_words es
in_words (request es) = all_of entry_in_words es
in_words (advertise rs) = all_of range_in_words rs
in_words unknown = true
