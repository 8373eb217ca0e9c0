-- A packet in two parts, its front and its tail: what the inner functions ask of both, and what they tell.
use Rattle.std.specs.Prelude.{ℕ, ◌+◌, ◌≤◌, ◌<◌, ◌^◌, min, Bool, Option, Some, None, List, ◌++◌, ◌≡◌, length}
use Rattle.inet.specs.Sum.{words, fold}
use Rattle.answer.specs.Choice.{pick}
use Rattle.inet.specs.Packet.{version_of, form, protocol_of}

-- the most bytes of a header: 15 words of 4
abbrev pub max_header : ℕ
max_header = 60

-- b is what a test says of every packet of n bytes with this front
pub record Tells (test : List ℕ → Bool) (front : List ℕ) (n : ℕ) (b : Bool) : Type 0 where
  pub told : (tail : List ℕ) → length front + length tail ≡ n → b ≡ test (front ++ tail)

-- a packet in two parts, the front with all of its header
pub record Parted (front tail : List ℕ) : Type 0 where
  pub short : length front + length tail < 2 ^ 64
  pub header : min max_header (length front + length tail) ≤ length front

-- the protocol of a packet of good form; bytes of bad form carry none
unfoldable pub carried_by : List ℕ → Option ℕ
carried_by p = pick (form p) (Some (protocol_of p)) None

-- a packet, or the front of one, with both addresses
pub record Addressed (p : List ℕ) : Type 0 where
  pub long : 20 ≤ length p
  pub six : (version_of p ≡ 4 → ⊥) → 40 ≤ length p

-- a packet in two parts, of which a sum is made from start on: start lies in the first, and so does the protocol
pub record Summable (start : ℕ) (front tail : List ℕ) : Type 0 where
  pub short : length front + length tail ≤ 65535
  pub inside : start ≤ length front
  pub headed : 10 ≤ length front

-- r is what the bytes of tail add to the sum of any n bytes before them
pub record CountsBehind (n : ℕ) (tail : List ℕ) (r : ℕ) : Type 0 where
  pub added : (s : List ℕ) → length s ≡ n → fold (words s + r) ≡ fold (words (s ++ tail))
