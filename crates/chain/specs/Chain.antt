-- The chain of IPv6 headers (RFC 8200, section 4; RFC 9484, section 4.8): from the number in the IPv6 header on, to the first that names no extension header.
use Rattle.std.specs.Prelude.{ℕ, zero, suc, ◌+◌, ◌*◌, ◌/◌, ◌<◌, ◌≤◌, ◌≡◌, Option, Some, None, Bool, true, false, not, ◌&&◌, ◌||◌, List, length, get_or, drop, ltb, eqb}
use Rattle.answer.specs.Choice.{pick}

-- the most bytes behind an IPv6 header
abbrev pub max_payload : ℕ
max_payload = 65535

-- ---- the class of a number

-- no extension header: the number is the protocol
abbrev pub plain : ℕ
plain = 0

-- a fragment header
abbrev pub fragment : ℕ
fragment = 1

-- a header that says how long it is, in units of 4 or of 8 bytes: the class is the unit
abbrev pub fours : ℕ
fours = 4

abbrev pub eights : ℕ
eights = 8

-- hop-by-hop options (0), routing (43), destination options (60) and mobility (135) count in units of 8 bytes, authentication (51) in units of 4; 44 is a fragment.
-- Every other number is a protocol, encrypted content (50) and no content (59) included
unfoldable pub class_of : ℕ → ℕ
class_of n =
    pick (eqb n 0 || (eqb n 43 || (eqb n 60 || eqb n 135))) eights (pick (eqb n 51) fours (pick (eqb n 44) fragment plain))

-- ---- a header of a class, at the front of some bytes

-- how many bytes it has: the length, its byte 1, does not count the first 8; in units of 4 that is 2 units. A fragment header has no length
unfoldable pub size_of : ℕ → List ℕ → ℕ
size_of class l = pick (eqb class fragment) 8 (8 + class * get_or l 1 0)

-- where the fragment stands in its packet: the high 13 bits of bytes 2 and 3
abbrev pub offset_of : List ℕ → ℕ
offset_of l = (get_or l 2 0 * 256 + get_or l 3 0) / 8

-- a fragment that is not the first: what it has at its front is no header
unfoldable pub later : ℕ → List ℕ → Bool
later class l = eqb class fragment && not (eqb (offset_of l) 0)

-- ---- the walk

-- where the number n leads, with its header at the front of l and with rest behind it. Each header has to be there whole, the last one too
unfoldable pub onward : ℕ → List ℕ → Option ℕ → Option ℕ
onward n l rest =
    pick (eqb (class_of n) plain) (Some n)
    (pick (ltb (length l) (size_of (class_of n) l)) None (pick (later (class_of n) l) (Some n) rest))

-- what lies behind it
abbrev pub behind : ℕ → List ℕ → List ℕ
behind n l = drop (size_of (class_of n) l) l

-- the same for k headers at most: the number of the next is byte 0
unfoldable pub walk : ℕ → ℕ → List ℕ → Option ℕ
walk zero n l = None
walk (suc k) n l = onward n l (walk k (get_or l 0 0) (behind n l))

-- as many as there are bytes are enough, since each has 8 at least: `chain-step`
unfoldable pub chain : ℕ → List ℕ → Option ℕ
chain n l = walk (suc (length l)) n l

-- the chain of an IPv6 packet: its first number is byte 6, and its headers stand behind the 40 bytes of the IPv6 header
unfoldable pub chain_of : List ℕ → Option ℕ
chain_of p = chain (get_or p 6 0) (drop 40 p)

-- whether it is there whole, and the protocol that it leads to
abbrev pub whole : Option ℕ → Bool
whole (Some n) = true
whole None = false

abbrev pub protocol_in : Option ℕ → ℕ
protocol_in (Some n) = n
protocol_in None = 0

-- a header of a class, so many units of 4 bytes behind an IPv6 header at the front of some bytes, has r units and lies in these bytes; 0 says nothing
pub record InFront (front : List ℕ) (quads class r : ℕ) : Type 0 where
  pub kind : 0 < r → fragment < class
  pub size : 0 < r → 4 * r ≡ 8 + class * get_or front (41 + 4 * quads) 0
  pub within : 0 < r → 40 + 4 * (quads + r) ≤ length front
