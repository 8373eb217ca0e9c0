-- Each half of `high` and of `low` is the sum of the bytes of one place, below 65536 since no more than 256 are added. The halves, weighed as their
-- bytes are in words, and the words still to come make the words of all. Assumes nothing.
use Prim.Native.Nat.{ℕ, ◌≤◌, ◌*◌, ◌/◌, ◌%◌, ◌-◌, ◌+◌, ◌<◌}
use mathlib.Core.Path.{◌≡◌, sym, ap, ◌∙◌}
use mathlib.Core.List.{List}
use native.Mathlib.Omega.{arith}
use lib.ListN.{length, take, drop, get_or, length-take}
use lib.Seq.{get_or-drop, get_or-take}
use Rattle.octets.proofs.Parts.{tail}
use Rattle.inet.specs.Sum.{words, SwappedWords}
use Rattle.inet.proofs.WordLaws.{words_quad, words-end}
use Rattle.inet.proofs.sum.sum_block.Invariants.{Halves}
use Rattle.inet.proofs.sum.sum_block.Goals as goal

-- two bytes added to two halves that have room for them
module _ (n m k a b : ℕ) (few : k < 256) (room : n % 65536 ≤ 255 * k) (byte : a < 256) (both : m ≡ a + 65536 * b) where
  half-low : (n + m) % 65536 ≡ n % 65536 + a
  half-low = omega arith

  half_high : (n + m) / 65536 ≡ n / 65536 + b
  half_high = omega arith

one_more : (m n a k : ℕ) → m ≡ n + a → n ≤ 255 * k → a < 256 → m ≤ 255 * (k + 1)
one_more m n a k e h l = omega arith

-- the four bytes of swapped words
record Bytes (w a b c d : ℕ) : Type 0 where
  first : w % 256 ≡ a
  second : w / 256 % 256 ≡ b
  third : w / 65536 % 256 ≡ c
  fourth : w / 256 / 65536 % 256 ≡ d

swapped-bytes : (w a b c d : ℕ) → w < 4294967296 → w % 65536 ≡ b * 256 + a → w / 65536 ≡ d * 256 + c → w / 256 % 256 ≡ b → w / 16777216 ≡ d → Bytes w a b c d
swapped-bytes w a b c d f e1 e2 e3 e4 = record { first = omega arith; second = e3; third = omega arith; fourth = omega arith }

-- a byte of `&s[i..]`, as of the front of s
part_at : (s : List ℕ) (n i j : ℕ) → i + j < n → get_or (take (length s - i) (drop i s)) j 0 ≡ get_or (take n s) (i + j) 0
part_at s n i j h = ap (λ (l : List ℕ). get_or l j 0) (tail i s) ∙ get_or-drop i s j 0 ∙ sym (get_or-take n s (i + j) 0 h)

byte : (n : ℕ) → n % 256 < 256
byte n = omega arith

-- one turn
module _ (s : List ℕ) (quads high low k w e o : ℕ) (long : 4 * quads ≤ length s) (few : quads ≤ 256) (more : k < quads) (fits : w < 4294967296)
    (v : SwappedWords (take (length s - 4 * k) (drop (4 * k) s)) w)
    (even : e ≡ w % 256 + 65536 * (w / 65536 % 256)) (odd : o ≡ w / 256 % 256 + 65536 * (w / 256 / 65536 % 256)) where
  bytes : Bytes w (get_or (take (4 * quads) s) (4 * k) 0) (get_or (take (4 * quads) s) (4 * k + 1) 0) (get_or (take (4 * quads) s) (4 * k + 2) 0) (get_or (take (4 * quads) s) (4 * k + 3) 0)
  bytes =
      let t = take (4 * quads) s in
      let z : 4 * k + 0 ≡ 4 * k = omega arith in
      let b0 : get_or (take (length s - 4 * k) (drop (4 * k) s)) 0 0 ≡ get_or t (4 * k) 0 = part_at s (4 * quads) (4 * k) 0 (omega arith) ∙ ap (λ (n : ℕ). get_or t n 0) z in
      let b1 = part_at s (4 * quads) (4 * k) 1 (omega arith) in
      let b2 = part_at s (4 * quads) (4 * k) 2 (omega arith) in
      let b3 = part_at s (4 * quads) (4 * k) 3 (omega arith) in
      swapped-bytes w (get_or t (4 * k) 0) (get_or t (4 * k + 1) 0) (get_or t (4 * k + 2) 0) (get_or t (4 * k + 3) 0) fits
      (omega (arith, v.first)) (omega (arith, v.second)) (omega (arith, v.first-low)) (omega (arith, v.second-low))

  halves-next : Halves (take (4 * quads) s) high low k → Halves (take (4 * quads) s) (high + e) (low + o) (k + 1)
  halves-next h =
      let t = take (4 * quads) s in
      let b = bytes in
      let e0 = half-low high e k (w % 256) (w / 65536 % 256) (omega arith) h.first (omega arith) even in
      let e2 = half_high high e k (w % 256) (w / 65536 % 256) (omega arith) h.first (omega arith) even in
      let e1 = half-low low o k (w / 256 % 256) (w / 256 / 65536 % 256) (omega arith) h.second (omega arith) odd in
      let e3 = half_high low o k (w / 256 % 256) (w / 256 / 65536 % 256) (omega arith) h.second (omega arith) odd in
      let n : 4 * (k + 1) ≡ 4 * k + 4 = omega arith in
      let d : words (drop (4 * (k + 1)) t) ≡ words (drop (4 * k + 4) t) = ap (λ (i : ℕ). words (drop i t)) n in
      let q = words_quad t (4 * k) (omega (arith, length-take (4 * quads) s)) in
      record {
        first = one_more _ _ _ k e0 h.first (byte _);
        second = one_more _ _ _ k e1 h.second (byte _);
        third = one_more _ _ _ k e2 h.third (byte _);
        fourth = one_more _ _ _ k e3 h.fourth (byte _);
        rest = rw (e0, e1, e2, e3, d) (omega (arith, q, h.rest, b.first, b.second, b.third, b.fourth));
      }

pub loop-k-preserved : goal.loop-k-preserved
loop-k-preserved c =
    let l = c.loop-k in
    let a = c.args in (
      omega arith,
      halves-next a.s.now a.quads l.high l.low l.k c.swapped_words-w.result _ _ (omega arith) (omega arith) (omega arith) (omega arith)
          c.swapped_words-w.ensures c.even_bytes-high.ensures c.even_bytes-low.ensures l.invariant.1,
    )

pub returns : goal.returns
returns c =
    let l = c.loop-k in
    let a = c.args in
    let t = take (4 * a.quads) a.s.now in
    omega (arith, words-end t (4 * l.k) (omega (arith, length-take (4 * a.quads) a.s.now)), l.invariant.1.rest)
