-- The loops over the elements of a value, for its length and for its bytes: what is left of it completes what is done. Assumes nothing.
use Prim.Native.Nat.{ℕ, zero, suc, ◌+◌, ◌-◌, ◌*◌, ◌<◌, ◌≤◌}
use mathlib.Core.Bool.{Bool, true}
use mathlib.Core.Path.{◌≡◌, sym, ◌∙◌}
use mathlib.Core.List.{List, [], ◌++◌, append_assoc, append-nil}
use native.Mathlib.Nat.{sub-zero, add-zero, zero-add, mul-add, mul-one, not-suc-le-zero}
use Rattle.std.proofs.Math.Nat.{mul-le-mul_left}
use native.Mathlib.Omega.{arith}
use lib.ListN.{length, length-append}
use Rattle.answer.proofs.Tests.{and_both}
use Rattle.octets.specs.Scan.{from, all_of}
use Rattle.octets.proofs.Scans.{from_more, from_end}
use Rattle.capsule.specs.Elements.{Format, written}
use Rattle.output.specs.Places.{Put}
use Rattle.output.proofs.Placing.{put-none, put_then}

-- the elements at the indices below n, of at most `most` bytes each
module _ {A : Type 0} (f : Format A) (at : ℕ → A) (n most : ℕ) where
  -- `size` bytes are counted of the elements before i
  pub record Sizing (size i : ℕ) : Type 0 where
    pub within : i ≤ n
    pub rest : size + length (written f (from at i (n - i))) ≡ length (written f (from at 0 n))
    pub bound : size ≤ most * i

  -- those of the elements before i are put, from a place on
  pub record Putting (start : ℕ) (before : List ℕ) (next : ℕ) (out : List ℕ) (i : ℕ) : Type 0 where
    pub within : i ≤ n
    pub done : List ℕ
    pub put : Put done start before next out
    pub rest : done ++ written f (from at i (n - i)) ≡ written f (from at 0 n)
    pub bound : next ≤ start + most * i

  pub size-start : Sizing 0 0
  size-start = record { within = omega arith; rest = rw (sub-zero, zero-add); bound = omega arith }

  pub put-start : (start : ℕ) (before : List ℕ) → Putting start before start before 0
  put-start start before =
      record { within = omega arith; done = []; put = put-none start before; rest = rw sub-zero; bound = omega arith }

grows : (most i k m : ℕ) → m ≤ most * i → k ≤ most → m + k ≤ most * (i + 1)
grows most i k m h g = rw (mul-add, mul-one) (omega arith)

module _ {A : Type 0} {f : Format A} {at : ℕ → A} {n most : ℕ} where
  module _ {size i : ℕ} (s : Sizing f at n most size i) where
    pub size-next : {x : A} {k : ℕ} → i < n → x ≡ at i → k ≡ length (f.bytes x) → k ≤ most → Sizing f at n most (size + k) (i + 1)
    size-next {x} {k} h q e g =
        let rest = written f (from at (i + 1) (n - (i + 1))) in
        let z : size + length (f.bytes x ++ rest) ≡ length (written f (from at 0 n)) = rw (from_more at i n h, ← q) at s.rest in
        record {
          within = omega arith;
          rest = omega (arith, z, length-append (f.bytes x) rest, e);
          bound = grows most i k size s.bound g;
        }

    pub size-end : n ≤ i → (size ≡ length (written f (from at 0 n))) × (size ≤ most * n)
    size-end h =
        let z : size + 0 ≡ length (written f (from at 0 n)) = rw (from_end at i n h) at s.rest in
        let e : i ≡ n = omega (arith, s.within) in
        (omega (arith, z), rw e at s.bound)

  module _ {start : ℕ} {before : List ℕ} {next : ℕ} {out : List ℕ} {i : ℕ} (s : Putting f at n most start before next out i) where
    -- room for all leaves room for the next one
    pub put_room : i < n → start + most * n ≤ length before → next + most ≤ length out
    put_room h g =
        let more : most * (i + 1) ≤ most * n = mul-le-mul_left most (omega (arith, h)) in
        omega (arith, s.bound, g, s.put.kept, rw (mul-add, mul-one) at more)

    pub put_next : {x : A} {r : ℕ} {after : List ℕ} → i < n → x ≡ at i → Put (f.bytes x) next out r after → r ≤ next + most
        → Putting f at n most start before r after (i + 1)
    put_next {x} {r} {after} h q p g =
        let rest = written f (from at (i + 1) (n - (i + 1))) in
        let z : s.done ++ (f.bytes x ++ rest) ≡ written f (from at 0 n) = rw (from_more at i n h, ← q) at s.rest in
        let b : next - start + length (f.bytes x) ≤ most * (i + 1) = grows most i (length (f.bytes x)) (next - start) (omega (arith, s.bound)) (omega (arith, g, p.place)) in
        record {
          within = omega arith;
          done = s.done ++ f.bytes x;
          put = put_then s.put p;
          rest = append_assoc s.done (f.bytes x) rest ∙ z;
          bound = omega (arith, b, p.place, s.put.place);
        }

    pub put-end : n ≤ i → Put (written f (from at 0 n)) start before next out
    put-end h =
        let z : s.done ++ [] ≡ written f (from at 0 n) = rw (from_end at i n h) at s.rest in
        let e : s.done ≡ written f (from at 0 n) = sym (append-nil s.done) ∙ z in
        rw e at s.put

-- ---- sound elements

all-at : {A : Type 0} (p : A → Bool) (f : ℕ → A) (k n i : ℕ) → all_of p (from f k n) ≡ true → i < n → p (f (k + i)) ≡ true
all-at p f k zero i s h = absurd (not-suc-le-zero h)
all-at p f k (suc n) zero s h = let b = and_both (p (f k)) (all_of p (from f (suc k) n)) s in rw add-zero b.0
all-at p f k (suc n) (suc i) s h =
    let b = and_both (p (f k)) (all_of p (from f (suc k) n)) s in
    let e : k + suc i ≡ suc k + i = omega arith in
    rw e (all-at p f (suc k) n i b.1 (omega arith))

-- element i of a list of sound ones is sound
pub sound-at : {A : Type 0} (p : A → Bool) (at : ℕ → A) (n i : ℕ) {x : A} → all_of p (from at 0 n) ≡ true → i < n → x ≡ at i → p x ≡ true
sound-at p at n i s h q =
    let z : 0 + i ≡ i = omega arith in
    rw (q, ← z) (all-at p at 0 n i s h)
