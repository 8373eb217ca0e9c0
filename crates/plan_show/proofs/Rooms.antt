-- Room for one part after the other. Assumes nothing.
use Prim.Native.Nat.{ℕ, ◌+◌, ◌≤◌}
use mathlib.Core.Path.{◌≡◌}
use mathlib.Core.List.{List, ◌++◌}
use native.Mathlib.Omega.{arith}
use lib.ListN.{length, length-append}
use Rattle.output.specs.Places.{Put}

-- room for two parts is room for the first
pub room-first : (a b : List ℕ) (at : ℕ) {n : ℕ} → at + length (a ++ b) ≤ n → at + length a ≤ n
room-first a b at h = omega (arith, length-append a b)

-- and behind it for the second
pub room_next : (a b : List ℕ) {x y : List ℕ} {at p : ℕ} → Put a at x p y → at + length (a ++ b) ≤ length x → p + length b ≤ length y
room_next a b p h = omega (arith, length-append a b, p.place, p.kept)

-- room for the same in other words
pub room_as : (at : ℕ) {a b : List ℕ} {n : ℕ} → a ≡ b → at + length b ≤ n → at + length a ≤ n
room_as at e h = rw e h
