-- A buffer read whole, capsule after capsule: what is handed out up to the first refusal, and that refusal where it is not 1.
use Rattle.std.specs.Prelude.{ℕ, zero, suc, List, [], ◌∷◌, ◌++◌, eqb, length, drop, Result, Ok, Err}
use Rattle.answer.specs.declared.Refusal.{Refusal}
use Rattle.answer.specs.Choice.{pick}
use Rattle.answer.specs.Number.{number_of}
use Rattle.capsule.specs.Capsules.{Capsule, Reading, refused, capsule, read_capsule}
use Rattle.stream.specs.Store.{Said, out, clean, wait, no}

-- what came of some bytes: the capsules handed out, and the first refusal other than 1
pub record Told : Type 0 where
  pub handed : List Capsule
  pub refusal : Result Unit Refusal

abbrev pub ended : Result Unit Refusal → Told
ended v = record { handed = []; refusal = v }

abbrev pub before : List Capsule → Told → Told
before cs t = record { handed = cs ++ t.handed; refusal = t.refusal }

-- a refusal other than 1
abbrev pub other : Refusal → Result Unit Refusal
other r = pick (eqb (number_of r) 1) (Ok tt) (Err r)

abbrev pub after_reading : (List ℕ → Told) → List ℕ → Reading → Told
after_reading next s (refused r) = ended (other r)
after_reading next s (capsule c start size) = before (c ∷ []) (next (drop size s))

-- each capsule takes two bytes at least, so the length is fuel enough
unfoldable pub read_all : ℕ → List ℕ → Told
read_all zero s = ended (Ok tt)
read_all (suc fuel) s = after_reading (read_all fuel) s (read_capsule s)

abbrev pub whole : List ℕ → Told
whole s = read_all (length s) s

-- what a call hands out
abbrev pub given : Said → List Capsule
given (out c) = c ∷ []
given clean = []
given wait = []
given (no r) = []
