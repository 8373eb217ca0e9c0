-- Walking over the capsules of a buffer: each is read at the place where the one before it ends, and a refusal leaves the place.
use Rattle.std.specs.Prelude.{ℕ, zero, suc, ◌+◌, ◌≡◌, true, List, [], ◌∷◌, ◌++◌, length, Result, Ok, Err}
use Rattle.std.specs.Borrow.{Bor}
use Rattle.answer.specs.declared.Refusal.{Refusal}
use Rattle.capsule.specs.declared.CapsuleRead.{CapsuleRead}
use Rattle.capsule.specs.Capsules.{Capsule, unknown, kind_of, value_of, capsule_bytes}
use Rattle.capsule.specs.Results.{found_at, read_at}
use Rattle.capsule.specs.Sound.{value_start, Sound, in_words}
use Rattle.walker.specs.declared.RefusedAt.{RefusedAt}
use Rattle.walker.specs.declared.Walker.{Walker}

-- a walker over lent bytes, at a place
abbrev pub walker_at : Bor (List ℕ) → ℕ → Walker
walker_at bytes at = record { bytes = bytes; at = at }

-- a refusal at a place
abbrev pub refused_at : ℕ → Refusal → RefusedAt
refused_at at why = record { why = why; at = at }

-- a reading at a place: a refusal tells it
abbrev pub placed : ℕ → Result CapsuleRead Refusal → Result CapsuleRead RefusedAt
placed at (Ok c) = Ok c
placed at (Err why) = Err (refused_at at why)

-- the capsule at a place of a buffer, or why and where there is none
abbrev pub reading_at : List ℕ → ℕ → Result CapsuleRead RefusedAt
reading_at s at = placed at (read_at s at)

-- where reading goes on: behind the capsule, or at the place of the refusal
abbrev pub next_of : Result CapsuleRead RefusedAt → ℕ
next_of (Ok c) = c.next
next_of (Err r) = r.at

-- the walker behind what was read
abbrev pub behind : Walker → Result CapsuleRead RefusedAt → Walker
behind w r = walker_at w.bytes (next_of r)

-- what n readings from a place on hand back, each behind the one before: `next`, then `after` it
unfoldable pub walk : ℕ → List ℕ → ℕ → List (Result CapsuleRead RefusedAt)
walk zero s at = []
walk (suc n) s at = reading_at s at ∷ walk n s (next_of (reading_at s at))

-- ---- several capsules in a buffer

-- as they are written, one after the other
abbrev pub capsules_bytes : List Capsule → List ℕ
capsules_bytes [] = []
capsules_bytes (c ∷ cs) = capsule_bytes c ++ capsules_bytes cs

-- what is found of each, the first at a place: the places are the running sums of the sizes
abbrev pub found_all : ℕ → List Capsule → List (Result CapsuleRead RefusedAt)
found_all at [] = []
found_all at (c ∷ cs) = Ok (found_at at (kind_of c) (value_start c) (length (value_of c))) ∷ found_all (at + length (capsule_bytes c)) cs

-- contents that are written as they are: the rules are kept, each half of an address is a word, and the type is one that is written
pub record Writable (c : Capsule) : Type 0 where
  pub sound : Sound c
  pub words : in_words c ≡ true
  pub known : c ≡ unknown → ⊥

abbrev pub AllWritable : List Capsule → Type 0
AllWritable [] = Unit
AllWritable (c ∷ cs) = Writable c × AllWritable cs
