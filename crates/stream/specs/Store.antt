-- Capsules in pieces: what is kept of an unfinished capsule between calls, and what one call does with the bytes it is given.
use Rattle.std.specs.Prelude.{ℕ, zero, suc, ◌+◌, ◌-◌, Bool, true, false, ◌&&◌, List, [], ◌∷◌, ◌++◌, leb, ltb, eqb, length, Option, Some, None, Result, Ok, Err}
use Rattle.answer.specs.declared.Refusal.{Refusal}
use Rattle.answer.specs.Choice.{pick}
use Rattle.answer.specs.Number.{number_of}
use Rattle.varint.specs.Numbers.{limit}
use Rattle.capsule.specs.declared.FrameRead.{FrameRead}
use Rattle.capsule.specs.declared.Head.{Head}
use Rattle.capsule.specs.Heads.{head_of}
use Rattle.capsule.specs.Capsules.{Capsule, unknown, Reading, refused, capsule, frame_of, read_capsule}

-- ---- the store

-- the bytes of the open capsule; or, of a type that is skipped, how many of its bytes are still to come; and the refusal that is remembered
pub record Store : Type 0 where
  pub kept : List ℕ
  pub skip : ℕ
  pub stopped : Result Unit Refusal

abbrev pub empty : Store
empty = record { kept = []; skip = 0; stopped = (Ok tt) }

-- how many bytes behind s are still to come of a capsule that is skipped: type and length must be there
abbrev pub skip_behind : List ℕ → Option Head → ℕ
skip_behind s (Some h) = pick (ltb 3 h.kind) (h.start + h.length - length s) 0
skip_behind s None = 0

unfoldable pub to_skip : List ℕ → ℕ
to_skip s = skip_behind s (head_of s)

-- a frame that is not all there
abbrev pub lacking : Result FrameRead Refusal → Bool
lacking (Ok _) = false
lacking (Err r) = eqb (number_of r) 1

-- what may be remembered: 2 to 7
abbrev pub sound_stop : Result Unit Refusal → Bool
sound_stop (Ok _) = true
sound_stop (Err r) = leb 2 (number_of r) && leb (number_of r) 7

-- the rules of a store: what is kept is the front of an open capsule that is not skipped, and while one is skipped nothing is kept
unfoldable pub sound_store : Store → Bool
sound_store k =
    pick (eqb k.skip 0) (lacking (frame_of k.kept) && eqb (to_skip k.kept) 0) (eqb (length k.kept) 0 && ltb k.skip limit)
    && sound_stop k.stopped

-- what is kept of an open capsule whose bytes so far are s
abbrev pub keeping : List ℕ → ℕ → Store
keeping s zero = record { kept = s; skip = 0; stopped = (Ok tt) }
keeping s (suc n) = record { kept = []; skip = suc n; stopped = (Ok tt) }

-- ---- a call
pub data Said : Type 0 where
  out : Capsule → Said  -- 0, one capsule
  clean : Said  -- 0, between capsules
  wait : Said  -- 1, in a capsule
  no : Refusal → Said  -- any other number

-- what it says, how many bytes it takes, and what it keeps
pub record Fed : Type 0 where
  pub said : Said
  pub taken : ℕ
  pub store : Store

abbrev pub waiting : List ℕ → Said
waiting [] = clean
waiting (b ∷ s) = wait

-- the capsule whose bytes so far are s stays open: all n bytes that were given are taken
abbrev pub waits : ℕ → List ℕ → Fed
waits n s = record { said = waiting s; taken = n; store = keeping s (to_skip s) }

-- the refusal is remembered, and nothing else changes
abbrev pub remembers : Store → Refusal → Fed
remembers k r = record { said = no r; taken = 0; store = record { kept = k.kept; skip = k.skip; stopped = Err r } }

-- a refusal that changes nothing
abbrev pub says : Store → Refusal → Fed
says k r = record { said = no r; taken = 0; store = k }

-- the bytes s are those kept and then those given, n in number
abbrev pub on_reading : Store → ℕ → List ℕ → Reading → Fed
on_reading k n s (refused r) = pick (eqb (number_of r) 1) (waits n s) (remembers k r)
on_reading k n s (capsule c start size) = record { said = out c; taken = size - length k.kept; store = empty }

-- a capsule that is skipped: n bytes are still to come, and m are given
abbrev pub on_skip : ℕ → ℕ → Fed
on_skip n m =
    pick (ltb m n) (record { said = wait; taken = m; store = record { kept = []; skip = n - m; stopped = (Ok tt) } })
    (record { said = out unknown; taken = n; store = empty })

abbrev pub feed_open : Store → List ℕ → ℕ → Fed
feed_open k t zero = on_reading k (length t) (k.kept ++ t) (read_capsule (k.kept ++ t))
feed_open k t (suc n) = on_skip (suc n) (length t)

-- a refusal that is remembered is repeated
abbrev pub feed_live : Store → List ℕ → Result Unit Refusal → Fed
feed_live k t (Ok _) = feed_open k t k.skip
feed_live k t (Err r) = says k r

-- the bytes t are given to a sound store
unfoldable pub feed_store : Store → List ℕ → Fed
feed_store k t = feed_live k t k.stopped
