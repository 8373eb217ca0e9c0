-- Capsules whose numbers are all in their shortest form: type, length and every Request ID.
use Rattle.std.specs.Prelude.{ℕ, zero, suc, Bool, true, false, ◌&&◌, ◌||◌, List, [], ◌∷◌, eqb, length, take, drop, Option, Some, None, Result, Ok, Err}
use Rattle.answer.specs.Choice.{pick}
use Rattle.varint.specs.declared.Number.{Number}
use Rattle.varint.specs.Numbers.{read_number, shortest}
use Rattle.answer.specs.declared.Refusal.{Refusal}
use Rattle.capsule.specs.declared.FrameRead.{FrameRead}
use Rattle.capsule.specs.Elements.{Element, element, broken}
use Rattle.capsule.specs.Entries.{entry_format}
use Rattle.capsule.specs.Capsules.{frame_of}

abbrev pub shortest_read : Option Number → Bool
shortest_read (Some q) = shortest q.value q.size
shortest_read None = false

-- the number at the front of s
abbrev pub shortest_front : List ℕ → Bool
shortest_front s = shortest_read (read_number s)

-- what is behind it
abbrev pub behind_number : List ℕ → Option Number → List ℕ
behind_number s (Some q) = drop q.size s
behind_number s None = []

-- the bytes of every element, each with those behind it, pass a test
abbrev pub after_passing : {A : Type 0} → (List ℕ → Bool) → List ℕ → Element A → Bool
after_passing next s (element a n) = next (drop n s)
after_passing next s broken = true

unfoldable pub every_element : {A : Type 0} → (List ℕ → Element A) → (List ℕ → Bool) → ℕ → List ℕ → Bool
every_element read p zero s = true
every_element read p (suc fuel) [] = true
every_element read p (suc fuel) (b ∷ s) = p (b ∷ s) && after_passing (every_element read p fuel) (b ∷ s) (read (b ∷ s))

-- the Request IDs in a value of types 1 and 2
abbrev pub shortest_ids : ℕ → List ℕ → Bool
shortest_ids kind v = pick (eqb kind 1 || eqb kind 2) (every_element (entry_format false).read shortest_front (suc (length v)) v) true

abbrev pub shortest_value : List ℕ → Result FrameRead Refusal → Bool
shortest_value s (Ok f) = shortest_ids f.kind (take f.length (drop f.start s))
shortest_value s (Err r) = true

unfoldable pub shortest_capsule : List ℕ → Bool
shortest_capsule s = shortest_front s && (shortest_front (behind_number s (read_number s)) && shortest_value s (frame_of s))
