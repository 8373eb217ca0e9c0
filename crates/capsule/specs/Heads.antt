-- Type and length of a capsule, and where its value starts: its first bytes, at most `head_size`.
use Rattle.std.specs.Prelude.{ℕ, ◌+◌, ◌<◌, ◌≤◌, ◌≡◌, List, length, drop, Option, Some, None}
use Rattle.varint.specs.declared.Number.{Number}
use Rattle.varint.specs.Numbers.{limit, read_number}
use Rattle.capsule.specs.declared.Head.{Head}

-- type, where the value starts, and how long it is
abbrev pub head : ℕ → ℕ → ℕ → Head
head kind start size = record { kind = kind; start = start; length = size }

-- two numbers of at most 8 bytes
abbrev pub head_size : ℕ
head_size = 16

abbrev pub head_length : ℕ → ℕ → Option Number → Option Head
head_length kind n (Some q) = Some (head kind (n + q.size) q.value)
head_length kind n None = None

abbrev pub head_type : List ℕ → Option Number → Option Head
head_type s (Some q) = head_length q.value q.size (read_number (drop q.size s))
head_type s None = None

unfoldable pub head_of : List ℕ → Option Head
head_of s = head_type s (read_number s)

-- where the value starts lies within the bytes, and the length is below the limit of numbers; bytes that cut type or length are few
abbrev pub HeadWithin : List ℕ → Option Head → Type 0
HeadWithin s (Some h) = (h.start ≤ head_size) × (h.start ≤ length s) × (h.length < limit)
HeadWithin s None = length s < head_size

pub record HeadRead (s : List ℕ) (r : Option Head) : Type 0 where
  pub reading : r ≡ head_of s
  pub within : HeadWithin s r
