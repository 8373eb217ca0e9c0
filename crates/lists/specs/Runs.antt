-- Runs: neighbouring ranges of one version and protocol, as the code judges them.
use Rattle.std.specs.Prelude.{ℕ, ◌+◌, ◌-◌, ◌≤◌, ◌<◌, Bool, false, ◌≡◌, List, Option, Some, None}
use Rattle.octets.specs.Scan.{from}
use Rattle.lists.specs.Rules.{sound_after}
use Rattle.lists.specs.Words.{range_at}

-- of n ranges, those behind range j are sound and in order after it
abbrev pub sound_past : List ℕ → ℕ → ℕ → Bool
sound_past w n j = sound_after (range_at w j) (from (range_at w) (j + 1) (n - (j + 1)))

-- a run behind range j, found sound to the range at last: what is left to say is what the ranges behind last say; found broken: so is the list
pub record Ran (w : List ℕ) (n j : ℕ) (r : Option ℕ) : Type 0 where
  pub kept : (last : ℕ) → r ≡ Some last → (last < n) × (j ≤ last) × (sound_past w n j ≡ sound_past w n last)
  pub broken : r ≡ None → sound_past w n j ≡ false
