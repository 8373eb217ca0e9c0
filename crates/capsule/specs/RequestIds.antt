-- The Request IDs of a value, and whether a request with them is refused; the ID of one entry.
use Rattle.std.specs.Prelude.{ℕ, zero, suc, Bool, ◌||◌, ◌≡◌, List, [], ◌∷◌, eqb, length, drop, Option, Some, None}
use Rattle.octets.specs.Scan.{any_of}
use Rattle.distinct.specs.Repeats.{repeated}
use Rattle.lists.specs.declared.AddressEntry.{AddressEntry}
use Rattle.lists.specs.Rules.{id_of}
use Rattle.capsule.specs.declared.element.EntryRead.{EntryRead}
use Rattle.capsule.specs.declared.element.IdRead.{IdRead}
use Rattle.capsule.specs.Entries.{entry_read, read_entry}

-- the ID of the entry at the front of s, and those that next finds behind it
abbrev pub ids_after : (List ℕ → List ℕ) → List ℕ → Option EntryRead → List ℕ
ids_after next s (Some r) = id_of r.entry ∷ next (drop r.size s)
ids_after next s None = []

-- the IDs of the entries of s up to its end, or to the first entry that is cut or breaks its rule
unfoldable pub ids_from : ℕ → List ℕ → List ℕ
ids_from zero s = []
ids_from (suc fuel) [] = []
ids_from (suc fuel) (b ∷ s) = ids_after (ids_from fuel) (b ∷ s) (read_entry (b ∷ s))

abbrev pub ids_in : List ℕ → List ℕ
ids_in s = ids_from (suc (length s)) s

-- one of them is zero, or two are equal
abbrev pub ids_refused : List ℕ → Bool
ids_refused ids = any_of (λ d. eqb d 0) ids || repeated ids

-- ---- the ID of one entry

-- the entry at the front of s is all there and keeps its rule
pub record GoodFront (s : List ℕ) : Type 0 where
  pub entry : AddressEntry
  pub size : ℕ
  pub reading : read_entry s ≡ Some (entry_read entry size)

-- its ID, and how many bytes it takes
pub record ReadsId (s : List ℕ) (r : IdRead) : Type 0 where
  pub id : (e : AddressEntry) (n : ℕ) → read_entry s ≡ Some (entry_read e n) → r.id ≡ id_of e
  pub size : (e : AddressEntry) (n : ℕ) → read_entry s ≡ Some (entry_read e n) → r.size ≡ n
