-- Entries of one tag put together: one entry that is sound exactly where all of them are.
use Rattle.std.specs.Prelude.{ℕ, ◌-◌, ◌≤◌, ◌<◌, ◌/◌, ◌%◌, ◌&&◌, ◌≡◌, List}
use Rattle.lists.specs.declared.AddressEntry.{AddressEntry}
use Rattle.lists.specs.declared.Joined.{Joined}
use Rattle.octets.specs.Scan.{from, all_of}
use Rattle.lists.specs.Rules.{sound_entry}
use Rattle.lists.specs.Words.{words_per_entry, word, entry_at}

-- the entry of a tag and of three words
abbrev pub entry_of : ℕ → ℕ → ℕ → ℕ → AddressEntry
entry_of tag id hi lo =
    record {
      request_id = record { 0 = id };
      version = tag % 256;
      prefix = tag / 256 % 256;
      hi = hi;
      lo = lo;
    }

-- r is the entries from i up to r.next put together, with the tag of entry i:
-- those from i up to n are all sound exactly where r is and those from r.next on are
pub record Joins (w : List ℕ) (i n : ℕ) (r : Joined) : Type 0 where
  pub more : i < r.next
  pub within : r.next ≤ n
  pub rest :
      all_of sound_entry (from (entry_at w) i (n - i))
      ≡ (sound_entry (entry_of (word words_per_entry w i 2) r.id r.hi r.lo) && all_of sound_entry (from (entry_at w) r.next (n - r.next)))
