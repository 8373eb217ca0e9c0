-- Lists of entries and of ranges: their rules, and lists as arrays of words.
use Rattle.std.specs.Prelude.{ℕ, zero, suc, ◌+◌, ◌*◌, ◌/◌, ◌%◌, Bool, ◌&&◌, List, [], ◌∷◌, leb, length, get_or, set, replicate}
use Rattle.lists.specs.declared.AddressEntry.{AddressEntry}
use Rattle.lists.specs.declared.RouteRange.{RouteRange}
use Rattle.lists.specs.declared.WordList.{WordList}
use Rattle.octets.specs.Scan.{from, all_of}
use Rattle.lists.specs.Rules.{id_of, sound_entry, before_all, sound_after}

abbrev pub max_addresses : ℕ
max_addresses = 32

abbrev pub max_ranges : ℕ
max_ranges = 256

-- at most so many elements, and every one sound; ranges are in order
unfoldable pub sound_addresses : List AddressEntry → Bool
sound_addresses es = leb (length es) max_addresses && all_of sound_entry es

unfoldable pub sound_routes : List RouteRange → Bool
sound_routes rs = leb (length rs) max_ranges && sound_after before_all rs

-- ---- what the words say

-- the words of an element, and of a list: the count and the elements
abbrev pub words_per_entry : ℕ
words_per_entry = 4

abbrev pub words_per_range : ℕ
words_per_range = 5

abbrev pub address_words : ℕ
address_words = 1 + max_addresses * words_per_entry

abbrev pub route_words : ℕ
route_words = 1 + max_ranges * words_per_range

-- word k of element i, of elements of n words
abbrev pub word : ℕ → List ℕ → ℕ → ℕ → ℕ
word n w i k = get_or w (i * n + k) 0

unfoldable pub entry_at : List ℕ → ℕ → AddressEntry
entry_at w i =
    record {
      request_id = record { 0 = word words_per_entry w i 1 };
      version = word words_per_entry w i 2 % 256;
      prefix = word words_per_entry w i 2 / 256 % 256;
      hi = word words_per_entry w i 3;
      lo = word words_per_entry w i 4;
    }

unfoldable pub range_at : List ℕ → ℕ → RouteRange
range_at w i =
    record {
      version = word words_per_range w i 1 % 256;
      protocol = word words_per_range w i 1 / 256 % 256;
      start_hi = word words_per_range w i 2;
      start_lo = word words_per_range w i 3;
      end_hi = word words_per_range w i 4;
      end_lo = word words_per_range w i 5;
    }

abbrev pub count_of : List ℕ → ℕ
count_of w = get_or w 0 0

-- the elements of a list
unfoldable pub entries_of : List ℕ → List AddressEntry
entries_of w = from (entry_at w) 0 (count_of w)

unfoldable pub ranges_of : List ℕ → List RouteRange
ranges_of w = from (range_at w) 0 (count_of w)

-- ---- the words of a list

abbrev pub entry_tag : AddressEntry → ℕ
entry_tag e = e.version + 256 * e.prefix

abbrev pub range_tag : RouteRange → ℕ
range_tag r = r.version + 256 * r.protocol

-- the words of k entries, 0 where there are fewer
abbrev pub entry_words : ℕ → List AddressEntry → List ℕ
entry_words zero es = []
entry_words (suc k) [] = 0 ∷ 0 ∷ 0 ∷ 0 ∷ entry_words k []
entry_words (suc k) (e ∷ es) = id_of e ∷ entry_tag e ∷ e.hi ∷ e.lo ∷ entry_words k es

abbrev pub range_words : ℕ → List RouteRange → List ℕ
range_words zero rs = []
range_words (suc k) [] = 0 ∷ 0 ∷ 0 ∷ 0 ∷ 0 ∷ range_words k []
range_words (suc k) (r ∷ rs) = range_tag r ∷ r.start_hi ∷ r.start_lo ∷ r.end_hi ∷ r.end_lo ∷ range_words k rs

unfoldable pub pack_entries : List AddressEntry → List ℕ
pack_entries es = length es ∷ entry_words max_addresses es

unfoldable pub pack_ranges : List RouteRange → List ℕ
pack_ranges rs = length rs ∷ range_words max_ranges rs

-- element i stored
abbrev pub put_entry : List ℕ → ℕ → AddressEntry → List ℕ
put_entry w i e = set (set (set (set w (i * words_per_entry + 1) (id_of e)) (i * words_per_entry + 2) (entry_tag e)) (i * words_per_entry + 3) e.hi) (i * words_per_entry + 4) e.lo

abbrev pub put_range : List ℕ → ℕ → RouteRange → List ℕ
put_range w i r =
    set
    (set
    (set (set (set w (i * words_per_range + 1) (range_tag r)) (i * words_per_range + 2) r.start_hi) (i * words_per_range + 3) r.start_lo)
    (i * words_per_range + 4)
    r.end_hi)
    (i * words_per_range + 5)
    r.end_lo

abbrev pub address_list : List AddressEntry → WordList address_words
address_list es = record { words = pack_entries es }

abbrev pub route_list : List RouteRange → WordList route_words
route_list rs = record { words = pack_ranges rs }

abbrev pub no_addresses : WordList address_words
no_addresses = record { words = replicate address_words 0 }

abbrev pub no_routes : WordList route_words
no_routes = record { words = replicate route_words 0 }
