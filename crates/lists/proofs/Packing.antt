-- A list made element by element: storing after the last element gives the words of the longer list. Assumes nothing.
use Prim.Native.Nat.{ℕ, zero, suc, ◌+◌, ◌*◌, ◌≤◌, ◌<◌}
use mathlib.Core.Path.{◌≡◌, refl, ap, ◌∙◌}
use mathlib.Core.List.{List, [], ◌∷◌, ◌++◌}
use native.Mathlib.Nat.{not-suc-le-zero}
use native.Mathlib.Omega.{arith}
use lib.ListN.{length, set, replicate}
use Rattle.lists.specs.declared.AddressEntry.{AddressEntry}
use Rattle.lists.specs.declared.RouteRange.{RouteRange}
use Rattle.lists.specs.Rules.{id_of}
use Rattle.lists.specs.Words.{max_addresses, max_ranges, address_words, route_words, entry_tag, entry_words, pack_entries, put_entry}
use Rattle.lists.specs.Words.{range_tag, range_words, pack_ranges, put_range}

-- ---- entries

-- the words of an entry, before others
abbrev cons_entry : AddressEntry → List ℕ → List ℕ
cons_entry e l = id_of e ∷ entry_tag e ∷ e.hi ∷ e.lo ∷ l

-- entry i stored, in words that begin with those of entry 0
abbrev store_entry : List ℕ → ℕ → AddressEntry → List ℕ
store_entry w i e = set (set (set (set w (i * 4 + 0) (id_of e)) (i * 4 + 1) (entry_tag e)) (i * 4 + 2) e.hi) (i * 4 + 3) e.lo

put_store_entry : (n : ℕ) (w : List ℕ) (i : ℕ) (e : AddressEntry) → put_entry (n ∷ w) i e ≡ n ∷ store_entry w i e
put_store_entry n w i e =
    let z : i * 4 + 0 ≡ i * 4 = omega arith in
    let a : i * 4 + 1 ≡ suc (i * 4) = omega arith in
    let b : i * 4 + 2 ≡ suc (suc (i * 4)) = omega arith in
    let c : i * 4 + 3 ≡ suc (suc (suc (i * 4))) = omega arith in
    let d : i * 4 + 4 ≡ suc (suc (suc (suc (i * 4)))) = omega arith in
    rw (a, b, c, d, z)

set_four : (a b c d : ℕ) (w : List ℕ) (i k v : ℕ)
    → set (a ∷ b ∷ c ∷ d ∷ w) (suc i * 4 + k) v ≡ a ∷ b ∷ c ∷ d ∷ set w (i * 4 + k) v
set_four a b c d w i k v =
    let q : suc i * 4 + k ≡ suc (suc (suc (suc (i * 4 + k)))) = omega arith in
    rw q

store_entry_lem : (k : ℕ) (es : List AddressEntry) (e : AddressEntry) → length es < k
    → store_entry (entry_words k es) (length es) e ≡ entry_words k (es ++ (e ∷ []))
store_entry_lem zero es e h = absurd (not-suc-le-zero h)
store_entry_lem (suc k) [] e h = refl
store_entry_lem (suc k) (x ∷ es) e h = simp set_four (ap (cons_entry x) (store_entry_lem k es e (omega arith)))

pub put-entry : (n k : ℕ) (es : List AddressEntry) (e : AddressEntry) → length es < k
    → put_entry (n ∷ entry_words k es) (length es) e ≡ n ∷ entry_words k (es ++ (e ∷ []))
put-entry n k es e h = put_store_entry n (entry_words k es) (length es) e ∙ ap (λ (l : List ℕ). n ∷ l) (store_entry_lem k es e h)

-- entries past those that there is room for change nothing
pub entry_words-full : (k : ℕ) (es fs : List AddressEntry) → k ≤ length es → entry_words k (es ++ fs) ≡ entry_words k es
entry_words-full zero es fs h = refl
entry_words-full (suc k) [] fs h = absurd (not-suc-le-zero h)
entry_words-full (suc k) (x ∷ es) fs h = ap (cons_entry x) (entry_words-full k es fs (omega arith))

pub length_entry_words : (k : ℕ) (es : List AddressEntry) → length (entry_words k es) ≡ k * 4
length_entry_words zero es = refl
length_entry_words (suc k) [] = omega (arith, length_entry_words k [])
length_entry_words (suc k) (x ∷ es) = omega (arith, length_entry_words k es)

pub no-entry_words : replicate address_words 0 ≡ 0 ∷ entry_words max_addresses []
no-entry_words = refl

-- with the count set, the list is packed
pub pack_entries_lem : (n : ℕ) (es : List AddressEntry) → set (n ∷ entry_words max_addresses es) 0 (length es) ≡ pack_entries es
unfolding pack_entries
pack_entries_lem n es = refl

pub length_pack_entries : (es : List AddressEntry) → length (pack_entries es) ≡ address_words
unfolding pack_entries
length_pack_entries es = ap suc (length_entry_words max_addresses es)

-- ---- ranges

abbrev cons_range : RouteRange → List ℕ → List ℕ
cons_range r l = range_tag r ∷ r.start_hi ∷ r.start_lo ∷ r.end_hi ∷ r.end_lo ∷ l

abbrev store_range : List ℕ → ℕ → RouteRange → List ℕ
store_range w i r =
    set
    (set
    (set (set (set w (i * 5 + 0) (range_tag r)) (i * 5 + 1) r.start_hi) (i * 5 + 2) r.start_lo)
    (i * 5 + 3)
    r.end_hi)
    (i * 5 + 4)
    r.end_lo

put_store_range : (n : ℕ) (w : List ℕ) (i : ℕ) (r : RouteRange) → put_range (n ∷ w) i r ≡ n ∷ store_range w i r
put_store_range n w i r =
    let z : i * 5 + 0 ≡ i * 5 = omega arith in
    let a : i * 5 + 1 ≡ suc (i * 5) = omega arith in
    let b : i * 5 + 2 ≡ suc (suc (i * 5)) = omega arith in
    let c : i * 5 + 3 ≡ suc (suc (suc (i * 5))) = omega arith in
    let d : i * 5 + 4 ≡ suc (suc (suc (suc (i * 5)))) = omega arith in
    let e : i * 5 + 5 ≡ suc (suc (suc (suc (suc (i * 5))))) = omega arith in
    rw (a, b, c, d, e, z)

set_five : (a b c d e : ℕ) (w : List ℕ) (i k v : ℕ)
    → set (a ∷ b ∷ c ∷ d ∷ e ∷ w) (suc i * 5 + k) v ≡ a ∷ b ∷ c ∷ d ∷ e ∷ set w (i * 5 + k) v
set_five a b c d e w i k v =
    let q : suc i * 5 + k ≡ suc (suc (suc (suc (suc (i * 5 + k))))) = omega arith in
    rw q

store_range_lem : (k : ℕ) (rs : List RouteRange) (r : RouteRange) → length rs < k
    → store_range (range_words k rs) (length rs) r ≡ range_words k (rs ++ (r ∷ []))
store_range_lem zero rs r h = absurd (not-suc-le-zero h)
store_range_lem (suc k) [] r h = refl
store_range_lem (suc k) (x ∷ rs) r h = simp set_five (ap (cons_range x) (store_range_lem k rs r (omega arith)))

pub put_range_lem : (n k : ℕ) (rs : List RouteRange) (r : RouteRange) → length rs < k
    → put_range (n ∷ range_words k rs) (length rs) r ≡ n ∷ range_words k (rs ++ (r ∷ []))
put_range_lem n k rs r h = put_store_range n (range_words k rs) (length rs) r ∙ ap (λ (l : List ℕ). n ∷ l) (store_range_lem k rs r h)

-- ranges past those that there is room for change nothing
pub range_words-full : (k : ℕ) (rs qs : List RouteRange) → k ≤ length rs → range_words k (rs ++ qs) ≡ range_words k rs
range_words-full zero rs qs h = refl
range_words-full (suc k) [] qs h = absurd (not-suc-le-zero h)
range_words-full (suc k) (x ∷ rs) qs h = ap (cons_range x) (range_words-full k rs qs (omega arith))

pub length_range_words : (k : ℕ) (rs : List RouteRange) → length (range_words k rs) ≡ k * 5
length_range_words zero rs = refl
length_range_words (suc k) [] = omega (arith, length_range_words k [])
length_range_words (suc k) (x ∷ rs) = omega (arith, length_range_words k rs)

pub no-range_words : replicate route_words 0 ≡ 0 ∷ range_words max_ranges []
no-range_words = refl

pub pack_ranges_lem : (n : ℕ) (rs : List RouteRange) → set (n ∷ range_words max_ranges rs) 0 (length rs) ≡ pack_ranges rs
unfolding pack_ranges
pack_ranges_lem n rs = refl

pub length_pack_ranges : (rs : List RouteRange) → length (pack_ranges rs) ≡ route_words
unfolding pack_ranges
length_pack_ranges rs = ap suc (length_range_words max_ranges rs)
