-- A turn of a loop that reads the Request IDs of a value: one ID more before those that are left to read. Assumes nothing.
use Rattle.std.proofs.Common.{Option, Some, None}
use Prim.Native.Nat.{ℕ, suc, ◌+◌, ◌-◌, ◌^◌, ◌≤◌, ◌<◌}
use mathlib.Core.Bool.{true, false, or-true}
use mathlib.Core.Path.{◌≡◌, refl, sym, ap, ◌∙◌}
use mathlib.Core.List.{List, [], ◌∷◌, ◌++◌, append_assoc, append-nil}
use native.Mathlib.Nat.{not-suc-le-zero, sub-zero}
use native.Mathlib.Numerals.{add-one}
use native.Mathlib.Omega.{arith}
use borrow.Author.Tests.{eq-eqb, ne_eqb}
use lib.Dec.{eqb}
use lib.ListN.{length, take, drop, set, length-drop, length-append, length-set}
use lib.Seq.{drop-drop, take-suc-set, length-take-le}
use Rattle.octets.specs.Scan.{any_of}
use Rattle.octets.proofs.Scans.{any_append}
use Rattle.distinct.specs.Repeats.{repeated}
use Rattle.distinct.specs.Sorting.{Rising}
use Rattle.distinct.proofs.CountLaws.{any_rising, repeated_rising}
use Rattle.lists.specs.declared.AddressEntry.{AddressEntry}
use Rattle.lists.specs.Rules.{id_of}
use Rattle.capsule.specs.declared.element.EntryRead.{EntryRead}
use Rattle.capsule.specs.declared.element.IdRead.{IdRead}
use Rattle.capsule.specs.Entries.{entry_read, read_entry}
use Rattle.capsule.specs.RequestIds.{ids_after, ids_from, ids_in, ids_refused, GoodFront, ReadsId}
use Rattle.capsule.specs.Capsules.{max_value}
use Rattle.capsule.proofs.EntryCases as Entry

module _ (fuel : ℕ) where
  ids_next : (s : List ℕ) (e : AddressEntry) (n : ℕ) → 0 < length s → read_entry s ≡ Some (entry_read e n) → ids_from (suc fuel) s ≡ id_of e ∷ ids_from fuel (drop n s)
  unfolding ids_from
  ids_next [] e n h q = absurd (not-suc-le-zero h)
  ids_next (b ∷ s) e n h q = rw q

  ids-bad : (s : List ℕ) → 0 < length s → read_entry s ≡ None → ids_from (suc fuel) s ≡ []
  unfolding ids_from
  ids-bad [] h q = absurd (not-suc-le-zero h)
  ids-bad (b ∷ s) h q = rw q

  ids-end : (s : List ℕ) → length s ≤ 0 → ids_from (suc fuel) s ≡ []
  unfolding ids_from
  ids-end [] h = refl
  ids-end (b ∷ s) h = absurd (not-suc-le-zero h)

  ids-front : (s : List ℕ) → 0 < length (ids_from (suc fuel) s) → GoodFront s
  unfolding ids_from
  ids-front [] h = absurd (not-suc-le-zero h)
  ids-front (b ∷ s) h = of (read_entry (b ∷ s)) refl h
    where
      of : (r : Option EntryRead) → read_entry (b ∷ s) ≡ r → 0 < length (ids_after (ids_from fuel) (b ∷ s) r) → GoodFront (b ∷ s)
      of (Some r) q g = record { entry = r.entry; size = r.size; reading = q }
      of None q g = absurd (not-suc-le-zero g)

none_left : (l : List ℕ) → length l ≤ 0 → l ≡ []
none_left [] h = refl
none_left (x ∷ l) h = absurd (not-suc-le-zero h)

-- the IDs that were read before `at`, and those that are left, are all of them
pub record Reading (s ids : List ℕ) (at : ℕ) : Type 0 where
  pub within : at ≤ length s
  pub behind : length ids ≤ at
  pub rest : ids ++ ids_from (suc (length s - length ids)) (drop at s) ≡ ids_in s

pub start : (s : List ℕ) → Reading s [] 0
start s = record { within = omega arith; behind = omega arith; rest = rw sub-zero }

module _ {s ids : List ℕ} {at : ℕ} (i : Reading s ids at) where
  module _ (g : at < length s) where
    more : 0 < length (drop at s)
    more = simp length-drop (omega arith)

    pub next : (e : AddressEntry) (n : ℕ) → read_entry (drop at s) ≡ Some (entry_read e n) → Reading s (ids ++ (id_of e ∷ [])) (at + n)
    next e n q =
        let z = Entry.size (drop at s) e n q in
        let l : length (ids ++ (id_of e ∷ [])) ≡ length ids + 1 = length-append ids (id_of e ∷ []) in
        let b : length ids ≤ at = i.behind in
        let k : length s - length ids ≡ suc (length s - (length ids + 1)) = omega arith in
        record {
          within = omega (arith, z.1, length-drop at s);
          behind = omega (arith, l, z.0);
          rest =
              rw (l, ← drop-drop n at s, append_assoc)
              (rw (k, ids_next (suc (length s - (length ids + 1))) (drop at s) e n more q) at i.rest);
        }

    pub bad : read_entry (drop at s) ≡ None → ids ≡ ids_in s
    bad q = rw (ids-bad (length s - length ids) (drop at s) more q, append-nil) at i.rest

  pub ended : length s ≤ at → ids ≡ ids_in s
  ended g =
      let h : length (drop at s) ≤ 0 = simp length-drop (omega arith) in
      rw (ids-end (length s - length ids) (drop at s) h, append-nil) at i.rest

  -- as many as there are
  pub full : length (ids_in s) ≤ length ids → ids ≡ ids_in s
  full h =
      let z : length (ids_from (suc (length s - length ids)) (drop at s)) ≤ 0 = omega (arith, ap length i.rest, length-append ids (ids_from (suc (length s - length ids)) (drop at s))) in
      rw (none_left (ids_from (suc (length s - length ids)) (drop at s)) z, append-nil) at i.rest

  -- where more are left, an entry is in front
  pub front : length ids < length (ids_in s) → GoodFront (drop at s) × (at < length s)
  front h =
      let z : 0 < length (ids_from (suc (length s - length ids)) (drop at s)) = omega (arith, ap length i.rest, length-append ids (ids_from (suc (length s - length ids)) (drop at s))) in
      let g = ids-front (length s - length ids) (drop at s) z in
      (g, omega (arith, length-drop at s, (Entry.size (drop at s) g.entry g.size g.reading).0, (Entry.size (drop at s) g.entry g.size g.reading).1))

  -- and the code reads its ID
  pub next-read : length ids < length (ids_in s) → (r : IdRead) → ReadsId (drop at s) r → Reading s (ids ++ (r.id ∷ [])) (at + r.size)
  next-read h r d =
      let g = (front h).0 in
      rw (d.id g.entry g.size g.reading, d.size g.entry g.size g.reading) (next (front h).1 g.entry g.size g.reading)

-- ---- the IDs are the first n of an array, and none is zero

any_zero : (xs ys : List ℕ) (x : ℕ) → x ≡ 0 → any_of (λ d. eqb d 0) ((xs ++ (x ∷ [])) ++ ys) ≡ true
any_zero [] ys x h = rw (eq-eqb x 0 h)
any_zero (y ∷ xs) ys x h = rw (any_zero xs ys x h, or-true)

pub record Collecting (s array : List ℕ) (size n at : ℕ) : Type 0 where
  pub reading : Reading s (take n array) at
  pub sized : length array ≡ size
  pub number : n ≤ size
  pub some : any_of (λ d. eqb d 0) (take n array) ≡ false

pub collect-start : (s array : List ℕ) → Collecting s array (length array) 0 0
collect-start s array = record { reading = start s; sized = refl; number = omega arith; some = refl }

module _ {s array : List ℕ} {size n at : ℕ} (i : Collecting s array size n at) where
  counted : length (take n array) ≡ n
  counted = length-take-le n array (omega (arith, i.number, i.sized))

  -- the next entry, by the code's reading of its ID
  module _ (h : n < length (ids_in s)) where
    pub ahead : GoodFront (drop at s) × (at < length s)
    ahead = front i.reading (omega (arith, counted))

    module _ (r : IdRead) (d : ReadsId (drop at s) r) where
      step : Reading s (take n array ++ (r.id ∷ [])) (at + r.size)
      step = next-read i.reading (omega (arith, counted)) r d

      pub zero_read : r.id ≡ 0 → true ≡ ids_refused (ids_in s)
      zero_read z =
          let y : any_of (λ d. eqb d 0) (ids_in s) ≡ true =
          sym (ap (any_of (λ d. eqb d 0)) step.rest)
          ∙ any_zero (take n array) _ r.id z in
          rw y

      pub collect-read : length (ids_in s) ≤ size → (r.id ≡ 0 → ⊥) → Collecting s (set array n r.id) size (n + 1) (at + r.size)
      collect-read k o =
          let t : take (n + 1) (set array n r.id) ≡ take n array ++ (r.id ∷ []) =
          rw add-one (take-suc-set array n r.id (omega (arith, i.sized))) in
          record {
            reading = rw t step;
            sized = length-set array n r.id ∙ i.sized;
            number = omega arith;
            some = rw (t, any_append (λ d. eqb d 0) (take n array) (r.id ∷ []), i.some, ne_eqb r.id 0 o);
          }

  -- a spare array of the same size has as many numbers, and a value within the limit few
  pub fitting : (spare : List ℕ) → length spare ≡ size → length s ≤ max_value → (length (take n spare) ≡ length (take n array)) × (length (take n array) < 2 ^ 62)
  fitting spare e h =
      (length-take-le n spare (omega (arith, i.number)) ∙ sym counted, omega (arith, i.reading.behind, i.reading.within))

  -- what is left is to compare them
  pub compare : length (ids_in s) ≤ n → repeated (take n array) ≡ ids_refused (ids_in s)
  compare h = rw (← full i.reading (omega (arith, counted)), i.some)

-- ---- the IDs rise above zero

-- those read so far do, and with any that rise above the last of them
pub record Climbing (s : List ℕ) (last n at : ℕ) : Type 0 where
  pub ids : List ℕ
  pub reading : Reading s ids at
  pub number : length ids ≡ n
  pub rises : (l : List ℕ) → Rising (suc last) l → Rising 1 (ids ++ l)

pub climb_start : (s : List ℕ) → Climbing s 0 0 0
climb_start s = record { ids = []; reading = start s; number = refl; rises = λ l r. r }

module _ {s : List ℕ} {last n at : ℕ} (i : Climbing s last n at) where
  module _ (h : n < length (ids_in s)) where
    pub climb_ahead : GoodFront (drop at s) × (at < length s)
    climb_ahead = front i.reading (omega (arith, i.number))

    pub climb_read : (r : IdRead) → ReadsId (drop at s) r → last < r.id → Climbing s r.id (n + 1) (at + r.size)
    unfolding Rising
    climb_read r d k =
        record {
          ids = i.ids ++ (r.id ∷ []);
          reading = next-read i.reading (omega (arith, i.number)) r d;
          number = omega (arith, i.number, length-append i.ids (r.id ∷ []));
          rises = λ l q. rw append_assoc (i.rises (r.id ∷ l) (k, q));
        }

  -- so none is zero, and no two are equal
  pub climb_end : length (ids_in s) ≤ n → ids_refused (ids_in s) ≡ false
  unfolding Rising
  climb_end h =
      let r : Rising 1 i.ids = rw append-nil at (i.rises [] tt) in
      rw (← full i.reading (omega (arith, i.number)), any_rising 1 0 i.ids r (omega arith), repeated_rising 1 i.ids r)
