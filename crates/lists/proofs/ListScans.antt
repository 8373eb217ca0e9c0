-- The loops over a list in words: where each starts, and the turns of the one over neighbours. Assumes nothing.
use Prim.Native.Nat.{ℕ, ◌+◌, ◌-◌, ◌≤◌, ◌<◌}
use mathlib.Core.Bool.{Bool, true, false}
use mathlib.Core.Path.{◌≡◌, refl, sym, ap, ◌∙◌}
use mathlib.Core.List.{List}
use mathlib.Core.Logic.{⊎_elim}
use Rattle.std.specs.Prelude.{Option, Some, None}
use native.Mathlib.Nat.{sub-zero}
use native.Mathlib.Omega.{arith}
use borrow.Author.Tests.{le-leb, lt-leb, leb-true, lt-ltb}
use lib.Dec.{leb}
use lib.ListN.{length}
use Rattle.answer.proofs.Tests.{and_both}
use Rattle.lists.specs.declared.AddressEntry.{AddressEntry}
use Rattle.lists.specs.declared.RouteRange.{RouteRange}
use Rattle.octets.specs.Scan.{from, any_of, all_of}
use Rattle.lists.specs.Rules.{sound_entry, sound_range, in_order, before_all, sound_after}
use Rattle.lists.specs.Words.{max_addresses, max_ranges, count_of, entry_at, range_at, entries_of, ranges_of, sound_addresses, sound_routes}
use Rattle.lists.specs.Runs.{sound_past, Ran}
use Rattle.lists.proofs.RangeRule as Range
use Rattle.octets.proofs.Scans.{from_more, from_end, length_from, Seeking, Checking, any_start, all_start}

-- what sound lists are
module _ (es : List AddressEntry) where
  pub addresses_facts : sound_addresses es ≡ true → (length es ≤ max_addresses) × (all_of sound_entry es ≡ true)
  unfolding sound_addresses
  addresses_facts s =
      let f = and_both (leb (length es) max_addresses) (all_of sound_entry es) s in
      (leb-true (length es) max_addresses f.0, f.1)

  pub facts_addresses : length es ≤ max_addresses → all_of sound_entry es ≡ true → sound_addresses es ≡ true
  unfolding sound_addresses
  facts_addresses h s = rw (le-leb (length es) max_addresses h) s

module _ (rs : List RouteRange) where
  pub routes_facts : sound_routes rs ≡ true → (length rs ≤ max_ranges) × (sound_after before_all rs ≡ true)
  unfolding sound_routes
  routes_facts s =
      let f = and_both (leb (length rs) max_ranges) (sound_after before_all rs) s in
      (leb-true (length rs) max_ranges f.0, f.1)

  pub facts_routes : length rs ≤ max_ranges → sound_after before_all rs ≡ true → sound_routes rs ≡ true
  unfolding sound_routes
  facts_routes h s = rw (le-leb (length rs) max_ranges h) s

module _ (w : List ℕ) where
  -- the elements are as many as the count says
  pub length_entries : length (entries_of w) ≡ count_of w
  unfolding entries_of
  length_entries = length_from (entry_at w) 0 (count_of w)

  pub length_ranges : length (ranges_of w) ≡ count_of w
  unfolding ranges_of
  length_ranges = length_from (range_at w) 0 (count_of w)

  pub entries-within : sound_addresses (entries_of w) ≡ true → count_of w ≤ max_addresses
  entries-within s = rw length_entries at (addresses_facts (entries_of w) s).0

  pub ranges-within : sound_routes (ranges_of w) ≡ true → count_of w ≤ max_ranges
  ranges-within s = rw length_ranges at (routes_facts (ranges_of w) s).0

  -- a list of at most one address
  pub entries_none : count_of w ≡ 0 → sound_addresses (entries_of w) ≡ true
  unfolding entries_of sound_addresses
  entries_none z = rw z

  pub entries-one : {e : AddressEntry} → count_of w ≡ 1 → e ≡ entry_at w 0 → sound_entry e ≡ true → sound_addresses (entries_of w) ≡ true
  unfolding entries_of sound_addresses
  entries-one z q s = rw (z, ← q, s)

  -- a search of the elements
  pub any_entry : (p : AddressEntry → Bool) → Seeking p (entry_at w) (count_of w) (any_of p (entries_of w)) 0
  unfolding entries_of
  any_entry p = any_start refl

  pub any_range : (p : RouteRange → Bool) → Seeking p (range_at w) (count_of w) (any_of p (ranges_of w)) 0
  unfolding ranges_of
  any_range p = any_start refl

  -- the test of every entry
  pub check_entries : count_of w ≤ max_addresses → Checking sound_entry (entry_at w) (count_of w) (sound_addresses (entries_of w)) 0
  unfolding sound_addresses entries_of
  check_entries h = all_start (rw (length_from (entry_at w) 0 (count_of w), le-leb (count_of w) max_addresses h))

  pub check_entries-over : max_addresses < count_of w → false ≡ sound_addresses (entries_of w)
  unfolding sound_addresses
  check_entries-over h = rw (length_entries, lt-leb (count_of w) max_addresses h)

-- the ranges before i are sound and the last of them is a: what those from i on say is the answer
pub record Judging (w : List ℕ) (n : ℕ) (a : RouteRange) (i : ℕ) : Type 0 where
  pub within : i ≤ n
  pub rest : sound_after a (from (range_at w) i (n - i)) ≡ sound_routes (ranges_of w)

module _ (w : List ℕ) where
  pub judge : {a : RouteRange} → a ≡ before_all → count_of w ≤ max_ranges → Judging w (count_of w) a 0
  unfolding sound_routes ranges_of
  judge q h =
      record { within = omega arith; rest = rw (q, length_from (range_at w) 0 (count_of w), le-leb (count_of w) max_ranges h, sub-zero) }

  pub judge-over : max_ranges < count_of w → false ≡ sound_routes (ranges_of w)
  unfolding sound_routes
  judge-over h = rw (length_ranges w, lt-leb (count_of w) max_ranges h)

module _ {w : List ℕ} {n : ℕ} {a : RouteRange} {i : ℕ} (s : Judging w n a i) where
  pub judge-broken : {r : RouteRange} → i < n → r ≡ range_at w i → sound_range r ≡ false → false ≡ sound_routes (ranges_of w)
  judge-broken h q e = rw (from_more (range_at w) i n h, ← q, e) at s.rest

  pub judge_unordered : {r : RouteRange} → i < n → r ≡ range_at w i → sound_range r ≡ true → in_order a r ≡ false
      → false ≡ sound_routes (ranges_of w)
  judge_unordered h q e g = rw (from_more (range_at w) i n h, ← q, e, g) at s.rest

  pub judge-next : {r : RouteRange} → i < n → r ≡ range_at w i → sound_range r ≡ true → in_order a r ≡ true
      → Judging w n r (i + 1)
  judge-next h q e g = record { within = omega arith; rest = rw (from_more (range_at w) i n h, ← q, e, g) at s.rest }

  pub judge-end : n ≤ i → true ≡ sound_routes (ranges_of w)
  judge-end h = rw (from_end (range_at w) i n h) at s.rest

-- a run behind a range that is sound and in order
module _ {w : List ℕ} {n : ℕ} {a : RouteRange} {i : ℕ} (s : Judging w n a i) where
  past : {r : RouteRange} → i < n → r ≡ range_at w i → sound_range r ≡ true → in_order a r ≡ true
      → sound_past w n i ≡ sound_routes (ranges_of w)
  past h q e g = rw q at (judge-next s h q e g).rest

  pub judge_run-broken : {r : RouteRange} {u : Option ℕ} → i < n → r ≡ range_at w i → sound_range r ≡ true
      → in_order a r ≡ true → Ran w n i u → u ≡ None → false ≡ sound_routes (ranges_of w)
  judge_run-broken h q e g u t = sym (u.broken t) ∙ past h q e g

  pub judge_run : {r b : RouteRange} {u : Option ℕ} {last : ℕ} → i < n → r ≡ range_at w i → sound_range r ≡ true
      → in_order a r ≡ true → Ran w n i u → u ≡ Some last → b ≡ range_at w last → Judging w n b (last + 1)
  judge_run {last = last} h q e g u t l =
      let k = u.kept last t in
      record { within = omega (arith, k.0); rest = rw l (sym k.2 ∙ past h q e g) }

pub no_some : (u : Option ℕ) → ((k : ℕ) → u ≡ Some k → ⊥) → u ≡ None
no_some None f = refl
no_some (Some k) f = absurd (f k refl)

pub run_within : {w : List ℕ} {n j last : ℕ} {u : Option ℕ} → Ran w n j u → u ≡ Some last → (last < n) × (j ≤ last)
run_within {last = last} u t = let k = u.kept last t in (k.0, k.1)

pub said-sound : {r x : RouteRange} → r ≡ x → sound_range r ≡ true → (sound_range x ≡ true) × (x.version ≡ r.version)
said-sound q e = (ap sound_range (sym q) ∙ e, ap (λ (y : RouteRange). y.version) (sym q))

-- a sound range may stand first: its version is not 0
pub first_in_order : (r : RouteRange) → sound_range r ≡ true → in_order before_all r ≡ true
first_in_order r e =
    let v : 0 < r.version = ⊎_elim (λ f. omega (arith, f)) (λ f. omega (arith, f)) (Range.range_facts r e).version.known in
    sym (Range.by-version before_all r (λ z. omega (arith, v, z))) ∙ lt-ltb 0 r.version v

-- lists of none and of one
module _ (w : List ℕ) where
  pub judge-none : count_of w ≡ 0 → true ≡ sound_routes (ranges_of w)
  judge-none z = judge-end (judge w refl (omega arith)) (omega arith)

  pub judge-one : {r : RouteRange} → count_of w ≡ 1 → r ≡ range_at w 0 → sound_range r ≡ sound_routes (ranges_of w)
  judge-one {r} z q = go (sound_range r) refl
    where
      start : Judging w (count_of w) before_all 0
      start = judge w refl (omega arith)

      go : (t : Bool) → sound_range r ≡ t → sound_range r ≡ sound_routes (ranges_of w)
      go true e = e ∙ judge-end (judge-next start (omega arith) q e (first_in_order r e)) (omega arith)
      go false e = e ∙ judge-broken start (omega arith) q e
