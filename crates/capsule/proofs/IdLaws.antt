-- The first fault of a request: that of its Request IDs up to the first broken entry, or else that of the same entries as an assignment. Assumes nothing.
use Rattle.std.proofs.Common.{Option, Some, None, Ok}
use Prim.Native.Nat.{ℕ, zero, suc, ◌*◌, ◌≤◌}
use mathlib.Core.Bool.{Bool, true, false, ◌&&◌, ◌||◌}
use mathlib.Core.Path.{◌≡◌, refl, sym, ap, ◌∙◌}
use mathlib.Core.List.{List, [], ◌∷◌}
use native.Mathlib.Omega.{arith}
use borrow.Author.Tests.{eqb-true, eqb-false, eq-eqb, ne_eqb}
use lib.Dec.{eqb}
use lib.ListN.{length, drop, length-drop}
use Rattle.answer.specs.declared.Refusal.TheVariants.{BadRequestId}
use Rattle.answer.specs.Choice.{pick}
use Rattle.answer.specs.Verdict.{stop_if}
use Rattle.octets.specs.Scan.{any_of}
use Rattle.distinct.specs.Repeats.{repeated}
use Rattle.lists.specs.declared.AddressEntry.{AddressEntry}
use Rattle.lists.specs.Rules.{id_of}
use Rattle.capsule.specs.declared.element.EntryRead.{EntryRead}
use Rattle.capsule.specs.Elements.{Parsed, fault, before, passing, after_element, parse, settled, elements_in}
use Rattle.capsule.specs.Entries.{read_entry, entry_element, entry_follows, entry_format}
use Rattle.capsule.specs.RequestIds.{ids_after, ids_from, ids_in, ids_refused}
use Rattle.capsule.specs.Capsules.{max_value, min_entry, max_entries}
use Rattle.capsule.proofs.EntryCases as Entry

-- ---- IDs after some earlier ones

-- one of the IDs is zero, or one of the earlier, or two are equal
abbrev refused_after : (ℕ → Bool) → List ℕ → Bool
refused_after earlier ids = any_of (λ d. eqb d 0) ids || (any_of earlier ids || repeated ids)

eqb_sym : (a b : ℕ) → eqb a b ≡ eqb b a
eqb_sym a b = go (eqb b a) refl
  where
    go : (t : Bool) → eqb b a ≡ t → eqb a b ≡ t
    go true e = eq-eqb a b (sym (eqb-true b a e))
    go false e = ne_eqb a b (λ q. eqb-false b a e (sym q))

any_same : (p q : ℕ → Bool) → ((x : ℕ) → p x ≡ q x) → (xs : List ℕ) → any_of p xs ≡ any_of q xs
any_same p q e [] = refl
any_same p q e (x ∷ xs) = rw (e x, any_same p q e xs)

or_pairs : (a b c d : Bool) → ((a || b) || (c || d)) ≡ ((a || c) || (b || d))
or_pairs true b c d = refl
or_pairs false true true d = refl
or_pairs false true false d = refl
or_pairs false false c d = refl

any_either : (p q : ℕ → Bool) (xs : List ℕ) → any_of (λ x. p x || q x) xs ≡ (any_of p xs || any_of q xs)
any_either p q [] = refl
any_either p q (x ∷ xs) = rw (any_either p q xs) (or_pairs (p x) (q x) (any_of p xs) (any_of q xs))

or_first : (z zs p ps e r : Bool) → ((z || zs) || ((p || ps) || (e || r))) ≡ ((z || p) || (zs || ((e || ps) || r)))
or_first true zs p ps e r = refl
or_first false true true ps e r = refl
or_first false true false ps e r = refl
or_first false false true ps e r = refl
or_first false false false true true r = refl
or_first false false false true false r = refl
or_first false false false false true r = refl
or_first false false false false false r = refl

-- the first ID, and then the others after it
refused-first : (earlier : ℕ → Bool) (x : ℕ) (xs : List ℕ)
    → refused_after earlier (x ∷ xs) ≡ ((eqb x 0 || earlier x) || refused_after (λ y. eqb x y || earlier y) xs)
unfolding repeated
refused-first earlier x xs =
    rw (any_either (eqb x) earlier xs, any_same (eqb x) (λ d. eqb d x) (eqb_sym x) xs)
    (or_first (eqb x 0) (any_of (λ d. eqb d 0) xs) (earlier x) (any_of earlier xs) (any_of (λ d. eqb d x) xs) (repeated xs))

any_never : (xs : List ℕ) → any_of (λ x. false) xs ≡ false
any_never [] = refl
any_never (x ∷ xs) = any_never xs

-- after no earlier ones
refused_none : (ids : List ℕ) → refused_after (λ x. false) ids ≡ ids_refused ids
refused_none ids = rw (any_never ids)

-- ---- parsing

-- an entry of a request whose ID is zero or an earlier one is refused, and any other passes
follows-request : (earlier : List AddressEntry) (e : AddressEntry) (p : Parsed AddressEntry)
    → passing (entry_follows true earlier e) p ≡ pick (eqb (id_of e) 0 || any_of (λ d. eqb (id_of d) (id_of e)) earlier) (fault BadRequestId) p
unfolding entry_follows
follows-request earlier e p = bad (eqb (id_of e) 0 || any_of (λ d. eqb (id_of d) (id_of e)) earlier)
  where
    bad : (b : Bool) → passing (stop_if b BadRequestId (Ok tt)) p ≡ pick b (fault BadRequestId) p
    bad true = refl
    bad false = refl

follows-assign : (earlier : List AddressEntry) (e : AddressEntry) (p : Parsed AddressEntry) → passing (entry_follows false earlier e) p ≡ p
unfolding entry_follows
follows-assign earlier e p = refl

pick-before : (a b : Bool) (e : AddressEntry) (p : Parsed AddressEntry)
    → pick a (fault BadRequestId) (before (e ∷ []) (pick b (fault BadRequestId) p)) ≡ pick (a || b) (fault BadRequestId) (before (e ∷ []) p)
pick-before true b e p = refl
pick-before false true e p = refl
pick-before false false e p = refl

-- a request after the earlier entries, where an assignment comes after any others
parse_request_after : (fuel : ℕ) (earlier others : List AddressEntry) (s : List ℕ)
    → parse (entry_format true) fuel earlier s
    ≡ pick (refused_after (λ x. any_of (λ d. eqb (id_of d) x) earlier) (ids_from fuel s)) (fault BadRequestId) (parse (entry_format false) fuel others s)
unfolding parse ids_from repeated
parse_request_after zero earlier others s = refl
parse_request_after (suc fuel) earlier others [] = refl
parse_request_after (suc fuel) earlier others (b ∷ s) =
    after (λ ds es t. parse_request_after fuel ds es t) (read_entry (b ∷ s))
  where
    after : ((ds es : List AddressEntry) (t : List ℕ)
        → parse (entry_format true) fuel ds t
        ≡ pick (refused_after (λ x. any_of (λ d. eqb (id_of d) x) ds) (ids_from fuel t)) (fault BadRequestId) (parse (entry_format false) fuel es t))
        → (r : Option EntryRead)
        → after_element (entry_format true) (parse (entry_format true) fuel) earlier (b ∷ s) (entry_element r)
        ≡ pick (refused_after (λ x. any_of (λ d. eqb (id_of d) x) earlier) (ids_after (ids_from fuel) (b ∷ s) r)) (fault BadRequestId)
        (after_element (entry_format false) (parse (entry_format false) fuel) others (b ∷ s) (entry_element r))
    after ih (Some r) =
        let e = r.entry in
        let n = r.size in
        rw (
          follows-request earlier e (before (e ∷ []) (parse (entry_format true) fuel (e ∷ earlier) (drop n (b ∷ s)))),
          follows-assign others e (before (e ∷ []) (parse (entry_format false) fuel (e ∷ others) (drop n (b ∷ s)))),
          refused-first (λ x. any_of (λ d. eqb (id_of d) x) earlier) (id_of e) (ids_from fuel (drop n (b ∷ s))),
          ih (e ∷ earlier) (e ∷ others) (drop n (b ∷ s)),
        )
        (pick-before (eqb (id_of e) 0 || any_of (λ d. eqb (id_of d) (id_of e)) earlier)
        (refused_after (λ x. any_of (λ d. eqb (id_of d) x) (e ∷ earlier)) (ids_from fuel (drop n (b ∷ s))))
        e
        (parse (entry_format false) fuel (e ∷ others) (drop n (b ∷ s))))
    after ih None = refl

-- in a request the IDs are judged first, and then all else as in an assignment
parse-entries : (request : Bool) (fuel : ℕ) (s : List ℕ)
    → parse (entry_format request) fuel [] s ≡ pick (request && ids_refused (ids_from fuel s)) (fault BadRequestId) (parse (entry_format false) fuel [] s)
parse-entries true fuel s =
    parse_request_after fuel [] [] s
    ∙ ap (λ (b : Bool). pick b (fault BadRequestId) (parse (entry_format false) fuel [] s)) (refused_none (ids_from fuel s))
parse-entries false fuel s = refl

settled-pick : (request b : Bool) (limit : ℕ) (p : Parsed AddressEntry)
    → settled request limit (pick b (fault BadRequestId) p) ≡ pick b (fault BadRequestId) (settled request limit p)
settled-pick request true limit p = refl
settled-pick request false limit p = refl

pub elements-entries : (request : Bool) (limit : ℕ) (s : List ℕ)
    → elements_in (entry_format request) request limit s
    ≡ pick (request && ids_refused (ids_in s)) (fault BadRequestId) (elements_in (entry_format false) request limit s)
unfolding elements_in
elements-entries request limit s =
    ap (settled request limit) (parse-entries request (suc (length s)) s)
    ∙ settled-pick request (request && ids_refused (ids_in s)) limit (parse (entry_format false) (suc (length s)) [] s)

-- ---- how many IDs there are

-- an entry takes 7 bytes at least
length_ids : (fuel : ℕ) (s : List ℕ) → min_entry * length (ids_from fuel s) ≤ length s
unfolding ids_from
length_ids zero s = omega arith
length_ids (suc fuel) [] = omega arith
length_ids (suc fuel) (b ∷ s) = after (λ t. length_ids fuel t) (read_entry (b ∷ s)) refl
  where
    after : ((t : List ℕ) → min_entry * length (ids_from fuel t) ≤ length t) → (r : Option EntryRead) → read_entry (b ∷ s) ≡ r → min_entry * length (ids_after (ids_from fuel) (b ∷ s) r) ≤ length (b ∷ s)
    after ih (Some r) q =
        let z = Entry.size (b ∷ s) r.entry r.size q in
        omega (arith, ih (drop r.size (b ∷ s)), z.0, z.1, length-drop r.size (b ∷ s))
    after ih None q = omega arith

-- no more than there is room for
pub length_in : (s : List ℕ) → length s ≤ max_value → length (ids_in s) ≤ max_entries
length_in s h = omega (arith, length_ids (suc (length s)) s)

-- ---- whether they are judged

module _ (request : Bool) (s : List ℕ) where
  pub judged : request ≡ true → ids_refused (ids_in s) ≡ (request && ids_refused (ids_in s))
  judged e = rw e

  pub judged_not : request ≡ false → false ≡ (request && ids_refused (ids_in s))
  judged_not e = rw e
