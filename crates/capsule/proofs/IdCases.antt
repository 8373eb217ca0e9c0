-- The Request ID of a good entry, by the code's cases: behind it stands the version, which says how many bytes the entry takes. Assumes nothing.
use Rattle.std.proofs.Common.{Some}
use Rattle.std.specs.Option.{IsSome}
use borrow.Author.Rules.{rules}
use Prim.Native.Nat.{ℕ, ◌+◌, ◌≤◌}
use mathlib.Core.Path.{◌≡◌, sym, ap, ◌∙◌}
use mathlib.Core.List.{List}
use mathlib.Core.Logic.{◌⊎◌, inl, inr, ⊎_elim}
use native.Mathlib.Nat.{add-zero}
use native.Mathlib.Omega.{arith}
use lib.ListN.{length, get_or, drop}
use lib.Seq.{get_or-drop}
use Rattle.varint.proofs.Reading.{size_in}
use Rattle.varint.specs.Numbers.{read_number, number, value_in}
use Rattle.lists.specs.declared.AddressEntry.{AddressEntry}
use Rattle.lists.specs.Rules.{id_of}
use Rattle.capsule.specs.Entries.{entry_read, read_entry}
use Rattle.capsule.specs.RequestIds.{GoodFront, ReadsId}
use Rattle.capsule.proofs.EntryCases as Entry

module _ (s : List ℕ) (id n : ℕ) (q : read_number s ≡ Some (number id n)) where
  said : (e : AddressEntry) (m : ℕ) → read_entry s ≡ Some (entry_read e m)
      → (id ≡ id_of e) × (((get_or s n 0 ≡ 4) × (n + 6 ≡ m)) ⊎ ((get_or s n 0 ≡ 6) × (n + 18 ≡ m)))
  said e m h =
      let t = Entry.taken s e m h in
      let p : Some (number id n) ≡ Some (number t.id t.n) = sym q ∙ t.number in
      let a : t.id ≡ id = sym (ap value_in p) in
      let b : t.n ≡ n = sym (ap size_in p) in
      of (rw (a, b) at t.body)
    where
      version : get_or (drop n s) 0 0 ≡ get_or s n 0
      version = simp add-zero at (get_or-drop n s 0 0)

      of : Entry.BodyTaken id n (drop n s) e m → (id ≡ id_of e) × (((get_or s n 0 ≡ 4) × (n + 6 ≡ m)) ⊎ ((get_or s n 0 ≡ 6) × (n + 18 ≡ m)))
      of (Entry.ipv4 v w b) = (ap id_of w, inl (sym version ∙ v, sym b.taken))
      of (Entry.ipv6 v w b) = (ap id_of w, inr (sym version ∙ v, sym b.taken))

  pub four : get_or s n 0 ≡ 4 → ReadsId s (record { id = id; size = n + 6 })
  four v =
      record {
        id = λ e m h. (said e m h).0;
        size = λ e m h. ⊎_elim (λ w. w.1) (λ w. absurd (omega (arith, w.0))) (said e m h).1;
      }

  pub six : (get_or s n 0 ≡ 4 → ⊥) → ReadsId s (record { id = id; size = n + 18 })
  six v =
      record {
        id = λ e m h. (said e m h).0;
        size = λ e m h. ⊎_elim (λ w. absurd (v w.0)) (λ w. w.1) (said e m h).1;
      }

  module _ (g : GoodFront s) where
    pub within : n + 6 ≤ length s
    within =
        let z = Entry.size s g.entry g.size g.reading in
        ⊎_elim (λ w. omega (arith, w.1, z.1)) (λ w. omega (arith, w.1, z.1)) (said g.entry g.size g.reading).1

    pub within-six : (get_or s n 0 ≡ 4 → ⊥) → n + 18 ≤ length s
    within-six v =
        let z = Entry.size s g.entry g.size g.reading in
        ⊎_elim (λ w. absurd (v w.0)) (λ w. omega (arith, w.1, z.1)) (said g.entry g.size g.reading).1

-- a good entry has an ID
pub there : (s : List ℕ) → GoodFront s → IsSome (read_number s)
there s g = rw (Entry.taken s g.entry g.size g.reading).number (search rules)
