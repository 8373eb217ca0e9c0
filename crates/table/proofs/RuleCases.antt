-- The rules of a plan by the cases of the code, and as facts. Assumes nothing.
use Prim.Native.Nat.{ℕ, ◌+◌, ◌-◌, ◌%◌, ◌≤◌, ◌<◌}
use mathlib.Core.Bool.{Bool, true, false, ◌&&◌, ◌||◌}
use mathlib.Core.Path.{◌≡◌, refl}
use mathlib.Core.Logic.{◌⊎◌, inl, inr, ⊎_elim}
use borrow.Author.Tests.{ltb-true, leb-true, eqb-true}
use lib.Dec.{leb, ltb, eqb}
use Rattle.answer.proofs.Tests.{and_both}
use Rattle.varint.specs.Numbers.{limit}
use Rattle.table.specs.Limits.{static_limit}
use Rattle.table.specs.Rules.{id_rule, segment_rule, clear_of, sum_rule}

-- ---- the ID

module _ (previous id : ℕ) where
  pub record IdFacts : Type 0 where
    pub above : previous < id
    pub below : id < limit

  pub id_facts : id_rule previous id ≡ true → IdFacts
  id_facts e =
      let f = and_both (ltb previous id) (ltb id limit) e in
      record { above = ltb-true previous id f.0; below = ltb-true id limit f.1 }

-- ---- a segment

module _ (ended offset size : ℕ) where
  pub record SegmentFacts : Type 0 where
    pub some : 1 ≤ size
    pub behind : ended ≤ offset
    pub within : offset + size ≤ static_limit

  pub segment_facts : segment_rule ended offset size ≡ true → SegmentFacts
  segment_facts h =
      let f = and_both (leb 1 size) (leb ended offset && leb (offset + size) static_limit) h in
      let g = and_both (leb ended offset) (leb (offset + size) static_limit) f.1 in
      record {
        some = leb-true 1 size f.0;
        behind = leb-true ended offset g.0;
        within = leb-true (offset + size) static_limit g.1;
      }

-- ---- the field and a segment

or_either : (a b : Bool) → (a || b) ≡ true → (a ≡ true) ⊎ (b ≡ true)
or_either true b e = inl refl
or_either false b e = inr e

module _ (field offset size : ℕ) where
  pub clear_facts : clear_of field offset size ≡ true → (field + 2 ≤ offset) ⊎ (offset + size ≤ field)
  clear_facts e =
      ⊎_elim (λ a. inl (leb-true (field + 2) offset a)) (λ a. inr (leb-true (offset + size) field a))
      (or_either (leb (field + 2) offset) (leb (offset + size) field) e)

-- ---- the checksum pair

module _ (field start : ℕ) where
  pub record SumFacts : Type 0 where
    pub least : 20 ≤ start
    pub behind : start ≤ field
    pub within : field + 2 ≤ static_limit
    pub even : (field - start) % 2 ≡ 0

  pub sum_facts : sum_rule field start ≡ true → SumFacts
  sum_facts h =
      let even = eqb ((field - start) % 2) 0 in
      let f = and_both (leb 20 start) (leb start field && (leb (field + 2) static_limit && even)) h in
      let g = and_both (leb start field) (leb (field + 2) static_limit && even) f.1 in
      let k = and_both (leb (field + 2) static_limit) even g.1 in
      record {
        least = leb-true 20 start f.0;
        behind = leb-true start field g.0;
        within = leb-true (field + 2) static_limit k.0;
        even = eqb-true ((field - start) % 2) 0 k.1;
      }
