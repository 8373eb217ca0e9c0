-- Entries of one tag put together by the bits of their words: the one entry is sound exactly where all of them are.
-- The bits of two numbers are below 2^k where both numbers are, and the lowest k of them are 0 where those of both are. Assumes nothing.
use Prim.Native.Nat.{ℕ, ◌+◌, ◌-◌, ◌/◌, ◌%◌, ◌^◌, ◌≤◌, ◌<◌}
use mathlib.Core.Bool.{Bool, true, false, ◌&&◌, and_assoc}
use mathlib.Core.Path.{◌≡◌, refl, sym, ap, ◌∙◌}
use mathlib.Core.List.{List}
use native.Mathlib.Nat.{lt_of_le_of_lt}
use native.Mathlib.Omega.{arith}
use lib.Bits.{bit_or, and_le_l, and_le_r, or_lt, or_mod, or_block, or_add_and}
use Rattle.octets.specs.Wide.{wide}
use Rattle.octets.specs.Scan.{from, all_of}
use Rattle.octets.proofs.Scans.{Checking, from_more}
use Rattle.lists.specs.declared.AddressEntry.{AddressEntry}
use Rattle.lists.specs.declared.Joined.{Joined}
use Rattle.lists.specs.Rules.{width_of, address_of, sound_entry}
use Rattle.lists.specs.Words.{words_per_entry, word, entry_at}
use Rattle.lists.specs.Joined.{entry_of, Joins}
use Rattle.lists.proofs.EntryRule.{EntryFacts, entry_facts, facts_entry}

-- ---- the bits of two numbers

le_none : (a b : ℕ) → a ≤ b → b ≡ 0 → a ≡ 0
le_none a b h e = omega arith

module _ (a b : ℕ) where
  le_or_left : a ≤ bit_or a b
  le_or_left = omega (arith, or_add_and a b, and_le_r a b)

  le_or_right : b ≤ bit_or a b
  le_or_right = omega (arith, or_add_and a b, and_le_l a b)

-- the low bits
module _ (a b : ℕ) where
  or_low-left : (k : ℕ) → bit_or a b % 2 ^ k ≡ 0 → a % 2 ^ k ≡ 0
  or_low-left k h = le_none (a % 2 ^ k) (bit_or a b % 2 ^ k) (rw (or_mod a b k) (le_or_left (a % 2 ^ k) (b % 2 ^ k))) h

  or_low-right : (k : ℕ) → bit_or a b % 2 ^ k ≡ 0 → b % 2 ^ k ≡ 0
  or_low-right k h = le_none (b % 2 ^ k) (bit_or a b % 2 ^ k) (rw (or_mod a b k) (le_or_right (a % 2 ^ k) (b % 2 ^ k))) h

  or_low : (k : ℕ) → a % 2 ^ k ≡ 0 → b % 2 ^ k ≡ 0 → bit_or a b % 2 ^ k ≡ 0
  or_low k h g = or_mod a b k ∙ rw (h, g)

-- ---- two entries

and_same : (a b c : Bool) → (a ≡ true → (b ≡ true) × (c ≡ true)) → (b ≡ true → c ≡ true → a ≡ true) → a ≡ (b && c)
and_same a true true f g = g refl refl
and_same true true false f g = sym (f refl).1
and_same false true false f g = refl
and_same true false c f g = sym (f refl).0
and_same false false c f g = refl

-- the facts of an entry hold of one whose words have some of its bits
part_facts : (t i h l j m n : ℕ) → i ≤ j → wide h l ≤ wide m n → ((k : ℕ) → wide m n % 2 ^ k ≡ 0 → wide h l % 2 ^ k ≡ 0)
    → EntryFacts (entry_of t j m n) → EntryFacts (entry_of t i h l)
part_facts t i h l j m n p q z f =
    record {
      id = lt_of_le_of_lt p f.id;
      version = record { known = f.version.known; ipv4 = λ e. lt_of_le_of_lt q (f.version.ipv4 e) };
      prefix = f.prefix;
      low = z (width_of (t % 256) - t / 256 % 256) f.low;
    }

module _ (t ai ah al bi bh bl : ℕ) (p : al < 2 ^ 64) (q : bl < 2 ^ 64) where
  abbrev A : AddressEntry
  A = entry_of t ai ah al

  abbrev B : AddressEntry
  B = entry_of t bi bh bl

  abbrev both : AddressEntry
  both = entry_of t (bit_or ai bi) (bit_or ah bh) (bit_or al bl)

  -- the bits of two addresses are those of their words
  address-both : bit_or (address_of A) (address_of B) ≡ address_of both
  address-both = or_block 64 ah bh al bl p q

  left_facts : EntryFacts both → EntryFacts A
  left_facts =
      part_facts t ai ah al (bit_or ai bi) (bit_or ah bh) (bit_or al bl) (le_or_left ai bi)
      (rw address-both at (le_or_left (address_of A) (address_of B)))
      (λ k h. or_low-left (address_of A) (address_of B) k (rw address-both h))

  right_facts : EntryFacts both → EntryFacts B
  right_facts =
      part_facts t bi bh bl (bit_or ai bi) (bit_or ah bh) (bit_or al bl) (le_or_right ai bi)
      (rw address-both at (le_or_right (address_of A) (address_of B)))
      (λ k h. or_low-right (address_of A) (address_of B) k (rw address-both h))

  both_facts : EntryFacts A → EntryFacts B → EntryFacts both
  both_facts f g =
      let k = width_of (t % 256) - t / 256 % 256 in
      record {
        id = or_lt 62 ai bi f.id g.id;
        version =
            record {
              known = f.version.known;
              ipv4 = λ e. rw address-both at (or_lt 32 (address_of A) (address_of B) (f.version.ipv4 e) (g.version.ipv4 e));
            };
        prefix = f.prefix;
        low = rw address-both at (or_low (address_of A) (address_of B) k f.low g.low);
      }

  sound-both : sound_entry both ≡ (sound_entry A && sound_entry B)
  sound-both =
      and_same (sound_entry both) (sound_entry A) (sound_entry B)
      (λ h. let f = entry_facts both h in (facts_entry A (left_facts f), facts_entry B (right_facts f)))
      (λ h g. facts_entry both (both_facts (entry_facts A h) (entry_facts B g)))

-- ---- the loop that puts entries together

-- entry k, of tag t
at_tag : (w : List ℕ) (k t : ℕ) → word words_per_entry w k 2 ≡ t
    → entry_at w k ≡ entry_of t (word words_per_entry w k 1) (word words_per_entry w k 3) (word words_per_entry w k 4)
unfolding entry_at
at_tag w k t e = rw e

module _ (w : List ℕ) (i n : ℕ) where
  pub join_start : i < n
      → Joins w i n (record { next = i + 1; id = word words_per_entry w i 1; hi = word words_per_entry w i 3; lo = word words_per_entry w i 4 })
  join_start h =
      record {
        more = omega arith;
        within = omega arith;
        rest = rw (from_more (entry_at w) i n h, at_tag w i (word words_per_entry w i 2) refl);
      }

  module _ {k id hi lo : ℕ} (s : Joins w i n (record { next = k; id = id; hi = hi; lo = lo })) where
    pub join_more : k < n → word words_per_entry w k 2 ≡ word words_per_entry w i 2 → lo < 2 ^ 64 → word words_per_entry w k 4 < 2 ^ 64
        → Joins w i n (record {
          next = k + 1;
          id = bit_or id (word words_per_entry w k 1);
          hi = bit_or hi (word words_per_entry w k 3);
          lo = bit_or lo (word words_per_entry w k 4);
        })
    join_more h e p q =
        let t = word words_per_entry w i 2 in
        let a = word words_per_entry w k 1 in
        let c = word words_per_entry w k 3 in
        let d = word words_per_entry w k 4 in
        let x = sound_entry (entry_of t id hi lo) in
        let y = sound_entry (entry_of t a c d) in
        let z = all_of sound_entry (from (entry_at w) (k + 1) (n - (k + 1))) in
        let split : all_of sound_entry (from (entry_at w) i (n - i)) ≡ (x && (y && z)) = rw (from_more (entry_at w) k n h, at_tag w k t e) at s.rest in
        record {
          more = omega (arith, s.more);
          within = omega arith;
          rest = split ∙ sym (and_assoc x y z) ∙ ap (λ (u : Bool). u && z) (sym (sound-both t id hi lo a c d p q));
        }

-- ---- the loop over all entries

module _ {w : List ℕ} {n : ℕ} {b : Bool} {i : ℕ} {r : Joined} (s : Checking sound_entry (entry_at w) n b i) (j : Joins w i n r) where
  abbrev of : AddressEntry
  of = entry_of (word words_per_entry w i 2) r.id r.hi r.lo

  pub joined_fail : sound_entry of ≡ false → false ≡ b
  joined_fail f = rw f at (sym j.rest ∙ s.rest)

  pub joined_pass : sound_entry of ≡ true → Checking sound_entry (entry_at w) n b r.next
  joined_pass f = record { within = j.within; rest = rw f at (sym j.rest ∙ s.rest) }
