-- An entry that covers an address, by its cases in the code's order; a declined request and an entry of prefix 0. Assumes nothing.
use Prim.Native.Nat.{ℕ, ◌^◌, ◌<◌}
use mathlib.Core.Bool.{Bool, true, false, not, and-true, and-false}
use mathlib.Core.Path.{◌≡◌, refl}
use native.Mathlib.Nat.{sub-zero, div-eq_of_lt}
use borrow.Author.Tests.{eq-eqb, ne_eqb}
use lib.Dec.{eqb}
use Rattle.inet.specs.declared.Address.{Address}
use Rattle.lists.specs.declared.AddressEntry.{AddressEntry}
use Rattle.lists.specs.Rules.{width_of, address_of, sound_entry}
use Rattle.policy.specs.Granted.{address_value, declined, beyond, high_bits, covers}
use Rattle.policy.proofs.AddressBounds.{entry-within}

-- a declined request
module _ (e : AddressEntry) where
  -- the width is not 0
  pub declined_prefix_zero : e.prefix ≡ 0 → declined e ≡ false
  declined_prefix_zero z = go (eqb e.version 4) refl
    where
      go : (t : Bool) → eqb e.version 4 ≡ t → declined e ≡ false
      go true q = rw (z, q) (and-false (eqb (address_of e) 0))
      go false q = rw (z, q) (and-false (eqb (address_of e) 0))

-- cover
module _ (a : Address) (e : AddressEntry) where
  pub covers-other_version : (e.version ≡ a.version → ⊥) → false ≡ covers a e
  unfolding covers
  covers-other_version n = simp (ne_eqb e.version a.version n)

  -- the high bits differ
  pub covers-apart : {k : ℕ} → k ≡ beyond e → eqb (high_bits k (address_of e)) (high_bits k (address_value a)) ≡ false → false ≡ covers a e
  unfolding covers
  covers-apart k q = simp (← k, q, and-false)

  -- they agree
  pub covers_agreeing : {k : ℕ} {b : Bool} → e.version ≡ a.version → k ≡ beyond e
      → eqb (high_bits k (address_of e)) (high_bits k (address_value a)) ≡ true → b ≡ declined e → not b ≡ covers a e
  unfolding covers
  covers_agreeing v k q d = rw (eq-eqb e.version a.version v, ← k, q, ← d, and-true)

  -- of prefix 0 every address of the version is covered
  pub covers_prefix_zero : e.prefix ≡ 0 → e.version ≡ a.version → address_of e < 2 ^ width_of e.version
      → address_value a < 2 ^ width_of e.version → covers a e ≡ true
  unfolding covers
  covers_prefix_zero z v f g =
      rw (eq-eqb e.version a.version v, declined_prefix_zero e z, z, sub-zero, div-eq_of_lt f, div-eq_of_lt g)

  pub covers-all : sound_entry e ≡ true → e.hi < 2 ^ 64 → e.lo < 2 ^ 64 → e.prefix ≡ 0 → e.version ≡ a.version
      → address_value a < 2 ^ width_of a.version → covers a e ≡ true
  covers-all s h l z v g =
      covers_prefix_zero z v (entry-within e s h l) (rw v g)
