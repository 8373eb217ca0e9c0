-- The rule of an entry as facts, and by its cases in the code's order. Assumes nothing.
use Prim.Native.Nat.{◌-◌, ◌%◌, ◌^◌, ◌≤◌, ◌<◌}
use mathlib.Core.Bool.{Bool, true, false, ◌&&◌}
use mathlib.Core.Path.{◌≡◌}
use native.Mathlib.Omega.{arith}
use borrow.Author.Tests.{lt-ltb, le-ltb, le-leb, eq-eqb, ne_eqb, ltb-true, leb-true, eqb-true}
use lib.Dec.{leb, ltb, eqb}
use Rattle.answer.specs.Choice.{pick}
use Rattle.answer.proofs.Tests.{and_both, only_false}
use Rattle.octets.specs.Wide.{low_zero}
use Rattle.varint.specs.Numbers.{limit}
use Rattle.lists.specs.declared.AddressEntry.{AddressEntry}
use Rattle.lists.specs.Rules.{width_of, of_version, address_of, id_of, sound_entry}
use Rattle.lists.proofs.VersionRule.{OfVersion, version_facts, facts_version, version_byte}

-- what the rule says
pub record EntryFacts (e : AddressEntry) : Type 0 where
  pub id : id_of e < limit
  pub version : OfVersion e.version (address_of e)
  pub prefix : e.prefix ≤ width_of e.version
  pub low : address_of e % 2 ^ (width_of e.version - e.prefix) ≡ 0

module _ (e : AddressEntry) where
  pub entry_facts : sound_entry e ≡ true → EntryFacts e
  unfolding sound_entry
  entry_facts h =
      let width = width_of e.version in
      let i = ltb (id_of e) limit in
      let v = of_version e.version (address_of e) in
      let p = leb e.prefix width in
      let l = low_zero (width - e.prefix) (address_of e) in
      let first = and_both i (v && (p && l)) h in
      let second = and_both v (p && l) first.1 in
      let third = and_both p l second.1 in
      record {
        id = ltb-true (id_of e) limit first.0;
        version = version_facts e.version (address_of e) second.0;
        prefix = leb-true e.prefix width third.0;
        low = eqb-true (address_of e % 2 ^ (width - e.prefix)) 0 third.1;
      }

  module _ (f : EntryFacts e) where
    pub facts_entry : sound_entry e ≡ true
    unfolding sound_entry
    facts_entry =
        let width = width_of e.version in
        rw (lt-ltb (id_of e) limit f.id, facts_version e.version (address_of e) f.version, le-leb e.prefix width f.prefix)
        (eq-eqb (address_of e % 2 ^ (width - e.prefix)) 0 f.low)

    pub version-small : e.version < 256
    version-small = version_byte e.version (address_of e) f.version

    pub prefix-small : e.prefix ≤ 128
    prefix-small = short (eqb e.version 4) f.prefix
      where
        short : (t : Bool) → e.prefix ≤ pick t 32 128 → e.prefix ≤ 128
        short true h = omega arith
        short false h = h

  pub entry_fails : (EntryFacts e → ⊥) → sound_entry e ≡ false
  entry_fails n = only_false (sound_entry e) (λ h. n (entry_facts h))

  -- the code's tests
  pub id-over : limit ≤ id_of e → ltb (id_of e) limit ≡ sound_entry e
  unfolding sound_entry
  id-over h = simp (le-ltb (id_of e) limit h)

  module _ (i : id_of e < limit) where
    module _ (q : e.version ≡ 4) where
      pub ipv4_address_over : ltb (address_of e) (2 ^ 32) ≡ false → false ≡ sound_entry e
      unfolding sound_entry
      ipv4_address_over h = simp (q, h, lt-ltb (id_of e) limit i)

      pub ipv4_prefix : ltb (address_of e) (2 ^ 32) ≡ true → (leb e.prefix 32 && low_zero (32 - e.prefix) (address_of e)) ≡ sound_entry e
      unfolding sound_entry
      ipv4_prefix h = simp (q, h, lt-ltb (id_of e) limit i)

    pub ipv6_prefix : e.version ≡ 6 → (leb e.prefix 128 && low_zero (128 - e.prefix) (address_of e)) ≡ sound_entry e
    unfolding sound_entry
    ipv6_prefix q = simp (q, lt-ltb (id_of e) limit i)

    pub other-version : (e.version ≡ 4 → ⊥) → (e.version ≡ 6 → ⊥) → false ≡ sound_entry e
    unfolding sound_entry
    other-version f g = simp (ne_eqb e.version 4 f, ne_eqb e.version 6 g, lt-ltb (id_of e) limit i)
