-- The addresses of a packet, and those of sound entries, have no more bits than their version gives them. Assumes nothing.
use Prim.Native.Nat.{ℕ, suc, ◌+◌, ◌*◌, ◌^◌, ◌<◌, ◌≤◌}
use mathlib.Core.Bool.{Bool, true, false}
use mathlib.Core.Path.{◌≡◌, refl}
use mathlib.Core.List.{List}
use mathlib.Core.Logic.{⊎_elim}
use native.Mathlib.Nat.{lt_of_lt_of_le, mul-le-mul_right, pow-le-pow_right, one-mul}
use native.Mathlib.Omega.{arith}
use borrow.Author.Tests.{eqb-true, eqb-false, ne_eqb}
use lib.Dec.{lit<, eqb}
use lib.ListN.{length, take, drop, length-take}
use lib.Pow.{pow-add}
use Rattle.octets.specs.Big.{big_from, big_at, Bytes}
use Rattle.octets.specs.Wide.{wide}
use Rattle.octets.proofs.BigLaws as Big
use Rattle.inet.specs.declared.Address.{Address}
use Rattle.inet.specs.Packet.{version_of, address4_at, address6_at, source_of, destination_of}
use Rattle.inet.proofs.HeaderLaws.{source_of_4, source_of_not_4, destination_of_4, destination_of_not_4}
use Rattle.lists.specs.declared.AddressEntry.{AddressEntry}
use Rattle.lists.specs.Rules.{width_of, address_of, sound_entry}
use Rattle.lists.proofs.EntryRule.{entry_facts}
use Rattle.policy.specs.Granted.{address_value}

-- two words have 128 bits
pub wide_below : (hi lo : ℕ) → hi < 2 ^ 64 → lo < 2 ^ 64 → wide hi lo < 2 ^ 128
wide_below hi lo h l =
    let m : suc hi * 2 ^ 64 ≤ 2 ^ 64 * 2 ^ 64 = mul-le-mul_right (2 ^ 64) h in
    let s : wide hi lo < suc hi * 2 ^ 64 = omega arith in
    rw (pow-add 2 64 64) (lt_of_lt_of_le s m)

-- entries
pub entry-within : (e : AddressEntry) → sound_entry e ≡ true → e.hi < 2 ^ 64 → e.lo < 2 ^ 64
    → address_of e < 2 ^ width_of e.version
entry-within e s h l =
    let f = (entry_facts e s).version in
    ⊎_elim (λ q. rw q (f.ipv4 q)) (λ q. rw q (wide_below e.hi e.lo h l)) f.known

-- packets
module _ (p : List ℕ) (b : Bytes p) where
  big-below : (i n : ℕ) → big_at i n p < 256 ^ n
  big-below i n =
      let l = take n (drop i p) in
      let m : 256 ^ length l ≤ 256 ^ n = pow-le-pow_right (lit< tt) {j = n} (simp length-take (omega arith)) in
      let s : big_from 0 l < 1 * 256 ^ length l = Big.bound 0 l (Big.bytes_take n (drop i p) (Big.bytes_drop i p b)) in
      lt_of_lt_of_le (rw one-mul at s) m

  abbrev Within : Address → Type 0
  Within a = address_value a < 2 ^ width_of a.version

  within_4 : (i : ℕ) → Within (address4_at i p)
  within_4 i = omega (arith, big-below i 4)

  within_6 : (version_of p ≡ 4 → ⊥) → (i : ℕ) → Within (address6_at i p)
  within_6 n i = rw (ne_eqb (version_of p) 4 n) (wide_below (big_at i 8 p) (big_at (i + 8) 8 p) (big-below i 8) (big-below (i + 8) 8))

  pub source_within : address_value (source_of p) < 2 ^ width_of (source_of p).version
  source_within = go (eqb (version_of p) 4) refl
    where
      go : (t : Bool) → eqb (version_of p) 4 ≡ t → Within (source_of p)
      go true q = rw (source_of_4 p (eqb-true (version_of p) 4 q)) (within_4 12)
      go false q = rw (source_of_not_4 p (eqb-false (version_of p) 4 q)) (within_6 (eqb-false (version_of p) 4 q) 8)

  pub destination_within : address_value (destination_of p) < 2 ^ width_of (destination_of p).version
  destination_within = go (eqb (version_of p) 4) refl
    where
      go : (t : Bool) → eqb (version_of p) 4 ≡ t → Within (destination_of p)
      go true q = rw (destination_of_4 p (eqb-true (version_of p) 4 q)) (within_4 16)
      go false q = rw (destination_of_not_4 p (eqb-false (version_of p) 4 q)) (within_6 (eqb-false (version_of p) 4 q) 24)
