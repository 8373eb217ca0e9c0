-- What the header says, version by version. Assumes nothing.
use mathlib.Core.Path.{◌≡◌, sym, ap}
use mathlib.Core.Bool.{false}
use mathlib.Core.List.{List}
use Prim.Native.Nat.{ℕ, ◌≤◌}
use native.Mathlib.Omega.{arith}
use lib.ListN.{length, get_or, get_or-eq_default}
use lib.Dec.{eqb}
use borrow.Author.Tests.{eq-eqb, ne_eqb}
use Rattle.answer.specs.Choice.{pick}
use Rattle.inet.specs.declared.Address.{Address}
use Rattle.inet.specs.Packet.{version_of, address4_at, address6_at, source_of, destination_of, protocol_of, protocol_byte, icmp_in, is_icmp, hop_place, hops_of}
use Rattle.chain.specs.Chain.{chain_of, protocol_in}

-- a choice by the version, in a packet of version 4, 6, and any other
module _ {A : Type 0} (v : ℕ) (a b d : A) where
  pub pick_4 : v ≡ 4 → pick (eqb v 4) a b ≡ a
  pick_4 e = rw (eq-eqb v 4 e)

  pub pick_not_4 : (v ≡ 4 → ⊥) → pick (eqb v 4) a b ≡ b
  pick_not_4 n = rw (ne_eqb v 4 n)

  pub pick_6 : v ≡ 6 → pick (eqb v 4) a (pick (eqb v 6) b d) ≡ b
  pick_6 e = rw (ne_eqb v 4 (λ f. omega arith), eq-eqb v 6 e)

  pub pick_other : (v ≡ 4 → ⊥) → (v ≡ 6 → ⊥) → pick (eqb v 4) a (pick (eqb v 6) b d) ≡ d
  pick_other n m = rw (ne_eqb v 4 n, ne_eqb v 6 m)

module _ (v q : ℕ) where
  pub icmp_in_4 : v ≡ 4 → eqb q 1 ≡ icmp_in v q
  unfolding icmp_in
  icmp_in_4 e = sym (pick_4 v (eqb q 1) _ false e)

  pub icmp_in_6 : v ≡ 6 → eqb q 58 ≡ icmp_in v q
  unfolding icmp_in
  icmp_in_6 e = sym (pick_6 v (eqb q 1) (eqb q 58) false e)

  pub icmp_in-other : (v ≡ 4 → ⊥) → (v ≡ 6 → ⊥) → false ≡ icmp_in v q
  unfolding icmp_in
  icmp_in-other n m = sym (pick_other v _ _ false n m)

module _ (p : List ℕ) where
  pub source_of_4 : version_of p ≡ 4 → source_of p ≡ address4_at 12 p
  unfolding source_of
  source_of_4 e = pick_4 (version_of p) (address4_at 12 p) (address6_at 8 p) (address6_at 8 p) e

  pub source_of_not_4 : (version_of p ≡ 4 → ⊥) → source_of p ≡ address6_at 8 p
  unfolding source_of
  source_of_not_4 n = pick_not_4 (version_of p) (address4_at 12 p) (address6_at 8 p) (address6_at 8 p) n

  pub destination_of_4 : version_of p ≡ 4 → destination_of p ≡ address4_at 16 p
  unfolding destination_of
  destination_of_4 e = pick_4 (version_of p) (address4_at 16 p) (address6_at 24 p) (address6_at 24 p) e

  pub destination_of_not_4 : (version_of p ≡ 4 → ⊥) → destination_of p ≡ address6_at 24 p
  unfolding destination_of
  destination_of_not_4 n = pick_not_4 (version_of p) (address4_at 16 p) (address6_at 24 p) (address6_at 24 p) n

  pub protocol_of_4 : version_of p ≡ 4 → protocol_of p ≡ get_or p 9 0
  unfolding protocol_of
  protocol_of_4 e = pick_4 (version_of p) _ _ 0 e

  pub protocol_of_6 : version_of p ≡ 6 → protocol_of p ≡ protocol_in (chain_of p)
  unfolding protocol_of
  protocol_of_6 e = pick_6 (version_of p) _ (protocol_in (chain_of p)) 0 e

  pub protocol_byte_4 : version_of p ≡ 4 → protocol_byte p ≡ get_or p 9 0
  unfolding protocol_byte
  protocol_byte_4 e = pick_4 (version_of p) _ _ 0 e

  pub protocol_byte_6 : version_of p ≡ 6 → protocol_byte p ≡ get_or p 6 0
  unfolding protocol_byte
  protocol_byte_6 e = pick_6 (version_of p) _ _ 0 e

  pub protocol_byte-other : (version_of p ≡ 4 → ⊥) → (version_of p ≡ 6 → ⊥) → protocol_byte p ≡ 0
  unfolding protocol_byte
  protocol_byte-other n m = pick_other (version_of p) _ _ 0 n m

  pub is_icmp_6 : version_of p ≡ 6 → eqb (protocol_of p) 58 ≡ is_icmp p
  unfolding is_icmp
  is_icmp_6 e = icmp_in_6 (version_of p) (protocol_of p) e

  pub hop_place_4 : version_of p ≡ 4 → hop_place p ≡ 8
  unfolding hop_place
  hop_place_4 e = pick_4 (version_of p) 8 7 0 e

  pub hop_place_not_4 : (version_of p ≡ 4 → ⊥) → hop_place p ≡ 7
  unfolding hop_place
  hop_place_not_4 n = pick_not_4 (version_of p) 8 7 0 n

  pub hops_of_4 : version_of p ≡ 4 → hops_of p ≡ get_or p 8 0
  unfolding hops_of
  hops_of_4 e = ap (λ (i : ℕ). get_or p i 0) (hop_place_4 e)

  pub hops_of_not_4 : (version_of p ≡ 4 → ⊥) → hops_of p ≡ get_or p 7 0
  unfolding hops_of
  hops_of_not_4 n = ap (λ (i : ℕ). get_or p i 0) (hop_place_not_4 n)

-- past the end a byte reads as 0
pub get_d_past : (s : List ℕ) (i : ℕ) → length s ≤ i → 0 ≡ get_or s i 0
get_d_past s i h = sym (get_or-eq_default s 0 h)

-- an address by its parts
pub address-parts : {v w h i l m : ℕ} → v ≡ w → h ≡ i → l ≡ m → ◌≡◌ {A = Address} (record { version = v; hi = h; lo = l }) (record { version = w; hi = i; lo = m })
address-parts e f g = cc
