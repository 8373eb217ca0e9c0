-- The bytes of an element part by part, and how many they are. Assumes nothing.
use Prim.Native.Nat.{ℕ, ◌+◌, ◌≤◌}
use mathlib.Core.Path.{◌≡◌, ap, ◌∙◌}
use mathlib.Core.List.{List, [], ◌∷◌, ◌++◌}
use mathlib.Core.Logic.{◌⊎◌, inl, inr, ⊎_elim}
use native.Mathlib.Omega.{arith}
use borrow.Author.Tests.{eq-eqb, ne_eqb, eqb-true, eqb-false}
use lib.Dec.{eqb}
use lib.ListN.{length, length-append}
use Rattle.answer.proofs.Tests.{true_or_false}
use Rattle.octets.specs.Big.{digits}
use Rattle.octets.proofs.BigLaws.{length_digits}
use Rattle.varint.specs.Numbers.{room, encode, encoded_size}
use Rattle.varint.proofs.Encoding.{length_encode, size-bounds}
use Rattle.lists.specs.declared.AddressEntry.{AddressEntry}
use Rattle.lists.specs.declared.RouteRange.{RouteRange}
use Rattle.lists.specs.Rules.{id_of}
use Rattle.capsule.specs.Entries.{address_bytes, entry_bytes, ends_bytes, range_bytes}
use Rattle.output.specs.Places.{Put}
use Rattle.output.proofs.Placing.{put_then}
use Rattle.capsule_write.specs.Sizes.{max_entry, max_range}

-- ---- numbers

pub encode-most : (v : ℕ) → length (encode v) ≤ room
encode-most v = omega (arith, length_encode v, size-bounds v)

-- a version is 4, or not
four_or_not : (v : ℕ) → (v ≡ 4) ⊎ (v ≡ 4 → ⊥)
four_or_not v = ⊎_elim (λ e. inl (eqb-true v 4 e)) (λ e. inr (eqb-false v 4 e)) (true_or_false (eqb v 4))

-- ---- entries

module _ (e : AddressEntry) where
  pub address4 : e.version ≡ 4 → address_bytes e ≡ digits 4 e.lo
  address4 h = rw (eq-eqb e.version 4 h)

  pub address6 : (e.version ≡ 4 → ⊥) → address_bytes e ≡ digits 8 e.hi ++ digits 8 e.lo
  address6 h = rw (ne_eqb e.version 4 h)

  pub address-most : length (address_bytes e) ≤ 16
  address-most =
      ⊎_elim (λ h. omega (arith, ap length (address4 h) ∙ length_digits 4 e.lo))
      (λ h.
      omega (
        arith,
        ap length (address6 h) ∙ length-append (digits 8 e.hi) (digits 8 e.lo),
        length_digits 8 e.hi,
        length_digits 8 e.lo,
      ))
      (four_or_not e.version)

  pub put-entry : {a b c d o : List ℕ} {at p q r s : ℕ} → Put (encode (id_of e)) at a p b → Put (e.version ∷ []) p b q c
      → Put (address_bytes e) q c r d → Put (e.prefix ∷ []) r d s o → Put (entry_bytes e) at a s o
  unfolding entry_bytes
  put-entry x y z t = put_then x (put_then y (put_then z t))

  around : length (entry_bytes e) ≡ encoded_size (id_of e) + (length (address_bytes e) + 2)
  unfolding entry_bytes
  around =
      omega (
        arith,
        length-append (encode (id_of e)) (e.version ∷ (address_bytes e ++ (e.prefix ∷ []))),
        length-append (address_bytes e) (e.prefix ∷ []),
        length_encode (id_of e),
      )

  pub length_entry4 : e.version ≡ 4 → encoded_size (id_of e) + 6 ≡ length (entry_bytes e)
  length_entry4 h = omega (arith, around, ap length (address4 h) ∙ length_digits 4 e.lo)

  pub length_entry6 : (e.version ≡ 4 → ⊥) → encoded_size (id_of e) + 18 ≡ length (entry_bytes e)
  length_entry6 h =
      omega (
        arith,
        around,
        ap length (address6 h) ∙ length-append (digits 8 e.hi) (digits 8 e.lo),
        length_digits 8 e.hi,
        length_digits 8 e.lo,
      )

  module _ {n : ℕ} (i : n ≡ encoded_size (id_of e)) where
    pub entry_size4 : e.version ≡ 4 → (n + 6 ≡ length (entry_bytes e)) × (n + 6 ≤ max_entry)
    entry_size4 h = (omega (arith, length_entry4 h), omega (arith, size-bounds (id_of e)))

    pub entry_size6 : (e.version ≡ 4 → ⊥) → (n + 18 ≡ length (entry_bytes e)) × (n + 18 ≤ max_entry)
    entry_size6 h = (omega (arith, length_entry6 h), omega (arith, size-bounds (id_of e)))

  pub entry-most : length (entry_bytes e) ≤ max_entry
  entry-most =
      let b = size-bounds (id_of e) in
      ⊎_elim (λ h. omega (arith, length_entry4 h)) (λ h. omega (arith, length_entry6 h)) (four_or_not e.version)

-- ---- ranges

module _ (r : RouteRange) where
  pub ends4 : r.version ≡ 4 → ends_bytes r ≡ digits 4 r.start_lo ++ digits 4 r.end_lo
  ends4 h = rw (eq-eqb r.version 4 h)

  pub ends6 : (r.version ≡ 4 → ⊥)
      → ends_bytes r ≡ digits 8 r.start_hi ++ (digits 8 r.start_lo ++ (digits 8 r.end_hi ++ digits 8 r.end_lo))
  ends6 h = rw (ne_eqb r.version 4 h)

  pub put_range_lem : {a b c d : List ℕ} {at p q s : ℕ} → Put (r.version ∷ []) at a p b → Put (ends_bytes r) p b q c
      → Put (r.protocol ∷ []) q c s d → Put (range_bytes r) at a s d
  unfolding range_bytes
  put_range_lem x y z = put_then x (put_then y z)

  between : length (range_bytes r) ≡ length (ends_bytes r) + 2
  unfolding range_bytes
  between = omega (arith, length-append (ends_bytes r) (r.protocol ∷ []))

  pub length_range4 : r.version ≡ 4 → 10 ≡ length (range_bytes r)
  length_range4 h = omega (arith, between, ap length (ends4 h) ∙ length-append (digits 4 r.start_lo) (digits 4 r.end_lo), length_digits 4 r.start_lo, length_digits 4 r.end_lo)

  pub length_range6 : (r.version ≡ 4 → ⊥) → 34 ≡ length (range_bytes r)
  length_range6 h =
      let a = digits 8 r.start_hi in
      let b = digits 8 r.start_lo in
      let c = digits 8 r.end_hi in
      let d = digits 8 r.end_lo in
      omega (
        arith,
        between,
        ap length (ends6 h) ∙ length-append a (b ++ (c ++ d)),
        length-append b (c ++ d),
        length-append c d,
        length_digits 8 r.start_hi,
        length_digits 8 r.start_lo,
        length_digits 8 r.end_hi,
        length_digits 8 r.end_lo,
      )

  pub range_most : length (range_bytes r) ≤ max_range
  range_most = ⊎_elim (λ h. omega (arith, length_range4 h)) (λ h. omega (arith, length_range6 h)) (four_or_not r.version)

  pub ends-most : length (ends_bytes r) ≤ 32
  ends-most = omega (arith, between, range_most)
