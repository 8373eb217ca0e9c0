-- The rule of a version and an address as facts. Assumes nothing.
use Prim.Native.Nat.{ℕ, ◌^◌, ◌<◌}
use mathlib.Core.Bool.{Bool, true, false, ◌&&◌, ◌||◌}
use mathlib.Core.Path.{◌≡◌, refl}
use mathlib.Core.Logic.{◌⊎◌, inl, inr, ⊎_elim}
use native.Mathlib.Omega.{arith}
use borrow.Author.Tests.{lt-ltb, ltb-true, eqb-true}
use lib.Dec.{ltb, eqb}
use Rattle.answer.proofs.Tests.{and_both}
use Rattle.lists.specs.Rules.{of_version}

-- the version is 4 or 6, and of 4 the address is below 2^32
pub record OfVersion (v a : ℕ) : Type 0 where
  pub known : (v ≡ 4) ⊎ (v ≡ 6)
  pub ipv4 : v ≡ 4 → a < 2 ^ 32

module _ (v a : ℕ) where
  pub version_facts : of_version v a ≡ true → OfVersion v a
  version_facts h = six (eqb v 6) refl h
    where
      six : (t : Bool) → eqb v 6 ≡ t → (t || (eqb v 4 && ltb a (2 ^ 32))) ≡ true → OfVersion v a
      six true e q = let z : v ≡ 6 = eqb-true v 6 e in record { known = inr z; ipv4 = λ f. absurd (omega arith) }
      six false e q =
          let z = and_both (eqb v 4) (ltb a (2 ^ 32)) q in
          record { known = inl (eqb-true v 4 z.0); ipv4 = λ f. ltb-true a (2 ^ 32) z.1 }

  pub facts_version : OfVersion v a → of_version v a ≡ true
  facts_version f = ⊎_elim (λ e. rw e (lt-ltb a (2 ^ 32) (f.ipv4 e))) (λ e. rw e) f.known

  pub version_byte : OfVersion v a → v < 256
  version_byte f = ⊎_elim (λ e. omega arith) (λ e. omega arith) f.known
