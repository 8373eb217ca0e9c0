-- Both addresses and the hop count stand in the front of a packet. Assumes nothing.
use mathlib.Core.Path.{◌≡◌, refl, sym, ap, ◌∙◌}
use mathlib.Core.Bool.{Bool, true, false}
use mathlib.Core.List.{List, ◌++◌}
use Prim.Native.Nat.{ℕ, ◌+◌, ◌/◌, ◌≤◌, ◌<◌, min}
use native.Mathlib.Omega.{arith}
use lib.ListN.{length, get_or, take, drop, length-drop, length-append, get_or-append}
use lib.Seq.{take-append-le, drop-append-le}
use lib.Dec.{eqb}
use borrow.Author.Tests.{eqb-true, eqb-false}
use Rattle.answer.specs.Choice.{pick}
use Rattle.octets.specs.Big.{big, big_at}
use Rattle.inet.specs.Packet.{version_of, Form, address4_at, address6_at, source_of, destination_of, hop_place, hops_of}
use Rattle.inet.specs.Fronts.{max_header, Addressed}
use Rattle.inet.proofs.FormFacts.{form6-long}
use Rattle.inet.proofs.HeaderLaws.{source_of_4, source_of_not_4, destination_of_4, destination_of_not_4, address-parts}
use Rattle.inet.proofs.FrontLaws.{joined-version}

-- the front of a packet of good form has both, where it holds any header
pub front_addressed : (front tail : List ℕ) {n : ℕ} → length front + length tail ≡ n → min max_header n ≤ length front → Form (front ++ tail) → Addressed front
front_addressed front tail e h f =
    let l = length-append front tail in
    record {
      long = omega (arith, f.long);
      six = λ n. omega (arith, form6-long f (λ v. n (sym (joined-version front tail e h) ∙ v)));
    }

module _ (front tail : List ℕ) (a : Addressed front) where
  joined_at : (i : ℕ) → i < 20 → get_or (front ++ tail) i 0 ≡ get_or front i 0
  joined_at i h = get_or-append front tail 0 i (omega (arith, a.long))

  pub version-same : version_of (front ++ tail) ≡ version_of front
  version-same = ap (λ (b : ℕ). b / 16) (joined_at 0 (omega arith))

  joined-big : (i n : ℕ) → i + n ≤ length front → big_at i n (front ++ tail) ≡ big_at i n front
  joined-big i n h =
      ap (λ (l : List ℕ). big (take n l)) (drop-append-le i front tail (omega arith))
      ∙ ap big (take-append-le n (drop i front) tail (omega (arith, length-drop i front)))

  joined_4 : (i : ℕ) → i + 4 ≤ 20 → address4_at i (front ++ tail) ≡ address4_at i front
  joined_4 i h = address-parts refl refl (joined-big i 4 (omega (arith, a.long)))

  joined_6 : (version_of front ≡ 4 → ⊥) → (i : ℕ) → i + 16 ≤ 40 → address6_at i (front ++ tail) ≡ address6_at i front
  joined_6 n i h =
      address-parts version-same (joined-big i 8 (omega (arith, a.six n))) (joined-big (i + 8) 8 (omega (arith, a.six n)))

  pub joined_source : source_of (front ++ tail) ≡ source_of front
  joined_source = go (eqb (version_of front) 4) refl
    where
      go : (b : Bool) → eqb (version_of front) 4 ≡ b → source_of (front ++ tail) ≡ source_of front
      go true e =
          let v = eqb-true (version_of front) 4 e in
          source_of_4 (front ++ tail) (version-same ∙ v) ∙ joined_4 12 (omega arith) ∙ sym (source_of_4 front v)
      go false e =
          let n = eqb-false (version_of front) 4 e in
          source_of_not_4 (front ++ tail) (λ v. n (sym version-same ∙ v)) ∙ joined_6 n 8 (omega arith) ∙ sym (source_of_not_4 front n)

  pub joined_destination : destination_of (front ++ tail) ≡ destination_of front
  joined_destination = go (eqb (version_of front) 4) refl
    where
      go : (b : Bool) → eqb (version_of front) 4 ≡ b → destination_of (front ++ tail) ≡ destination_of front
      go true e =
          let v = eqb-true (version_of front) 4 e in
          destination_of_4 (front ++ tail) (version-same ∙ v) ∙ joined_4 16 (omega arith) ∙ sym (destination_of_4 front v)
      go false e =
          let n = eqb-false (version_of front) 4 e in
          destination_of_not_4 (front ++ tail) (λ v. n (sym version-same ∙ v)) ∙ joined_6 n 24 (omega arith) ∙ sym (destination_of_not_4 front n)

  -- and so does the hop count
  pub joined-hops : hops_of (front ++ tail) ≡ hops_of front
  unfolding hops_of hop_place
  joined-hops = rw version-same (go (eqb (version_of front) 4))
    where
      go : (t : Bool) → get_or (front ++ tail) (pick t 8 7) 0 ≡ get_or front (pick t 8 7) 0
      go true = joined_at 8 (omega arith)
      go false = joined_at 7 (omega arith)
