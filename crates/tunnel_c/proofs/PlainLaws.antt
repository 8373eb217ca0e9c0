-- From the answers of the functions below to plain ones. Assumes nothing.
use Rattle.std.proofs.Common.{Result, ℕ, Option}
use Prim.Native.Nat.{ℕ}
use mathlib.Core.Bool.{false}
use lib.Dec.{eqb}
use mathlib.Core.Path.{◌≡◌, refl, ap, sym, ◌∙◌}
use mathlib.Core.List.{List}
use Rattle.answer.specs.declared.Refusal.{Refusal}
use Rattle.answer.specs.Number.{answer_number, answer_length}
use Rattle.varint.specs.declared.Number.{Number}
use Rattle.varint.specs.Numbers.{Read, read_number}
use Rattle.capsule.specs.declared.CapsuleRead.{CapsuleRead}
use Rattle.capsule.specs.declared.Kind.{Kind}
use Rattle.capsule.specs.declared.Kind.TheVariants.{Datagram, AddressAssign, AddressRequest, RouteAdvertisement, Other}
use Rattle.capsule.specs.Capsules.{kind_number}
use Rattle.plan_write.specs.Writing.{WritesPlan}
use Rattle.tunnel_c.specs.declared.PlainAnswer.{PlainAnswer}
use Rattle.tunnel_c.specs.declared.capsules.PlainCapsule.{PlainCapsule}
use Rattle.tunnel_c.specs.Plain.{plain_answer, plain_number, found_capsule}

abbrev answered : ℕ → ℕ → PlainAnswer
answered n l = record { number = n; length = l }

pub answer-plain : (a : Result ℕ Refusal) {n l : ℕ} → n ≡ answer_number a → l ≡ answer_length a → record { number = n; length = l } ≡ plain_answer a
answer-plain a {n} {l} e f = ap (λ (k : ℕ). answered k l) e ∙ ap (answered (answer_number a)) f

pub number-plain : {s : List ℕ} {r x : Option Number} → Read s r → r ≡ x → plain_number x ≡ plain_number (read_number s)
number-plain h e = ap plain_number (sym e ∙ h.reading)

no_datagram : (k : Kind) → (k ≡ Datagram → ⊥) → eqb (kind_number k) 0 ≡ false
no_datagram Datagram e = absurd (e refl)
no_datagram AddressAssign e = refl
no_datagram AddressRequest e = refl
no_datagram RouteAdvertisement e = refl
no_datagram Other e = refl

-- a DATAGRAM, and every other kind
module _ (c : CapsuleRead) where
  pub datagram-plain : {k : ℕ} → c.kind ≡ Datagram → k ≡ kind_number c.kind
      → ◌≡◌ {A = PlainCapsule} (record { number = 0; kind = k; start = c.start; length = c.length; next = c.next }) (found_capsule c)
  unfolding found_capsule
  datagram-plain e n = rw (n, e)

  pub other-plain : {k : ℕ} → (c.kind ≡ Datagram → ⊥) → k ≡ kind_number c.kind
      → ◌≡◌ {A = PlainCapsule} (record { number = 0; kind = k; start = 0; length = 0; next = c.next }) (found_capsule c)
  unfolding found_capsule
  other-plain e n = rw (n, no_datagram c.kind e)

-- the file of a table that was copied
pub plan-of : {x y before after : List ℕ} {a : Result ℕ Refusal} → x ≡ y → WritesPlan x before a after → WritesPlan y before a after
plan-of e w = rw e at w
