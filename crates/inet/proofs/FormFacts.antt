-- What the tests of a packet's form say, as facts that `omega` reads, both ways. Assumes nothing.
use mathlib.Core.Path.{◌≡◌, refl, sym}
use mathlib.Core.Logic.{◌⊎◌, inl, inr}
use mathlib.Core.Bool.{Bool, true, false, ◌||◌}
use mathlib.Core.List.{List}
use Prim.Native.Nat.{ℕ, ◌≤◌}
use native.Mathlib.Omega.{arith}
use lib.ListN.{length}
use borrow.Author.Tests.{leb-true, eqb-true, le-leb, eq-eqb}
use Rattle.answer.proofs.Tests.{and_both, only_false}
use Rattle.inet.specs.Packet.{version_of, form4, fixed6, form6, form, Form4, Fixed6, Form6, Form, Headed4, Headed6, Headed}

pub form4_facts : (p : List ℕ) → form4 p ≡ true → Form4 p
unfolding form4
form4_facts p e =
    let f = and_both _ _ e in
    let g = and_both _ _ f.0 in
    let h = and_both _ _ g.0 in
    let i = and_both _ _ h.0 in
    let j = and_both _ _ i.0 in
    record {
      long = leb-true _ _ j.0;
      four = eqb-true _ _ j.1;
      ihl = leb-true _ _ i.1;
      head = leb-true _ _ h.1;
      total = eqb-true _ _ g.1;
      sum = eqb-true _ _ f.1;
    }

pub facts_form4 : (p : List ℕ) → Form4 p → form4 p ≡ true
unfolding form4
facts_form4 p f =
    simp (le-leb _ _ f.long, eq-eqb _ _ f.four, le-leb _ _ f.ihl, le-leb _ _ f.head, eq-eqb _ _ f.total, eq-eqb _ _ f.sum)

pub form4_fails : (p : List ℕ) → (Form4 p → ⊥) → form4 p ≡ false
form4_fails p h = only_false (form4 p) (λ e. h (form4_facts p e))

pub fixed6_facts : (p : List ℕ) → fixed6 p ≡ true → Fixed6 p
unfolding fixed6
fixed6_facts p e =
    let f = and_both _ _ e in
    let g = and_both _ _ f.0 in
    record { long = leb-true _ _ g.0; six = eqb-true _ _ g.1; payload = eqb-true _ _ f.1 }

pub facts_fixed6 : (p : List ℕ) → Fixed6 p → fixed6 p ≡ true
unfolding fixed6
facts_fixed6 p f = simp (le-leb _ _ f.long, eq-eqb _ _ f.six, eq-eqb _ _ f.payload)

pub fixed6_fails : (p : List ℕ) → (Fixed6 p → ⊥) → fixed6 p ≡ false
fixed6_fails p h = only_false (fixed6 p) (λ e. h (fixed6_facts p e))

form6_facts : (p : List ℕ) → form6 p ≡ true → Form6 p
unfolding form6
form6_facts p e = let f = and_both _ _ e in record { fixed = fixed6_facts p f.0; chain = f.1 }

facts_form6 : (p : List ℕ) → Form6 p → form6 p ≡ true
unfolding form6
facts_form6 p f = simp (facts_fixed6 p f.fixed, f.chain)

form6_fails : (p : List ℕ) → (Form6 p → ⊥) → form6 p ≡ false
form6_fails p h = only_false (form6 p) (λ e. h (form6_facts p e))

-- which of the two it is
pub form_4 : {p : List ℕ} → Form4 p → Form p
form_4 f = record { long = f.long; kind = inl f }

pub form_6 : {p : List ℕ} → Form6 p → Form p
form_6 f = record { long = omega (arith, f.fixed.long); kind = inr f }

either : (a b : Bool) → (a || b) ≡ true → (a ≡ true) ⊎ (b ≡ true)
either true b e = inl refl
either false b e = inr e

or_right : (a b : Bool) → b ≡ true → (a || b) ≡ true
or_right true b e = refl
or_right false b e = e

kind-form : (p : List ℕ) → (form4 p ≡ true) ⊎ (form6 p ≡ true) → Form p
kind-form p (inl e) = form_4 (form4_facts p e)
kind-form p (inr e) = form_6 (form6_facts p e)

pub form_facts : (p : List ℕ) → form p ≡ true → Form p
unfolding form
form_facts p e = kind-form p (either (form4 p) (form6 p) e)

form-kind : (p : List ℕ) → Form4 p ⊎ Form6 p → form p ≡ true
unfolding form
form-kind p (inl f) = simp (facts_form4 p f)
form-kind p (inr f) = or_right (form4 p) (form6 p) (facts_form6 p f)

pub facts_form : (p : List ℕ) → Form p → form p ≡ true
facts_form p f = form-kind p f.kind

pub form_fails : (p : List ℕ) → (Form p → ⊥) → form p ≡ false
form_fails p h = only_false (form p) (λ e. h (form_facts p e))

kind_6 : (p : List ℕ) → Form4 p ⊎ Form6 p → (version_of p ≡ 4 → ⊥) → Form6 p
kind_6 p (inl f) n = absurd (n f.four)
kind_6 p (inr f) n = f

-- a packet of good form that is not IPv4 is IPv6
pub is-form6 : (p : List ℕ) → Form p → (version_of p ≡ 4 → ⊥) → Form6 p
is-form6 p f n = kind_6 p f.kind n

pub form6-long : {p : List ℕ} → Form p → (version_of p ≡ 4 → ⊥) → 40 ≤ length p
form6-long {p} f n = (is-form6 p f n).fixed.long

-- of a version, the form is that of its kind
pub form_of_4 : (p : List ℕ) → version_of p ≡ 4 → form4 p ≡ form p
unfolding form
form_of_4 p e = rw (form6_fails p (λ f. omega (arith, f.fixed.six))) (sym (or_false (form4 p)))
  where
    or_false : (b : Bool) → (b || false) ≡ b
    or_false true = refl
    or_false false = refl

pub form_of_6 : (p : List ℕ) → version_of p ≡ 6 → form6 p ≡ form p
unfolding form
form_of_6 p e = rw (form4_fails p (λ f. omega arith))

kind-other : (p : List ℕ) → (version_of p ≡ 4 → ⊥) → (version_of p ≡ 6 → ⊥) → Form4 p ⊎ Form6 p → ⊥
kind-other p n m (inl f) = n f.four
kind-other p n m (inr f) = m f.fixed.six

pub form_of_other : (p : List ℕ) → (version_of p ≡ 4 → ⊥) → (version_of p ≡ 6 → ⊥) → form p ≡ false
form_of_other p n m = form_fails p (λ f. kind-other p n m f.kind)

-- what lowering looks at, version by version
headed_kind_4 : (p : List ℕ) → Headed4 p ⊎ Headed6 p → version_of p ≡ 4 → Headed4 p
headed_kind_4 p (inl f) e = f
headed_kind_4 p (inr f) e = absurd (omega arith)

headed_kind_6 : (p : List ℕ) → Headed4 p ⊎ Headed6 p → (version_of p ≡ 4 → ⊥) → Headed6 p
headed_kind_6 p (inl f) n = absurd (n f.four)
headed_kind_6 p (inr f) n = f

pub is_headed4 : (p : List ℕ) → Headed p → version_of p ≡ 4 → Headed4 p
is_headed4 p f e = headed_kind_4 p f.kind e

pub is_headed6 : (p : List ℕ) → Headed p → (version_of p ≡ 4 → ⊥) → Headed6 p
is_headed6 p f n = headed_kind_6 p f.kind n

form_headed_kind : (p : List ℕ) → Form4 p ⊎ Form6 p → Headed p
form_headed_kind p (inl f) = record { kind = inl (record { long = f.long; four = f.four; ihl = f.ihl; head = f.head; sum = f.sum }) }
form_headed_kind p (inr f) = record { kind = inr (record { long = omega (arith, f.fixed.long); six = f.fixed.six }) }

-- a packet of good form has it
pub form-headed : (p : List ℕ) → Form p → Headed p
form-headed p f = form_headed_kind p f.kind
