-- What a packet in two parts carries, version by version. Assumes nothing.
use mathlib.Core.Path.{◌≡◌, refl, sym, ap, ◌∙◌}
use mathlib.Core.Bool.{Bool, true, false}
use mathlib.Core.List.{List, [], ◌++◌, append-nil}
use Prim.Native.Nat.{ℕ, ◌-◌, ◌^◌, ◌≤◌, ◌<◌}
use native.Mathlib.Omega.{arith}
use lib.ListN.{length, get_or, take, drop, length-append}
use lib.Seq.{drop-length}
use Rattle.octets.proofs.Parts.{tail as tail-is}
use Rattle.answer.proofs.Tests.{only_false}
use Rattle.std.specs.Prelude.{Option, Some, None}
use Rattle.chain.specs.Chain.{plain, class_of, chain, chain_of, whole, protocol_in}
use Rattle.inet.specs.Packet.{version_of, form4, fixed6, form6, form, protocol_of}
use Rattle.inet.specs.Fronts.{Parted, carried_by}
use Rattle.inet.proofs.FormFacts.{form4_facts, fixed6_facts, form_of_4, form_of_6, form_of_other}
use Rattle.inet.proofs.HeaderLaws.{protocol_of_4, protocol_of_6}
use Rattle.chain.proofs.ChainLaws.{chain-plain}
use Rattle.inet.proofs.FrontLaws.{joined_at, joined-version}

never : {A : Type 0} → false ≡ true → A
never e = let z : ◌≡◌ {A = ℕ} 0 1 = cc in absurd (omega arith)

clash : {n : ℕ} → Some n ≡ None → ⊥
clash e = never (sym (ap whole e))

module _ (p : List ℕ) where
  pub carried_bad : form p ≡ false → carried_by p ≡ None
  unfolding carried_by
  carried_bad e = rw e

  pub carried_good : form p ≡ true → carried_by p ≡ Some (protocol_of p)
  unfolding carried_by
  carried_good e = rw e

  -- and back
  pub carried_formed : {n : ℕ} → Some n ≡ carried_by p → form p ≡ true
  carried_formed e = go (form p) refl
    where
      go : (b : Bool) → form p ≡ b → form p ≡ true
      go true f = f
      go false f = absurd (clash (e ∙ carried_bad f))

  pub carried_protocol : {n : ℕ} → Some n ≡ carried_by p → n ≡ protocol_of p
  carried_protocol e = ap protocol_in (e ∙ carried_good (carried_formed e))

  pub carried_not : None ≡ carried_by p → form p ≡ false
  carried_not e = only_false (form p) (λ f. clash (sym (carried_good f) ∙ sym e))

  -- IPv6 with a fixed header that is good: what its chain leads to
  module _ (v : version_of p ≡ 6) (f : fixed6 p ≡ true) where
    form-whole : form p ≡ whole (chain_of p)
    unfolding form6
    form-whole = sym (form_of_6 p v) ∙ rw f

    chain_carried : chain_of p ≡ carried_by p
    chain_carried = go (chain_of p) refl
      where
        go : (c : Option ℕ) → chain_of p ≡ c → chain_of p ≡ carried_by p
        go (Some n) e = e ∙ sym (carried_good (form-whole ∙ ap whole e) ∙ ap Some (protocol_of_6 p v ∙ ap protocol_in e))
        go None e = e ∙ sym (carried_bad (form-whole ∙ ap whole e))

  fixed-bad : version_of p ≡ 6 → fixed6 p ≡ false → form p ≡ false
  unfolding form6
  fixed-bad v f = sym (form_of_6 p v) ∙ rw f

-- a packet in two parts
module _ (front tail : List ℕ) (h : Parted front tail) where
  version-is : version_of (front ++ tail) ≡ version_of front
  version-is = joined-version front tail refl h.header

  module _ (v : version_of front ≡ 4) where
    pub carried_4-bad : form4 (front ++ tail) ≡ false → None ≡ carried_by (front ++ tail)
    carried_4-bad e = sym (carried_bad (front ++ tail) (sym (form_of_4 (front ++ tail) (version-is ∙ v)) ∙ e))

    pub carried_4 : form4 (front ++ tail) ≡ true → {n : ℕ} → n ≡ get_or front 9 0 → Some n ≡ carried_by (front ++ tail)
    carried_4 e k =
        let f = form4_facts (front ++ tail) e in
        let l = length-append front tail in
        sym
        (carried_good (front ++ tail) (sym (form_of_4 (front ++ tail) (version-is ∙ v)) ∙ e)
        ∙ ap Some (protocol_of_4 (front ++ tail) (version-is ∙ v) ∙ joined_at front tail refl h.header 9 (omega arith) (omega arith) ∙ sym k))

  module _ (v : version_of front ≡ 6) where
    pub carried_6-bad : fixed6 (front ++ tail) ≡ false → None ≡ carried_by (front ++ tail)
    carried_6-bad e = sym (carried_bad (front ++ tail) (fixed-bad (front ++ tail) (version-is ∙ v) e))

    module _ (e : fixed6 (front ++ tail) ≡ true) where
      -- the front has the fixed header
      pub fixed-inside : 40 ≤ length front
      fixed-inside = let f = fixed6_facts (front ++ tail) e in omega (arith, length-append front tail, h.header)

      module _ {n : ℕ} (k : n ≡ get_or front 6 0) where
        pub carried_6 : {c : Option ℕ} → c ≡ chain n (drop 40 (front ++ tail)) → c ≡ carried_by (front ++ tail)
        unfolding chain_of
        carried_6 q =
            q
            ∙ ap (λ (m : ℕ). chain m (drop 40 (front ++ tail))) (k ∙ sym (joined_at front tail refl h.header 6 (omega arith) (omega (arith, fixed-inside))))
            ∙ chain_carried (front ++ tail) (version-is ∙ v) e

        pub carried_6-plain : class_of n ≡ plain → Some n ≡ carried_by (front ++ tail)
        carried_6-plain c = carried_6 (sym (chain-plain n (drop 40 (front ++ tail)) c))

  pub carried_other : (version_of front ≡ 4 → ⊥) → (version_of front ≡ 6 → ⊥) → None ≡ carried_by (front ++ tail)
  carried_other k m =
      sym (carried_bad (front ++ tail) (form_of_other (front ++ tail) (λ f. k (sym version-is ∙ f)) (λ f. m (sym version-is ∙ f))))

-- nothing lies behind a whole packet, `&packet[packet.len()..]`
module _ (p : List ℕ) where
  abbrev pub Rest : List ℕ
  Rest = take (length p - length p) (drop (length p) p)

  nothing : Rest ≡ []
  nothing = tail-is (length p) p ∙ drop-length p

  pub alone : p ++ Rest ≡ p
  alone = ap (λ (l : List ℕ). p ++ l) nothing ∙ append-nil p

  pub alone_parted : length p < 2 ^ 64 → Parted p Rest
  alone_parted h = let l = ap length nothing in record { short = omega arith; header = omega arith }
