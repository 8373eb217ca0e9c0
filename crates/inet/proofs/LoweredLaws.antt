-- What lowering a packet keeps: all but the hop count and the IPv4 header checksum, and the form. Assumes nothing.
use mathlib.Core.Path.{◌≡◌, refl, ap, ◌∙◌}
use mathlib.Core.Logic.{◌≢◌, ◌⊎◌, inl, inr}
use mathlib.Core.Bool.{Bool, true, false}
use mathlib.Core.List.{List, ◌++◌}
use Prim.Native.Nat.{ℕ, ◌+◌, ◌-◌, ◌/◌, ◌≤◌, ◌<◌}
use native.Mathlib.Omega.{arith}
use lib.ListN.{length, get_or, take, drop, length-set, length-take}
use lib.Seq.{get_or-set_other, get_or-set_same, get_or-take, drop-set-lt, take-append_seam, drop-append_seam, take-length}
use lib.Dec.{eqb}
use borrow.Author.Tests.{eqb-true, eqb-false}
use Rattle.answer.specs.Choice.{pick}
use Rattle.inet.specs.Sum.{words, fold}
use Rattle.chain.specs.Chain.{chain_of, whole}
use Rattle.inet.specs.Packet.{version_of, header_length, form, Form, Form4, Fixed6, Form6, Headed4, Headed, address4_at, address6_at, source_of, destination_of}
use Rattle.inet.specs.Packet.{protocol_of, protocol_byte, is_icmp, hops_of, put16, hop4, hop6, header_check, lowered4, lowered}
use Rattle.inet.proofs.WordLaws.{words_pos}
use Rattle.inet.proofs.FormFacts.{form_facts, facts_form, form_4, form_6, is_headed4, is_headed6}
use Rattle.inet.proofs.HeaderLaws.{pick_4, pick_6, hops_of_4, hops_of_not_4}
use Rattle.inet.proofs.FieldLaws.{put_length, put_other, put_take, put_drop, put_completes}

-- a fact of either choice is a fact of what is chosen
pick_elim : {A : Type 0} (P : A → Type 0) (b : Bool) (x y : A) → (b ≡ true → P x) → (b ≡ false → P y) → P (pick b x y)
pick_elim P true x y f g = f refl
pick_elim P false x y f g = g refl

-- two choices by one test are equal where the values are
pub pick_same : {A : Type 0} (b : Bool) (x y z w : A) → (b ≡ true → x ≡ z) → (b ≡ false → y ≡ w) → pick b x y ≡ pick b z w
pick_same true x y z w f g = f refl
pick_same false x y z w f g = g refl

-- IPv4
module _ (p : List ℕ) where
  low4_at : (j : ℕ) → j ≢ 8 → j ≢ 10 → j ≢ 11 → get_or (lowered4 p) j 0 ≡ get_or p j 0
  unfolding lowered4
  low4_at j h k m = put_other (hop4 p) 10 _ j k m ∙ get_or-set_other p 8 j _ 0 h

  pub low4_length : length (lowered4 p) ≡ length p
  unfolding lowered4
  low4_length = put_length (hop4 p) 10 _ ∙ length-set p 8 _

  low4_drop : (n : ℕ) → 12 ≤ n → drop n (lowered4 p) ≡ drop n p
  unfolding lowered4
  low4_drop n h = put_drop (hop4 p) 10 _ n (omega arith) ∙ drop-set-lt n p 8 _ (omega arith)

  low4_hops : 9 ≤ length p → get_or (lowered4 p) 8 0 ≡ get_or p 8 0 - 1
  unfolding lowered4
  low4_hops h = put_other (hop4 p) 10 _ 8 (omega arith) (omega arith) ∙ get_or-set_same p 8 _ 0 h

module _ (p : List ℕ) (f : Form4 p) where
  -- the lowered packet's header, before its checksum is put in
  head-long : length (take (header_length p) (hop4 p)) ≡ header_length p
  head-long = simp (length-take, length-set) (omega arith)

  head_pos : 0 < words (put16 (take (header_length p) (hop4 p)) 10 0)
  head_pos =
      let e : get_or (put16 (take (header_length p) (hop4 p)) 10 0) 0 0 ≡ get_or p 0 0 =
      put_other (take (header_length p) (hop4 p)) 10 0 0 (omega arith) (omega arith) ∙ get_or-take (header_length p) (hop4 p) 0 0 (omega arith) ∙ get_or-set_other p 8 0 _ 0 (omega arith)
      in words_pos _ (omega arith)

  low4_sum : fold (words (take (header_length p) (lowered4 p))) ≡ 65535
  unfolding lowered4 header_check
  low4_sum =
      let n : 11 < header_length p = omega arith in
      let e : get_or (hop4 p) 0 0 ≡ get_or p 0 0 = get_or-set_other p 8 0 _ 0 (omega arith) in
      rw (e, put_take (hop4 p) 10 _ (header_length p) n, put_take (hop4 p) 10 0 (header_length p) n)
      (put_completes (take (header_length p) (hop4 p)) 10 refl (omega (arith, head-long)) head_pos)

  low4_form : Form4 (lowered4 p)
  low4_form =
      let e = low4_at p 0 (omega arith) (omega arith) (omega arith) in
      let l = low4_length p in
      let t = low4_at p 2 (omega arith) (omega arith) (omega arith) in
      let u = low4_at p 3 (omega arith) (omega arith) (omega arith) in
      record {
        long = omega arith;
        four = rw e f.four;
        ihl = rw e f.ihl;
        head = rw (e, l) f.head;
        total = omega arith;
        sum = rw e low4_sum;
      }

-- IPv6
module _ (p : List ℕ) where
  low6_at : (j : ℕ) → j ≢ 7 → get_or (hop6 p) j 0 ≡ get_or p j 0
  low6_at j h = get_or-set_other p 7 j _ 0 h

  low6_length : length (hop6 p) ≡ length p
  low6_length = length-set p 7 _

  low6_chain : chain_of (hop6 p) ≡ chain_of p
  unfolding chain_of
  low6_chain = rw (low6_at 6 (omega arith), drop-set-lt 40 p 7 (get_or p 7 0 - 1) (omega arith))

low6_fixed : (p : List ℕ) → Fixed6 p → Fixed6 (hop6 p)
low6_fixed p f =
    let e = low6_at p 0 (omega arith) in
    let l = low6_length p in
    let t = low6_at p 4 (omega arith) in
    let u = low6_at p 5 (omega arith) in
    record { long = omega arith; six = rw e f.six; payload = omega arith }

low6_form : (p : List ℕ) → Form6 p → Form6 (hop6 p)
low6_form p f = record { fixed = low6_fixed p f.fixed; chain = ap whole (low6_chain p) ∙ f.chain }

-- any version: which of the three the lowered packet is
module _ (p : List ℕ) where
  lowered_elim : (P : List ℕ → Type 0) → (version_of p ≡ 4 → P (lowered4 p)) → ((version_of p ≡ 4 → ⊥) → P (hop6 p)) → ((version_of p ≡ 4 → ⊥) → P p) → P (lowered p)
  unfolding lowered
  lowered_elim P f g h =
      pick_elim P (eqb (version_of p) 4) (lowered4 p) (pick (eqb (version_of p) 6) (hop6 p) p) (λ e. f (eqb-true _ _ e))
      (λ e. pick_elim P (eqb (version_of p) 6) (hop6 p) p (λ _. g (eqb-false _ _ e)) (λ _. h (eqb-false _ _ e)))

  pub lowered_4 : version_of p ≡ 4 → lowered p ≡ lowered4 p
  unfolding lowered
  lowered_4 e = pick_4 (version_of p) (lowered4 p) _ p e

  pub lowered_6 : version_of p ≡ 6 → lowered p ≡ hop6 p
  unfolding lowered
  lowered_6 e = pick_6 (version_of p) (lowered4 p) (hop6 p) p e

  pub lowered_length : length (lowered p) ≡ length p
  lowered_length = lowered_elim (λ (q : List ℕ). length q ≡ length p) (λ _. low4_length p) (λ _. low6_length p) (λ _. refl)

  -- no byte of an IPv4 packet but 8, 10 and 11 is changed
  pub lowered_at_4 : version_of p ≡ 4 → (j : ℕ) → j ≢ 8 → j ≢ 10 → j ≢ 11 → get_or (lowered p) j 0 ≡ get_or p j 0
  lowered_at_4 e j h k m = ap (λ (q : List ℕ). get_or q j 0) (lowered_4 e) ∙ low4_at p j h k m

  -- no byte of any other packet but 7
  pub lowered_at_6 : (version_of p ≡ 4 → ⊥) → (j : ℕ) → j ≢ 7 → get_or (lowered p) j 0 ≡ get_or p j 0
  lowered_at_6 n j h = lowered_elim (λ (q : List ℕ). get_or q j 0 ≡ get_or p j 0) (λ e. absurd (n e)) (λ _. low6_at p j h) (λ _. refl)

  -- no byte of any packet but these four
  pub lowered-at : (j : ℕ) → j ≢ 7 → j ≢ 8 → j ≢ 10 → j ≢ 11 → get_or (lowered p) j 0 ≡ get_or p j 0
  lowered-at j s h k m = lowered_elim (λ (q : List ℕ). get_or q j 0 ≡ get_or p j 0) (λ _. low4_at p j h k m) (λ _. low6_at p j s) (λ _. refl)

  pub lowered_drop : (n : ℕ) → 12 ≤ n → drop n (lowered p) ≡ drop n p
  lowered_drop n h =
      lowered_elim (λ (q : List ℕ). drop n q ≡ drop n p) (λ _. low4_drop p n h) (λ _. drop-set-lt n p 7 _ (omega arith)) (λ _. refl)

  pub lowered_drop_6 : (version_of p ≡ 4 → ⊥) → (n : ℕ) → 8 ≤ n → drop n (lowered p) ≡ drop n p
  lowered_drop_6 m n h = lowered_elim (λ (q : List ℕ). drop n q ≡ drop n p) (λ e. absurd (m e)) (λ _. drop-set-lt n p 7 _ (omega arith)) (λ _. refl)

  -- what the header says
  pub lowered-first : get_or (lowered p) 0 0 ≡ get_or p 0 0
  lowered-first = lowered-at 0 (omega arith) (omega arith) (omega arith) (omega arith)

  lowered-six : get_or (lowered p) 6 0 ≡ get_or p 6 0
  lowered-six = lowered-at 6 (omega arith) (omega arith) (omega arith) (omega arith)

  lowered_nine : get_or (lowered p) 9 0 ≡ get_or p 9 0
  lowered_nine = lowered-at 9 (omega arith) (omega arith) (omega arith) (omega arith)

  pub lowered-version : version_of (lowered p) ≡ version_of p
  lowered-version = ap (λ (b : ℕ). b / 16) lowered-first

  -- it depends on byte 6 and the bytes from 40 on alone
  pub lowered-chain : chain_of (lowered p) ≡ chain_of p
  unfolding chain_of
  lowered-chain = rw (lowered-six, lowered_drop 40 (omega arith))

  pub lowered-protocol_of : protocol_of (lowered p) ≡ protocol_of p
  unfolding protocol_of
  lowered-protocol_of = rw (lowered-first, lowered_nine, lowered-chain)

  pub lowered-protocol_byte : protocol_byte (lowered p) ≡ protocol_byte p
  unfolding protocol_byte
  lowered-protocol_byte = rw (lowered-first, lowered-six, lowered_nine)

  pub lowered-is_icmp : is_icmp (lowered p) ≡ is_icmp p
  unfolding is_icmp
  lowered-is_icmp = rw (lowered-first, lowered-protocol_of)

  address4-lowered : (i : ℕ) → 12 ≤ i → address4_at i (lowered p) ≡ address4_at i p
  address4-lowered i h = rw (lowered_drop i h)

  address6-lowered : (version_of p ≡ 4 → ⊥) → (i : ℕ) → 8 ≤ i → address6_at i (lowered p) ≡ address6_at i p
  address6-lowered n i h = rw (lowered-first, lowered_drop_6 n i h, lowered_drop_6 n (i + 8) (omega arith))

  pub lowered_source_of : source_of (lowered p) ≡ source_of p
  unfolding source_of
  lowered_source_of =
      ap (λ (b : ℕ). pick (eqb b 4) (address4_at 12 (lowered p)) (address6_at 8 (lowered p))) lowered-version
      ∙ pick_same (eqb (version_of p) 4) (address4_at 12 (lowered p)) (address6_at 8 (lowered p)) (address4_at 12 p) (address6_at 8 p) (λ _. address4-lowered 12 (omega arith)) (λ e. address6-lowered (eqb-false _ _ e) 8 (omega arith))

  pub lowered-destination_of : destination_of (lowered p) ≡ destination_of p
  unfolding destination_of
  lowered-destination_of =
      ap (λ (b : ℕ). pick (eqb b 4) (address4_at 16 (lowered p)) (address6_at 24 (lowered p))) lowered-version
      ∙ pick_same (eqb (version_of p) 4) (address4_at 16 (lowered p)) (address6_at 24 (lowered p)) (address4_at 16 p) (address6_at 24 p) (λ _. address4-lowered 16 (omega arith)) (λ e. address6-lowered (eqb-false _ _ e) 24 (omega arith))

-- packets of good form
kind-lowered : (p : List ℕ) → Form4 p ⊎ Form6 p → Form (lowered p)
kind-lowered p (inl f) = rw (lowered_4 p f.four) (form_4 (low4_form p f))
kind-lowered p (inr f) = rw (lowered_6 p f.fixed.six) (form_6 (low6_form p f))

kind-hops : (p : List ℕ) → Form4 p ⊎ Form6 p → hops_of (lowered p) ≡ hops_of p - 1
kind-hops p (inl f) =
    let v : version_of (lowered p) ≡ 4 = lowered-version p ∙ f.four in
    let h = hops_of_4 (lowered p) v ∙ ap (λ (q : List ℕ). get_or q 8 0) (lowered_4 p f.four) ∙ low4_hops p (omega arith) in
    omega (arith, hops_of_4 p f.four)
kind-hops p (inr f) =
    let g = f.fixed in
    let v : version_of (lowered p) ≡ 6 = lowered-version p ∙ g.six in
    let h = hops_of_not_4 (lowered p) (λ e. omega arith) ∙ ap (λ (q : List ℕ). get_or q 7 0) (lowered_6 p g.six) ∙ get_or-set_same p 7 _ 0 (omega arith) in
    omega (arith, hops_of_not_4 p (λ e. omega arith))

pub lowered-Form : (p : List ℕ) → Form p → Form (lowered p)
lowered-Form p f = kind-lowered p f.kind

pub lowered-form : (p : List ℕ) → form p ≡ true → form (lowered p) ≡ true
lowered-form p e = facts_form (lowered p) (lowered-Form p (form_facts p e))

pub lowered-hops_of : (p : List ℕ) → Form p → hops_of (lowered p) ≡ hops_of p - 1
lowered-hops_of p f = kind-hops p f.kind

-- the steps by which the code copies a packet and lowers the copy
module _ (p e d : List ℕ) (c : e ≡ take (length p) p ++ d) where
  copied : e ≡ p ++ d
  copied = c ∙ ap (λ (l : List ℕ). l ++ d) (take-length p)

  pub front_take : take (length p) e ≡ p
  front_take = rw copied (take-append_seam p d)

  front_drop : drop (length p) e ≡ d
  front_drop = rw copied (drop-append_seam p d)

  pub front_4 : Headed p → 1 ≤ hops_of p → version_of p ≡ 4 → Headed4 (take (length p) e) × (1 ≤ get_or (take (length p) e) 8 0)
  front_4 f h v = rw front_take (is_headed4 p f v, omega (arith, hops_of_4 p v))

  pub front_6 : Headed p → 1 ≤ hops_of p → (version_of p ≡ 4 → ⊥) → (8 ≤ length (take (length p) e)) × (1 ≤ get_or (take (length p) e) 7 0)
  front_6 f h n = rw front_take ((is_headed6 p f n).long, omega (arith, hops_of_not_4 p n))

  pub lower_steps_4 : (q : List ℕ) → version_of p ≡ 4 → q ≡ lowered4 (take (length p) e) → q ++ drop (length p) e ≡ lowered p ++ d
  lower_steps_4 q h k = rw (k, front_take, front_drop, lowered_4 p h)

  pub lower_steps_6 : (q : List ℕ) → version_of p ≡ 6 → q ≡ hop6 (take (length p) e) → q ++ drop (length p) e ≡ lowered p ++ d
  lower_steps_6 q h k = rw (k, front_take, front_drop, lowered_6 p h)
