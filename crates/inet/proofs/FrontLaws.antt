-- The front of a packet that has all of its header: lowering and the form look at nothing behind it. Assumes nothing.
use mathlib.Core.Path.{◌≡◌, refl, sym, ap, ◌∙◌}
use mathlib.Core.Logic.{◌⊎◌, inl, inr}
use mathlib.Core.Bool.{Bool, true, false}
use mathlib.Core.List.{List, [], ◌∷◌, ◌++◌}
use Prim.Native.Nat.{ℕ, ◌+◌, ◌*◌, ◌/◌, ◌%◌, ◌≤◌, ◌<◌, min}
use native.Mathlib.Omega.{arith}
use lib.ListN.{length, get_or, take, length-take, length-append, get_or-append}
use lib.Seq.{get_or-take, take-set-lt, take-take, take-append-le}
use lib.Dec.{eqb}
use Rattle.answer.specs.Choice.{pick}
use Rattle.inet.specs.Sum.{words, fold}
use Rattle.inet.specs.Fronts.{max_header, Tells}
use Rattle.inet.specs.Packet.{version_of, header_length, form4, fixed6, Form, Form4, Fixed6, Form6, Headed, hop_place, hops_of, put16, hop4, hop6, header_check, lowered4, lowered}
use Rattle.inet.proofs.FormFacts.{form4_fails, facts_form4, fixed6_fails, facts_fixed6}
use Rattle.inet.proofs.FieldLaws.{put_take}
use Rattle.inet.proofs.LoweredLaws.{lowered_4, lowered_6}

hop_place-low : (p : List ℕ) → hop_place p < 60
unfolding hop_place
hop_place-low p = go (eqb (version_of p) 4)
  where
    go : (b : Bool) → pick b 8 7 < 60
    go true = omega arith
    go false = omega arith

-- k bytes hold any header: the longest is of 15 words
module _ (k : ℕ) (p : List ℕ) (h : 60 ≤ k) where
  take_first : get_or (take k p) 0 0 ≡ get_or p 0 0
  take_first = get_or-take k p 0 0 (omega arith)

  take_version : version_of (take k p) ≡ version_of p
  take_version = ap (λ (b : ℕ). b / 16) take_first

  take_hop_place : hop_place (take k p) ≡ hop_place p
  unfolding hop_place
  take_hop_place = ap (λ (v : ℕ). pick (eqb v 4) 8 7) take_version

  pub take_hops_of : hops_of (take k p) ≡ hops_of p
  unfolding hops_of
  take_hops_of =
      ap (λ (i : ℕ). get_or (take k p) i 0) take_hop_place ∙ get_or-take k p (hop_place p) 0 (omega (arith, hop_place-low p))

  take_headed-kind : Form4 p ⊎ Form6 p → Headed (take k p)
  take_headed-kind (inl f) =
      let l = length-take k p in
      record {
        kind = inl (record {
          long = omega arith;
          four = take_version ∙ f.four;
          ihl = rw take_first f.ihl;
          head = rw take_first (omega arith);
          sum = rw (take_first, take-take (header_length p) k p (omega arith)) f.sum;
        });
      }
  take_headed-kind (inr f) =
      let l = length-take k p in
      let g = f.fixed in
      record { kind = inr (record { long = omega arith; six = take_version ∙ g.six }) }

  pub take_headed : Form p → Headed (take k p)
  take_headed f = take_headed-kind f.kind

  -- a hop fewer, and the header checksum
  take_hop4 : hop4 (take k p) ≡ take k (hop4 p)
  take_hop4 = rw (get_or-take k p 8 0 (omega arith)) (sym (take-set-lt k p 8 _ (omega arith)))

  take_hop6 : hop6 (take k p) ≡ take k (hop6 p)
  take_hop6 = rw (get_or-take k p 7 0 (omega arith)) (sym (take-set-lt k p 7 _ (omega arith)))

  take_header_check : header_check (take k p) ≡ header_check p
  unfolding header_check
  take_header_check =
      rw (take_first, ← put_take p 10 0 k (omega arith), take-take (header_length p) k (put16 p 10 0) (omega arith))

take_lowered4 : (k : ℕ) (p : List ℕ) → 60 ≤ k → lowered4 (take k p) ≡ take k (lowered4 p)
unfolding lowered4
take_lowered4 k p h =
    rw (take_hop4 k p h, take_header_check k (hop4 p) h) (sym (put_take (hop4 p) 10 (header_check (hop4 p)) k (omega arith)))

take_kind : (k : ℕ) (p : List ℕ) → 60 ≤ k → Form4 p ⊎ Form6 p → lowered (take k p) ≡ take k (lowered p)
take_kind k p h (inl f) =
    lowered_4 (take k p) (take_version k p h ∙ f.four) ∙ take_lowered4 k p h ∙ ap (take k) (sym (lowered_4 p f.four))
take_kind k p h (inr f) =
    lowered_6 (take k p) (take_version k p h ∙ f.fixed.six) ∙ take_hop6 k p h ∙ ap (take k) (sym (lowered_6 p f.fixed.six))

-- the front lowered is the front of the lowered packet
pub take_lowered : (k : ℕ) (p : List ℕ) → 60 ≤ k → Form p → lowered (take k p) ≡ take k (lowered p)
take_lowered k p h f = take_kind k p h f.kind

-- ---- the form of a packet of n bytes, and of IPv6 the fixed header, as facts about its front
pub record Front4 (front : List ℕ) (n : ℕ) : Type 0 where
  pub long : 20 ≤ n
  pub four : version_of front ≡ 4
  pub ihl : 5 ≤ get_or front 0 0 % 16
  pub head : header_length front ≤ n
  pub total : get_or front 2 0 * 256 + get_or front 3 0 ≡ n
  pub sum : fold (words (take (header_length front) front)) ≡ 65535

pub record Front6 (front : List ℕ) (n : ℕ) : Type 0 where
  pub long : 40 ≤ n
  pub six : version_of front ≡ 6
  pub payload : get_or front 4 0 * 256 + get_or front 5 0 + 40 ≡ n

module _ (front tail : List ℕ) {n : ℕ} (e : length front + length tail ≡ n) (h : min max_header n ≤ length front) where
  joined_length : length (front ++ tail) ≡ n
  joined_length = length-append front tail ∙ e

  pub joined_at : (i : ℕ) → i < max_header → i < n → get_or (front ++ tail) i 0 ≡ get_or front i 0
  joined_at i k l = get_or-append front tail 0 i (omega arith)

  -- the version of no bytes at all is 0
  pub joined-version : version_of (front ++ tail) ≡ version_of front
  joined-version = go front tail e h
    where
      go : (f t : List ℕ) → length f + length t ≡ n → min max_header n ≤ length f → version_of (f ++ t) ≡ version_of f
      go [] [] e h = refl
      go [] (x ∷ t) e h = absurd (omega arith)
      go (x ∷ f) t e h = refl

  joined-header : header_length front ≤ n → words (take (header_length front) (front ++ tail)) ≡ words (take (header_length front) front)
  joined-header k = ap words (take-append-le (header_length front) front tail (omega arith))

  joined_4 : Front4 front n → Form4 (front ++ tail)
  joined_4 f =
      let a = joined_at 0 (omega arith) (omega arith) in
      record {
        long = omega (arith, joined_length);
        four = joined-version ∙ f.four;
        ihl = rw a f.ihl;
        head = rw a (omega (arith, joined_length));
        total = omega (arith, joined_at 2 (omega arith) (omega arith), joined_at 3 (omega arith) (omega arith), joined_length);
        sum = rw a (ap fold (joined-header f.head) ∙ f.sum);
      }

  front_4 : Form4 (front ++ tail) → Front4 front n
  front_4 f =
      let l = joined_length in
      let a = joined_at 0 (omega arith) (omega arith) in
      let k : header_length front ≤ n = omega arith in
      record {
        long = omega arith;
        four = sym joined-version ∙ f.four;
        ihl = omega arith;
        head = k;
        total = omega (arith, joined_at 2 (omega arith) (omega arith), joined_at 3 (omega arith) (omega arith));
        sum = ap fold (sym (joined-header k)) ∙ rw a at f.sum;
      }

  joined_6 : Front6 front n → Fixed6 (front ++ tail)
  joined_6 f =
      record {
        long = omega (arith, joined_length);
        six = joined-version ∙ f.six;
        payload = omega (arith, joined_at 4 (omega arith) (omega arith), joined_at 5 (omega arith) (omega arith), joined_length);
      }

  front_6 : Fixed6 (front ++ tail) → Front6 front n
  front_6 f =
      let l = joined_length in
      record {
        long = omega arith;
        six = sym joined-version ∙ f.six;
        payload = omega (arith, joined_at 4 (omega arith) (omega arith), joined_at 5 (omega arith) (omega arith));
      }

-- no test both passes and fails
pub clash : {A : Type 0} (b : Bool) → b ≡ true → b ≡ false → A
clash b t f = let z : ◌≡◌ {A = ℕ} 0 1 = cc in absurd (omega arith)

-- what the tests of a front tell
module _ {front : List ℕ} {n : ℕ} (h : min max_header n ≤ length front) where
  pub tells_4 : (b : Bool) → (b ≡ true → Front4 front n) → (b ≡ false → Front4 front n → ⊥) → Tells form4 front n b
  tells_4 true f k = record { told = λ tail e. sym (facts_form4 (front ++ tail) (joined_4 front tail e h (f refl))) }
  tells_4 false f k = record { told = λ tail e. sym (form4_fails (front ++ tail) (λ g. k refl (front_4 front tail e h g))) }

  pub tells_6 : (b : Bool) → (b ≡ true → Front6 front n) → (b ≡ false → Front6 front n → ⊥) → Tells fixed6 front n b
  tells_6 true f k = record { told = λ tail e. sym (facts_fixed6 (front ++ tail) (joined_6 front tail e h (f refl))) }
  tells_6 false f k = record { told = λ tail e. sym (fixed6_fails (front ++ tail) (λ g. k refl (front_6 front tail e h g))) }
