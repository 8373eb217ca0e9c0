-- The loops that judge a list element by element: what the elements from i on say, after those before, is the verdict. Assumes nothing.
use Rattle.std.proofs.Common.{Result, Ok, Err}
use Prim.Native.Nat.{ℕ, zero, suc, ◌+◌, ◌-◌, ◌<◌, ◌≤◌, min}
use mathlib.Core.Bool.{Bool, true, false, not, ◌&&◌, ◌||◌}
use mathlib.Core.Path.{◌≡◌, refl, sym, ap, ◌∙◌}
use mathlib.Core.List.{List, [], ◌∷◌}
use native.Mathlib.Nat.{sub-zero, not-suc-le-zero}
use native.Mathlib.Numerals.{add-one, sub-one}
use native.Mathlib.Omega.{arith}
use borrow.Author.Tests.{not-false, le-leb, lt-leb, eq-eqb, ne_eqb}
use lib.Dec.{eqb}
use Rattle.answer.specs.declared.Refusal.{Refusal}
use Rattle.answer.specs.declared.Refusal.TheVariants.{BadRequestId, TooMany, RangesOutOfOrder}
use Rattle.answer.specs.Verdict.{stop_if, ◌then◌}
use Rattle.lists.specs.declared.AddressEntry.{AddressEntry}
use Rattle.lists.specs.declared.RouteRange.{RouteRange}
use Rattle.octets.specs.Scan.{from, any_of}
use Rattle.lists.specs.Rules.{id_of, in_order}
use Rattle.lists.specs.Words.{entry_at, range_at}
use Rattle.octets.proofs.Scans.{from_more, from_end}
use Rattle.capsule.specs.Elements.{Format, judged, count_verdict}
use Rattle.capsule.specs.Entries.{entry_follows, range_follows, newest}
use Rattle.capsule_write.specs.Earlier.{earlier}
use Rattle.capsule_write.specs.Verdicts.{element_verdict, list_verdict}

-- ---- verdicts

pub if_go : (t : Bool) (r : Refusal) (v : Result Unit Refusal) → stop_if t r v ≡ Ok tt → (t ≡ false) × (v ≡ Ok tt)
if_go true r v e = (cc, cc)
if_go false r v e = (refl, e)

stopped : (t : Bool) (why : Refusal) (v u : Result Unit Refusal) {r : Refusal} → stop_if t why v ≡ Err r → stop_if t why (v then u) ≡ Err r
stopped true why v u e = e
stopped false why (Err w) u e = e
stopped false why (Ok _) u e = cc

-- ---- any kind of element

pub record Judging {A : Type 0} (f : Format A) (at : ℕ → A) (n : ℕ) (i : ℕ) : Type 0 where
  pub within : i ≤ n
  pub rest : judged f (earlier at i) (from at i (n - i)) ≡ judged f [] (from at 0 n)

module _ {A : Type 0} (f : Format A) (at : ℕ → A) (n : ℕ) where
  pub judge-start : Judging f at n 0
  judge-start = record { within = omega arith; rest = rw sub-zero }

module _ {A : Type 0} {f : Format A} {at : ℕ → A} {n i : ℕ} (s : Judging f at n i) where
  pub judge-broken : {x : A} → i < n → x ≡ at i → f.sound x ≡ false → Err f.wrong ≡ judged f [] (from at 0 n)
  judge-broken h q e = rw (from_more at i n h, ← q, e) at s.rest

  pub judge-refused : {x : A} {r : Refusal} → i < n → x ≡ at i → f.sound x ≡ true → f.follows (earlier at i) x ≡ Err r
      → Err r ≡ judged f [] (from at 0 n)
  judge-refused h q e g = rw (from_more at i n h, ← q, e, g) at s.rest

  pub judge-next : {x : A} → i < n → x ≡ at i → f.sound x ≡ true → f.follows (earlier at i) x ≡ Ok tt → Judging f at n (i + 1)
  judge-next {x} h q e g =
      let z : judged f (x ∷ earlier at i) (from at (i + 1) (n - (i + 1))) ≡ judged f [] (from at 0 n) =
      rw (from_more at i n h, ← q, e, g) at s.rest
      in
      let t : earlier at (i + 1) ≡ x ∷ earlier at i = rw (add-one, q) in
      record { within = omega arith; rest = ap (λ (l : List A). judged f l (from at (i + 1) (n - (i + 1)))) t ∙ z }

  -- the same of what an element says
  module _ {x : A} {v : Result Unit Refusal} (h : i < n) (q : x ≡ at i) (e : v ≡ element_verdict f (earlier at i) x) where
    pub judge-fault : {r : Refusal} → v ≡ Err r → Err r ≡ judged f [] (from at 0 n)
    judge-fault g =
        let z = stopped (not (f.sound x)) f.wrong (f.follows (earlier at i) x) (judged f (x ∷ earlier at i) (from at (i + 1) (n - (i + 1)))) (rw e at g) in
        sym z ∙ rw (from_more at i n h, ← q) at s.rest

    pub judge-passed : v ≡ Ok tt → Judging f at n (i + 1)
    judge-passed g =
        let t = if_go (not (f.sound x)) f.wrong (f.follows (earlier at i) x) (rw e at g) in
        judge-next h q (not-false (f.sound x) t.0) t.1

  pub judge-end : n ≤ i → (Ok tt) ≡ judged f [] (from at 0 n)
  judge-end h = rw (from_end at i n h) at s.rest

-- ---- Request IDs

-- an ID among those of the first k entries
abbrev pub seen : List ℕ → ℕ → ℕ → Bool
seen w id k = any_of (λ d. eqb (id_of d) id) (earlier (entry_at w) k)

abbrev pub refused_id : List ℕ → ℕ → Bool → ℕ → Bool
refused_id w i request id = request && (eqb id 0 || seen w id i)

-- the entries from k up to i have other IDs
pub record Looking (w : List ℕ) (i : ℕ) (request : Bool) (id k : ℕ) : Type 0 where
  pub within : k ≤ i
  pub rest : seen w id k ≡ refused_id w i request id

module _ (w : List ℕ) (i : ℕ) (request : Bool) (id : ℕ) where
  pub id-unasked : not request ≡ true → false ≡ refused_id w i request id
  id-unasked h = unasked request h
    where
      unasked : (b : Bool) → not b ≡ true → false ≡ (b && (eqb id 0 || seen w id i))
      unasked true e = cc
      unasked false e = refl

  module _ (h : not request ≡ false) where
    asked : (b : Bool) → not b ≡ false → b ≡ true
    asked true e = refl
    asked false e = cc

    pub id_zero : id ≡ 0 → true ≡ refused_id w i request id
    id_zero e = rw (asked request h, eq-eqb id 0 e)

    pub look_start : (id ≡ 0 → ⊥) → Looking w i request id i
    look_start e = record { within = omega arith; rest = rw (asked request h, ne_eqb id 0 e) }

earlier_more : {A : Type 0} (f : ℕ → A) (k : ℕ) → 0 < k → earlier f k ≡ f (k - 1) ∷ earlier f (k - 1)
earlier_more f zero h = absurd (not-suc-le-zero h)
earlier_more f (suc k) h = rw sub-one

module _ {w : List ℕ} {i : ℕ} {request : Bool} {id k : ℕ} (s : Looking w i request id k) where
  pub look_hit : {e : AddressEntry} → 0 < k → e ≡ entry_at w (k - 1) → id_of e ≡ id → true ≡ refused_id w i request id
  look_hit {e} h q f = rw (earlier_more (entry_at w) k h, ← q, eq-eqb (id_of e) id f) at s.rest

  pub look_next : {e : AddressEntry} → 0 < k → e ≡ entry_at w (k - 1) → (id_of e ≡ id → ⊥) → Looking w i request id (k - 1)
  look_next {e} h q f =
      record { within = omega arith; rest = rw (earlier_more (entry_at w) k h, ← q, ne_eqb (id_of e) id f) at s.rest }

  pub look_end : k ≤ 0 → false ≡ refused_id w i request id
  look_end h = let z : k ≡ 0 = omega arith in rw z at s.rest

module _ (w : List ℕ) (i : ℕ) (request : Bool) where
  pub follows-refused : {b : Bool} (e : AddressEntry) → b ≡ refused_id w i request (id_of e) → b ≡ true
      → entry_follows request (earlier (entry_at w) i) e ≡ Err BadRequestId
  unfolding entry_follows
  follows-refused e q h = rw (← q, h)

  pub follows-go : {b : Bool} (e : AddressEntry) → b ≡ refused_id w i request (id_of e) → b ≡ false
      → entry_follows request (earlier (entry_at w) i) e ≡ Ok tt
  unfolding entry_follows
  follows-go e q h = rw (← q, h)

-- ---- the order of ranges

pub newest-earlier : (w : List ℕ) (i : ℕ) {r : RouteRange} → r ≡ range_at w i → r ≡ newest (earlier (range_at w) (i + 1))
newest-earlier w i q = rw (add-one, ← q)

module _ (rs : List RouteRange) {last : RouteRange} (q : last ≡ newest rs) (r : RouteRange) where
  pub order-refused : in_order last r ≡ false → range_follows rs r ≡ Err RangesOutOfOrder
  unfolding range_follows
  order-refused h = rw (← q, h)

  pub order-go : in_order last r ≡ true → range_follows rs r ≡ Ok tt
  unfolding range_follows
  order-go h = rw (← q, h)

-- ---- the count

module _ (asked : Bool) (limit : ℕ) where
  pub count-asked : (n : ℕ) → n ≡ 0 → asked ≡ true → Err BadRequestId ≡ count_verdict asked limit n
  count-asked n e h = rw (e, h)

  pub count-unasked : (n : ℕ) → n ≡ 0 → asked ≡ false → (Ok tt) ≡ count_verdict asked limit n
  count-unasked n e h = rw (e, h)

  pub count-over : (n : ℕ) → limit < n → Err TooMany ≡ count_verdict asked limit n
  count-over zero h = absurd (not-suc-le-zero h)
  count-over (suc n) h = rw (lt-leb (suc n) limit h)

  pub count-within : (n : ℕ) → (n ≡ 0 → ⊥) → n ≤ limit → (Ok tt) ≡ count_verdict asked limit n
  count-within zero f h = absurd (f refl)
  count-within (suc n) f h = rw (le-leb (suc n) limit h)

-- ---- the verdict of a whole list

module _ {A : Type 0} (f : Format A) (asked : Bool) (limit : ℕ) (at : ℕ → A) (count : ℕ) {n : ℕ} (q : n ≡ min count limit) {v : Result Unit Refusal}
    (e : v ≡ judged f [] (from at 0 n)) where
  pub counted : {r : Result Unit Refusal} → v ≡ Ok tt → r ≡ count_verdict asked limit count → r ≡ list_verdict f asked limit at count
  counted g h = rw (← q, ← e, g) h

  pub faulty : {why : Refusal} → v ≡ Err why → Err why ≡ list_verdict f asked limit at count
  faulty g = rw (← q, ← e, g)
