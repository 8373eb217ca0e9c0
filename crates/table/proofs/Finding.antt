-- What a step that finds something went through. Assumes nothing.
use Rattle.std.proofs.Common.{Option, Some, None}
use Prim.Native.Nat.{ℕ, zero, suc, ◌≤◌}
use mathlib.Core.Path.{◌≡◌, refl, sym, ap, ◌∙◌}
use mathlib.Core.Bool.{Bool, true, false}
use mathlib.Core.List.{List, [], ◌∷◌, ◌++◌}
use native.Mathlib.Omega.{arith}
use borrow.Author.Tests.{leb-true, eqb-true}
use lib.Dec.{leb}
use lib.ListN.{length, take, drop, take-append-drop}
use lib.Seq.{length-take-le}
use Rattle.answer.specs.declared.Refusal.{Refusal}
use Rattle.varint.specs.declared.Number.{Number}
use Rattle.varint.specs.Numbers.{read_number, shortest, encoded_size, number}
use Rattle.table.specs.Templates.{Piece, piece_end}
use Rattle.table.specs.Rules.{segment_rule}
use Rattle.table.specs.File.{Step, stop, found, and_then, mapped, holding, shortest_in, number_in, two_in, byte_in, bytes_in, piece_with, piece_in, pieces_in}

pub never : {A : Type 0} {w : Refusal} {a : A} {s : List ℕ} → stop w ≡ found a s → ⊥
never e = let z : ◌≡◌ {A = ℕ} 0 1 = cc in omega arith

module _ {A B : Type 0} where
  -- the first of two steps, and what follows
  pub record Linked (x : Step A) (k : A → List ℕ → Step B) (b : B) (r : List ℕ) : Type 0 where
    pub value : A
    pub rest : List ℕ
    pub first : x ≡ found value rest
    pub next : k value rest ≡ found b r

  pub and_then_found : (x : Step A) (k : A → List ℕ → Step B) {b : B} {r : List ℕ} → and_then x k ≡ found b r → Linked x k b r
  and_then_found (stop w) k e = absurd (never e)
  and_then_found (found a s) k e = record { value = a; rest = s; first = refl; next = e }

  pub record Made (f : A → B) (x : Step A) (b : B) (r : List ℕ) : Type 0 where
    pub value : A
    pub first : x ≡ found value r
    pub made : f value ≡ b

  pub mapped-found : (f : A → B) (x : Step A) {b : B} {r : List ℕ} → mapped f x ≡ found b r → Made f x b r
  mapped-found f (stop w) e = absurd (never e)
  mapped-found f (found a s) e = record { value = a; first = ap (found a) (cc); made = cc }

pub holding-found : {A : Type 0} (t : Bool) (w : Refusal) (x : Step A) {a : A} {r : List ℕ} → holding t w x ≡ found a r
    → (t ≡ true) × (x ≡ found a r)
holding-found true w x e = (refl, e)
holding-found false w x e = absurd (never e)

-- ---- numbers

pub record NumberGot (s : List ℕ) (v : ℕ) (rest : List ℕ) : Type 0 where
  pub size : ℕ
  pub read : read_number s ≡ Some (number v size)
  pub short : size ≡ encoded_size v
  pub behind : rest ≡ drop size s

pub number-found : (s : List ℕ) {v : ℕ} {rest : List ℕ} → number_in s ≡ found v rest → NumberGot s v rest
unfolding number_in
number-found s {v} {rest} e = go (read_number s) refl e
  where
    go : (r : Option Number) → read_number s ≡ r → shortest_in s r ≡ found v rest → NumberGot s v rest
    go (Some number) q f =
        let h = holding-found (shortest number.value number.size) _ (found number.value (drop number.size s)) f in
        let i : found number.value (drop number.size s) ≡ found v rest = h.1 in
        let z : number.value ≡ v = cc in
        let y : drop number.size s ≡ rest = cc in
        record { size = number.size; read = q ∙ rw z; short = rw z at (eqb-true number.size (encoded_size number.value) h.0); behind = sym y }
    go None q f = absurd (never f)

pub record TwoGot (s : List ℕ) (n : ℕ × ℕ) (rest : List ℕ) : Type 0 where
  pub mid : List ℕ
  pub first : number_in s ≡ found n.0 mid
  pub second : number_in mid ≡ found n.1 rest

pub two-found : (s : List ℕ) {n : ℕ × ℕ} {rest : List ℕ} → two_in s ≡ found n rest → TwoGot s n rest
unfolding two_in
two-found s {n} {rest} e =
    let l = and_then_found (number_in s) (λ a s₁. mapped (λ b. (a, b)) (number_in s₁)) e in
    let m = mapped-found (λ b. (l.value, b)) (number_in l.rest) l.next in
    record {
      mid = l.rest;
      first = l.first ∙ ap (λ (p : ℕ × ℕ). found p.0 l.rest) m.made;
      second = m.first ∙ ap (λ (p : ℕ × ℕ). found p.1 rest) m.made;
    }

-- ---- bytes

pub byte_found : (s : List ℕ) {b : ℕ} {rest : List ℕ} → byte_in s ≡ found b rest → s ≡ b ∷ rest
byte_found [] e = absurd (never e)
byte_found (x ∷ s) {b} {rest} e =
    let z : x ≡ b = cc in
    let y : s ≡ rest = cc in
    rw (z, y)

pub record BytesGot (n : ℕ) (s bs rest : List ℕ) : Type 0 where
  pub count : length bs ≡ n
  pub split : s ≡ bs ++ rest

pub bytes-found : (n : ℕ) (s : List ℕ) {bs rest : List ℕ} → bytes_in n s ≡ found bs rest → BytesGot n s bs rest
unfolding bytes_in
bytes-found n s {bs} {rest} e =
    let h = holding-found (leb n (length s)) _ (found (take n s) (drop n s)) e in
    let l : n ≤ length s = leb-true n (length s) h.0 in
    let i : found (take n s) (drop n s) ≡ found bs rest = h.1 in
    let z : take n s ≡ bs = cc in
    let y : drop n s ≡ rest = cc in
    record { count = sym (ap length z) ∙ length-take-le n s l; split = sym (take-append-drop n s) ∙ rw (z, y) }

-- ---- pieces

pub record PieceGot (ended : ℕ) (s : List ℕ) (p : Piece) (rest : List ℕ) : Type 0 where
  pub mid : List ℕ
  pub two : two_in s ≡ found (p.offset, length p.bytes) mid
  pub rule : segment_rule ended p.offset (length p.bytes) ≡ true
  pub split : mid ≡ p.bytes ++ rest

pair_same : {a b c d : ℕ} → a ≡ c → b ≡ d → ◌≡◌ {A = ℕ × ℕ} (a, b) (c, d)
pair_same o k = rw (o, k)

rule-same : {a b c d : ℕ} (ended : ℕ) → a ≡ c → b ≡ d → segment_rule ended a b ≡ true → segment_rule ended c d ≡ true
rule-same ended o k h = rw (← o, ← k) h

pub piece_found : (ended : ℕ) (s : List ℕ) {p : Piece} {rest : List ℕ} → piece_in ended s ≡ found p rest → PieceGot ended s p rest
unfolding piece_in
piece_found ended s {p} {rest} e =
    let l = and_then_found (two_in s) (piece_with ended) e in
    let n = l.value in
    let h =
    holding-found (segment_rule ended n.0 n.1) _
    (mapped (λ bytes. record { offset = n.0; bytes = bytes }) (bytes_in n.1 l.rest))
    l.next
    in
    let m = mapped-found {B = Piece} (λ bytes. record { offset = n.0; bytes = bytes }) (bytes_in n.1 l.rest) h.1 in
    let b = bytes-found n.1 l.rest m.first in
    let o : n.0 ≡ p.offset = ap (λ (q : Piece). q.offset) m.made in
    let y : m.value ≡ p.bytes = ap (λ (q : Piece). q.bytes) m.made in
    let k : n.1 ≡ length p.bytes = sym b.count ∙ ap length y in
    record {
      mid = l.rest;
      two = l.first ∙ ap (λ (q : ℕ × ℕ). found q l.rest) (pair_same o k);
      rule = rule-same ended o k h.0;
      split = b.split ∙ ap (λ (q : List ℕ). q ++ rest) y;
    }

pub pieces-count : (n ended : ℕ) (s : List ℕ) {ps : List Piece} {rest : List ℕ} → pieces_in n ended s ≡ found ps rest → length ps ≡ n
unfolding pieces_in
pieces-count zero ended s {ps} {rest} e = let z : [] ≡ ps = cc in sym (ap length z)
pieces-count (suc n) ended s {ps} {rest} e =
    let l = and_then_found (piece_in ended s) (λ p s₁. mapped (λ ps. p ∷ ps) (pieces_in n (piece_end p) s₁)) e in
    let m = mapped-found (λ ps. l.value ∷ ps) (pieces_in n (piece_end l.value) l.rest) l.next in
    sym (ap length m.made) ∙ ap suc (pieces-count n (piece_end l.value) l.rest m.first)
