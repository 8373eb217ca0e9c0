-- Ranges on bytes: what is written is read back, and what is read is what is written. By the version. Assumes nothing.
use Rattle.std.proofs.Common.{Option, Some, None}
use Prim.Native.Nat.{ℕ, ◌^◌, ◌≤◌, ◌<◌}
use mathlib.Core.Bool.{Bool, true, false, ◌&&◌}
use mathlib.Core.Path.{◌≡◌, refl, sym, ap, ◌∙◌}
use mathlib.Core.List.{List, [], ◌∷◌, ◌++◌}
use mathlib.Core.Logic.{⊎_elim}
use native.Mathlib.Omega.{arith}
use borrow.Author.Tests.{lt-ltb, ltb-true}
use lib.Dec.{eqb}
use lib.ListN.{length, get_or, drop}
use lib.Seq.{drop-cons}
use Rattle.answer.specs.Choice.{pick}
use Rattle.answer.proofs.Tests.{and_both}
use Rattle.octets.specs.Big.{big_at, digits, Bytes}
use Rattle.lists.specs.declared.RouteRange.{RouteRange}
use Rattle.lists.specs.Rules.{end_of, sound_range}
use Rattle.lists.proofs.RangeRule as Rule
use Rattle.capsule.specs.declared.element.RangeRead.{RangeRead}
use Rattle.capsule.specs.Elements.{element}
use Rattle.capsule.specs.Entries.{range_read, range4, range6, read_range, range_bytes, range_element, range_format}
use Rattle.capsule.specs.Sound.{is_word, range_in_words}
use Rattle.capsule.proofs.RangeCases as Range
use Rattle.capsule.proofs.Fields as Fields
use Rattle.capsule.proofs.Parsing.{Lawful}

abbrev range_of : ℕ → ℕ → ℕ → ℕ → ℕ → ℕ → RouteRange
range_of v p a b c d = record { version = v; protocol = p; start_hi = a; start_lo = b; end_hi = c; end_lo = d }

range_same : (r q : RouteRange) → r.version ≡ q.version → r.protocol ≡ q.protocol → r.start_hi ≡ q.start_hi
    → r.start_lo ≡ q.start_lo → r.end_hi ≡ q.end_hi → r.end_lo ≡ q.end_lo → r ≡ q
range_same r q v p a b c d =
    let e : range_of r.version r.protocol r.start_hi r.start_lo r.end_hi r.end_lo ≡ range_of q.version q.protocol q.start_hi q.start_lo q.end_hi q.end_lo
    = rw (v, p, a, b, c, d) in
    e

-- the halves of the ends are words
record Words (r : RouteRange) : Type 0 where
  pub a : r.start_hi < 2 ^ 64
  pub b : r.start_lo < 2 ^ 64
  pub c : r.end_hi < 2 ^ 64
  pub d : r.end_lo < 2 ^ 64

words_facts : (r : RouteRange) → range_in_words r ≡ true → Words r
words_facts r w =
    let p = and_both (is_word r.start_hi) (is_word r.start_lo && (is_word r.end_hi && is_word r.end_lo)) w in
    let q = and_both (is_word r.start_lo) (is_word r.end_hi && is_word r.end_lo) p.1 in
    let s = and_both (is_word r.end_hi) (is_word r.end_lo) q.1 in
    record {
      a = ltb-true r.start_hi (2 ^ 64) p.0;
      b = ltb-true r.start_lo (2 ^ 64) q.0;
      c = ltb-true r.end_hi (2 ^ 64) s.0;
      d = ltb-true r.end_lo (2 ^ 64) s.1;
    }

facts_words : (r : RouteRange) → Words r → range_in_words r ≡ true
facts_words r w =
    rw (lt-ltb r.start_hi (2 ^ 64) w.a, lt-ltb r.start_lo (2 ^ 64) w.b, lt-ltb r.end_hi (2 ^ 64) w.c)
    (lt-ltb r.end_lo (2 ^ 64) w.d)

-- the bytes of a range, at a version
abbrev bytes_at : RouteRange → ℕ → List ℕ
bytes_at r v =
    v
    ∷ (pick (eqb v 4) (digits 4 r.start_lo ++ digits 4 r.end_lo)
    (digits 8 r.start_hi ++ (digits 8 r.start_lo ++ (digits 8 r.end_hi ++ digits 8 r.end_lo)))
    ++ (r.protocol ∷ []))

-- ---- written, then read
module _ (r : RouteRange) (s : sound_range r ≡ true) (w : range_in_words r ≡ true) (rest : List ℕ) where
  at-version : (v : ℕ) → r.version ≡ v → read_range (bytes_at r v ++ rest) ≡ Some (range_read r (length (bytes_at r v)))
      → read_range (range_bytes r ++ rest) ≡ Some (range_read r (length (range_bytes r)))
  unfolding range_bytes
  at-version v q h =
      ap (λ (x : ℕ). read_range (bytes_at r x ++ rest)) q ∙ h ∙ ap (λ (x : ℕ). Some (range_read r (length (bytes_at r x)))) (sym q)

  written4 : r.version ≡ 4 → read_range (range_bytes r ++ rest) ≡ Some (range_read r (length (range_bytes r)))
  unfolding range_bytes
  written4 v =
      let f = Rule.range_facts r s in
      let o = f.ends in
      let e : end_of r < 2 ^ 32 = f.version.ipv4 v in
      let a : r.start_hi ≡ 0 = omega arith in
      let b : r.start_lo < 256 ^ 4 = omega arith in
      let c : r.end_hi ≡ 0 = omega arith in
      let d : r.end_lo < 256 ^ 4 = omega arith in
      let t : List ℕ = 4 ∷ (digits 4 r.start_lo ++ (digits 4 r.end_lo ++ (r.protocol ∷ rest))) in
      let q : r ≡ range4 t =
      range_same r (range4 t) v refl a (sym (Fields.big-digits 4 r.start_lo b)) c (sym (Fields.big-digits 4 r.end_lo d)) in
      at-version 4 v (sym (Range.case4 t true r refl (omega arith) q s))

  written6 : r.version ≡ 6 → read_range (range_bytes r ++ rest) ≡ Some (range_read r (length (range_bytes r)))
  unfolding range_bytes
  written6 v =
      let f = words_facts r w in
      let t : List ℕ =
      6 ∷ (digits 8 r.start_hi ++ (digits 8 r.start_lo ++ (digits 8 r.end_hi ++ (digits 8 r.end_lo ++ (r.protocol ∷ rest))))) in
      let q : r ≡ range6 t =
      range_same r (range6 t) v refl (sym (Fields.big-digits 8 r.start_hi f.a)) (sym (Fields.big-digits 8 r.start_lo f.b)) (sym (Fields.big-digits 8 r.end_hi f.c)) (sym (Fields.big-digits 8 r.end_lo f.d)) in
      at-version 6 v (sym (Range.case6 t true r refl (omega arith) q s))

  pub read_range_written : read_range (range_bytes r ++ rest) ≡ Some (range_read r (length (range_bytes r)))
  read_range_written = ⊎_elim written4 written6 (Rule.range_facts r s).version.known

-- ---- read, then written
module _ (s : List ℕ) (h : Bytes s) where
  front4 : get_or s 0 0 ≡ 4 → 10 ≤ length s → s ≡ range_bytes (range4 s) ++ drop 10 s
  unfolding range_bytes
  front4 v l =
      let a : s ≡ get_or s 0 0 ∷ drop 1 s = drop-cons s 0 0 (omega arith) in
      let b : drop 1 s ≡ digits 4 (big_at 1 4 s) ++ drop 5 s = Fields.field-digits s h 1 4 (omega arith) in
      let c : drop 5 s ≡ digits 4 (big_at 5 4 s) ++ drop 9 s = Fields.field-digits s h 5 4 (omega arith) in
      let d : drop 9 s ≡ get_or s 9 0 ∷ drop 10 s = drop-cons s 9 0 (omega arith) in
      a ∙ ap (λ (x : ℕ). x ∷ drop 1 s) v
      ∙ ap (λ (x : List ℕ). 4 ∷ x) (b ∙ ap (λ (x : List ℕ). digits 4 (big_at 1 4 s) ++ x) (c ∙ ap (λ (x : List ℕ). digits 4 (big_at 5 4 s) ++ x) d))

  front6 : get_or s 0 0 ≡ 6 → 34 ≤ length s → s ≡ range_bytes (range6 s) ++ drop 34 s
  unfolding range_bytes
  front6 v l =
      let a : s ≡ get_or s 0 0 ∷ drop 1 s = drop-cons s 0 0 (omega arith) in
      let b : drop 1 s ≡ digits 8 (big_at 1 8 s) ++ drop 9 s = Fields.field-digits s h 1 8 (omega arith) in
      let c : drop 9 s ≡ digits 8 (big_at 9 8 s) ++ drop 17 s = Fields.field-digits s h 9 8 (omega arith) in
      let d : drop 17 s ≡ digits 8 (big_at 17 8 s) ++ drop 25 s = Fields.field-digits s h 17 8 (omega arith) in
      let e : drop 25 s ≡ digits 8 (big_at 25 8 s) ++ drop 33 s = Fields.field-digits s h 25 8 (omega arith) in
      let f : drop 33 s ≡ get_or s 33 0 ∷ drop 34 s = drop-cons s 33 0 (omega arith) in
      a ∙ ap (λ (x : ℕ). x ∷ drop 1 s) v
      ∙ ap (λ (x : List ℕ). 6 ∷ x)
      (b ∙ ap (λ (x : List ℕ). digits 8 (big_at 1 8 s) ++ x)
      (c ∙ ap (λ (x : List ℕ). digits 8 (big_at 9 8 s) ++ x)
      (d ∙ ap (λ (x : List ℕ). digits 8 (big_at 17 8 s) ++ x) (e ∙ ap (λ (x : List ℕ). digits 8 (big_at 25 8 s) ++ x) f))))

  front : (r : RouteRange) (n : ℕ) → Range.Taken s r n → s ≡ range_bytes r ++ drop n s
  front r n (Range.ipv4 v q w) = rw (← q, w.taken) (front4 v w.long)
  front r n (Range.ipv6 v q w) = rw (← q, w.taken) (front6 v w.long)

  in_words : (r : RouteRange) (n : ℕ) → Range.Taken s r n → range_in_words r ≡ true
  in_words r n (Range.ipv4 v q w) =
      rw (← q)
      (facts_words (range4 s)
      (record {
        a = omega arith;
        b = omega (arith, Fields.field_bound s h 1 4);
        c = omega arith;
        d = omega (arith, Fields.field_bound s h 5 4);
      }))
  in_words r n (Range.ipv6 v q w) =
      rw (← q)
      (facts_words (range6 s)
      (record {
        a = Fields.field_bound s h 1 8;
        b = Fields.field_bound s h 9 8;
        c = Fields.field_bound s h 17 8;
        d = Fields.field_bound s h 25 8;
      }))

range_most : (r : RouteRange) → length (range_bytes r) ≤ 34
unfolding range_bytes
range_most r = short (eqb r.version 4)
  where
    short : (t : Bool)
        → length (r.version ∷ (pick t (digits 4 r.start_lo ++ digits 4 r.end_lo) (digits 8 r.start_hi ++ (digits 8 r.start_lo ++ (digits 8 r.end_hi ++ digits 8 r.end_lo))) ++ (r.protocol ∷ []))) ≤ 34
    short true = omega arith
    short false = omega arith

-- ---- the laws of the kind
of_range : (t : Option RangeRead) (a : RouteRange) (n : ℕ) → range_element t ≡ element a n → t ≡ Some (range_read a n)
of_range (Some r) a n q =
    let x : r.range ≡ a = cc in
    let y : r.size ≡ n = cc in
    let z : Some (range_read r.range r.size) ≡ Some (range_read a n) = rw (x, y) in
    z
of_range None a n q = let z : ◌≡◌ {A = ℕ} 0 1 = cc in absurd (omega arith)

pub ranges_lawful : Lawful range_format range_in_words (λ s. true)
ranges_lawful =
    record {
      sized = λ s a n q. Range.size s a n (of_range (read_range s) a n q);
      sound = λ s a n q. Range.sound s a n (of_range (read_range s) a n q);
      worded = λ s a n h q. in_words s h a n (Range.taken s a n (of_range (read_range s) a n q));
      written = λ a rest s w. ap range_element (read_range_written a s w rest);
      most = range_most;
      shortest = λ s a n h q g. front s h a n (Range.taken s a n (of_range (read_range s) a n q));
    }
