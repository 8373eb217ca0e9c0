-- The steps of reading, by the cases of the code, and what a step that finds something went through. Assumes nothing.
use Rattle.std.proofs.Common.{Result, Ok, Err, Option, Some, None}
use Prim.Native.Nat.{ℕ, ◌+◌, ◌-◌, ◌≤◌, ◌<◌}
use mathlib.Core.Path.{◌≡◌, refl, sym, ap, ◌∙◌}
use mathlib.Core.Bool.{true, false}
use mathlib.Core.List.{List, [], ◌∷◌}
use native.Mathlib.Nat.{sub-zero}
use native.Mathlib.Numerals.{add-one}
use native.Mathlib.Omega.{arith}
use borrow.Author.Tests.{le-leb, lt-leb, ne_eqb}
use lib.Dec.{leb, eqb}
use Rattle.std.proofs.lemmas.Bool.Decides.{nat_tests}
use lib.ListN.{length, take, drop, get_or, length-drop, drop_of_length-le}
use lib.Seq.{drop-cons, drop-drop}
use lib.Pointwise.{pointwise}
use Rattle.answer.specs.declared.Refusal.{Refusal}
use Rattle.answer.specs.declared.Refusal.TheVariants.{PlanMark, PlanVersion, PlanCut, PlanRule, PlanNotShortest, PlanContext}
use Rattle.octets.specs.Scan.{from}
use Rattle.octets.specs.Parts.{part}
use Rattle.octets.proofs.Parts.{tail}
use Rattle.octets.proofs.Scans.{from_more}
use Rattle.varint.specs.declared.Number.{Number}
use Rattle.varint.specs.Numbers.{read_number, shortest, number}
use Rattle.varint.proofs.Reading.{taken}
use Rattle.table.specs.declared.Segment.{Segment}
use Rattle.table.specs.declared.reading.NumberAt.{NumberAt}
use Rattle.table.specs.declared.reading.TwoAt.{TwoAt}
use Rattle.table.specs.Limits.{max_templates}
use Rattle.table.specs.Templates.{no_sum}
use Rattle.table.specs.Rules.{segment_rule, clear_of, all_clear, none}
use Rattle.table.specs.File.{stop, found, mark, same_bytes, number_in, two_in, byte_in, bytes_in, piece_in, sum_in, plan_in}
use Rattle.table.specs.Found.{FoundAt, HeadFound, pair_in}

-- ---- what stands at a place

module _ (s : List ℕ) (at : ℕ) where
  pub byte_at_lem : at < length s → byte_in (drop at s) ≡ found (get_or s at 0) (drop (at + 1) s)
  byte_at_lem h = rw (drop-cons s at 0 h, add-one)

  pub byte_cut : length s ≤ at → byte_in (drop at s) ≡ stop PlanCut
  byte_cut h = rw (drop_of_length-le s h)

-- ---- a number

module _ (s : List ℕ) (at : ℕ) {r : Option Number} (q : r ≡ read_number (take (length s - at) (drop at s))) where
  number_read : {t : Option Number} → r ≡ t → read_number (drop at s) ≡ t
  number_read e = ap read_number (sym (tail at s)) ∙ sym q ∙ e

  pub number_cut : r ≡ None → number_in (drop at s) ≡ stop PlanCut
  unfolding number_in
  number_cut e = rw (number_read e)

  module _ {v n : ℕ} (e : r ≡ Some (number v n)) where
    pub number-end : at ≤ length s → at + n ≤ length s
    number-end h = let f : n ≤ length (drop at s) = (taken (drop at s) v n (number_read e)).within in omega (arith, length-drop at s)

    pub number-long : shortest v n ≡ false → number_in (drop at s) ≡ stop PlanNotShortest
    unfolding number_in
    number-long f = rw (number_read e, f)

    pub number-fine : at ≤ length s → shortest v n ≡ true → FoundAt s (number_in (drop at s)) v (at + n)
    unfolding number_in
    number-fine h f = record { within = number-end h; same = rw (number_read e, f, drop-drop n at s) }

-- ---- two numbers

module _ (s : List ℕ) (at : ℕ) where
  pub two-stop : {w : Refusal} → number_in (drop at s) ≡ stop w → two_in (drop at s) ≡ stop w
  unfolding two_in
  two-stop e = rw e

  module _ {one : NumberAt} (o : FoundAt s (number_in (drop at s)) one.value one.next) where
    pub two-second : {w : Refusal} → number_in (drop one.next s) ≡ stop w → two_in (drop at s) ≡ stop w
    unfolding two_in
    two-second e = rw (o.same, e)

    pub two-fine : {two : NumberAt} → FoundAt s (number_in (drop one.next s)) two.value two.next → FoundAt s (two_in (drop at s)) (one.value, two.value) two.next
    unfolding two_in
    two-fine t = record { within = t.within; same = rw (o.same, t.same) }

-- ---- a segment

module _ (s : List ℕ) (at ended : ℕ) where
  pub piece_two : {w : Refusal} → two_in (drop at s) ≡ stop w → piece_in ended (drop at s) ≡ stop w
  unfolding piece_in
  piece_two e = rw e

  module _ {two : TwoAt} (o : FoundAt s (two_in (drop at s)) (two.first, two.second) two.next) where
    pub piece_broken : segment_rule ended two.first two.second ≡ false → piece_in ended (drop at s) ≡ stop PlanRule
    unfolding piece_in
    piece_broken f = rw (o.same, f)

    module _ (f : segment_rule ended two.first two.second ≡ true) where
      pub piece_cut : length s - two.next < two.second → piece_in ended (drop at s) ≡ stop PlanCut
      unfolding piece_in bytes_in
      piece_cut h = rw (o.same, f, length-drop two.next s, lt-leb two.second (length s - two.next) h)

      pub piece_fine : two.second ≤ length s - two.next
          → FoundAt s (piece_in ended (drop at s)) (record { offset = two.first; bytes = part s two.next two.second }) (two.next + two.second)
      unfolding piece_in bytes_in
      piece_fine h =
          let w : two.next ≤ length s = o.within in
          record {
            within = omega arith;
            same = rw (o.same, f, length-drop two.next s, le-leb two.second (length s - two.next) h, drop-drop two.second two.next s);
          }

-- ---- the checksum

module _ (f : ℕ → Segment) (n : ℕ) where
  pub none_zero : n ≡ 0 → none (from f 0 n) ≡ true
  none_zero e = rw e

  pub none-some : (n ≡ 0 → ⊥) → none (from f 0 n) ≡ false
  none-some e =
      let h : 0 < n = omega (arith, e) in
      let m : from f 0 n ≡ f 0 ∷ from f 1 (n - 1) = rw sub-zero at (from_more f 0 n h) in
      rw m

module _ (s : List ℕ) (at : ℕ) (ss : List Segment) where
  pub flag-cut : length s ≤ at → sum_in ss (drop at s) ≡ stop PlanCut
  unfolding sum_in
  flag-cut h = rw (byte_cut s at h)

  module _ (h : at < length s) where
    pub flag-none : get_or s at 0 ≡ 0 → none ss ≡ true → sum_in ss (drop at s) ≡ stop PlanRule
    unfolding sum_in
    flag-none e f = rw (byte_at_lem s at h, e, f)

    pub flag_zero : get_or s at 0 ≡ 0 → none ss ≡ false → sum_in ss (drop at s) ≡ found no_sum (drop (at + 1) s)
    unfolding sum_in
    flag_zero e f = rw (byte_at_lem s at h, e, f)

    module _ (z : get_or s at 0 ≡ 0 → ⊥) where
      pub flag-other : (get_or s at 0 ≡ 1 → ⊥) → sum_in ss (drop at s) ≡ stop PlanRule
      unfolding sum_in
      flag-other f = rw (byte_at_lem s at h, ne_eqb (get_or s at 0) 0 z, ne_eqb (get_or s at 0) 1 f)

    pub flag_one : get_or s at 0 ≡ 1 → sum_in ss (drop at s) ≡ pair_in ss (drop (at + 1) s)
    unfolding sum_in
    flag_one e = rw (byte_at_lem s at h, e)

-- the segments before j are clear of the field
pub record Clearing (field : ℕ) (f : ℕ → Segment) (n j : ℕ) : Type 0 where
  pub within : j ≤ n
  pub rest : all_clear field (from f j (n - j)) ≡ all_clear field (from f 0 n)

module _ {field : ℕ} {f : ℕ → Segment} {n j : ℕ} (a : Clearing field f n j) where
  pub clear_next : {s : Segment} → j < n → s ≡ f j → clear_of field s.offset s.length ≡ true → Clearing field f n (j + 1)
  clear_next h q e = record { within = omega arith; rest = rw (from_more f j n h, ← q, e) at a.rest }

-- ---- the head of a file

eqb_swap : (x y : ℕ) → eqb y x ≡ eqb x y
eqb_swap x y = grind (arith, nat_tests)

-- the library compares in the other order
pub marked : (xs ys : List ℕ) → pointwise eqb ys xs ≡ same_bytes xs ys
marked [] [] = refl
marked [] (y ∷ ys) = refl
marked (x ∷ xs) [] = refl
marked (x ∷ xs) (y ∷ ys) = rw (eqb_swap x y, marked xs ys)

module _ (s : List ℕ) where
  pub head-stop : {w : Refusal} → plan_in s ≡ stop w → HeadFound s (Err w)
  head-stop {w} e =
      let no : ◌≡◌ {A = Result Unit Refusal} (Err w) (Ok tt) → ⊥ = λ f. let z : ◌≡◌ {A = ℕ} 0 1 = cc in omega arith in
      record { same = e; long = λ f. absurd (no f); few = λ f. absurd (no f) }

  pub mark-cut : length s < 3 → plan_in s ≡ stop PlanCut
  unfolding plan_in bytes_in
  mark-cut h = rw (lt-leb 3 (length s) h)

  module _ (h : 3 ≤ length s) where
    pub mark-wrong : same_bytes (take 3 s) mark ≡ false → plan_in s ≡ stop PlanMark
    unfolding plan_in bytes_in
    mark-wrong e = rw (le-leb 3 (length s) h, e)

    module _ (e : same_bytes (take 3 s) mark ≡ true) where
      pub version-cut : length s < 5 → plan_in s ≡ stop PlanCut
      unfolding plan_in bytes_in
      version-cut g =
          let k : length s - 3 < 2 = omega arith in
          rw (le-leb 3 (length s) h, e, length-drop 3 s, lt-leb 2 (length s - 3) k)

      module _ (g : 5 ≤ length s) where
        two_bytes : take 2 (drop 3 s) ≡ get_or s 3 0 ∷ get_or s 4 0 ∷ []
        two_bytes =
            let a : drop 3 s ≡ get_or s 3 0 ∷ drop 4 s = drop-cons s 3 0 (omega arith) in
            let b : drop 4 s ≡ get_or s 4 0 ∷ drop 5 s = drop-cons s 4 0 (omega arith) in
            rw (a, b)

        long : leb 2 (length s - 3) ≡ true
        long = le-leb 2 (length s - 3) (omega arith)

        pub version-high : (get_or s 3 0 ≡ 0 → ⊥) → plan_in s ≡ stop PlanVersion
        unfolding plan_in bytes_in
        version-high z = rw (le-leb 3 (length s) h, e, length-drop 3 s, long, two_bytes, ne_eqb (get_or s 3 0) 0 z)

        module _ (z : get_or s 3 0 ≡ 0) where
          pub version_low : (get_or s 4 0 ≡ 1 → ⊥) → plan_in s ≡ stop PlanVersion
          unfolding plan_in bytes_in
          version_low y = rw (le-leb 3 (length s) h, e, length-drop 3 s, long, two_bytes, z, ne_eqb (get_or s 4 0) 1 y)

          module _ (y : get_or s 4 0 ≡ 1) where
            pub count_cut : length s < 6 → plan_in s ≡ stop PlanCut
            unfolding plan_in bytes_in
            count_cut k =
                let l : length s ≤ 5 = omega arith in
                rw (le-leb 3 (length s) h, e, length-drop 3 s, long, two_bytes, z, y, drop-drop 2 3 s, byte_cut s 5 l)

            module _ (k : 6 ≤ length s) where
              pub count-over : max_templates < get_or s 5 0 → plan_in s ≡ stop PlanContext
              unfolding plan_in bytes_in
              count-over m =
                  rw
                  (le-leb 3 (length s) h, e, length-drop 3 s, long, two_bytes, z, y, drop-drop 2 3 s, byte_at_lem s 5 k, lt-leb (get_or s 5 0) max_templates m)

              pub head-fine : get_or s 5 0 ≤ max_templates → HeadFound s (Ok tt)
              unfolding plan_in bytes_in
              head-fine m =
                  record {
                    same = rw
                        (le-leb 3 (length s) h, e, length-drop 3 s, long, two_bytes, z, y, drop-drop 2 3 s, byte_at_lem s 5 k, le-leb (get_or s 5 0) max_templates m);
                    long = λ f. k;
                    few = λ f. m;
                  }
