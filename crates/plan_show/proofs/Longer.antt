-- Where a file is long, what stands behind its front has no part in its lines: reading stops before. Assumes nothing.
use Rattle.std.proofs.Common.{Some}
use Prim.Native.Nat.{ℕ, zero, suc, ◌+◌, ◌-◌, ◌*◌, ◌/◌, ◌^◌, ◌≤◌, ◌<◌}
use mathlib.Core.Bool.{Bool, true, false, not, ◌&&◌}
use mathlib.Core.Path.{◌≡◌, refl, sym, ap, ◌∙◌}
use mathlib.Core.List.{List, [], ◌∷◌, ◌++◌, map}
use mathlib.Core.Logic.{⊎_elim}
use native.Mathlib.Nat.{pow-le-pow_right}
use native.Mathlib.Omega.{arith}
use borrow.Author.Tests.{le-leb, leb-true}
use lib.Dec.{leb, eqb}
use lib.ListN.{length, take, drop, get_or, length-append, length-drop, take-append-drop, get_or-append}
use lib.Seq.{take-append-le, drop-append-le, length-take-le, take_all}
use Rattle.answer.specs.Choice.{pick}
use Rattle.answer.specs.declared.Refusal.{Refusal}
use Rattle.answer.specs.declared.Refusal.TheVariants.{PlanMark, PlanVersion, PlanRule, PlanNotShortest, PlanContext}
use Rattle.answer.proofs.Tests.{order}
use Rattle.octets.specs.Big.{Bytes}
use Rattle.octets.proofs.BigLaws.{bytes_take, bytes_drop}
use Rattle.varint.specs.Numbers.{room, form_size, read_number, shortest, number}
use Rattle.varint.proofs.Reading.{value_of, whole, form-below}
use Rattle.table.specs.declared.Segment.{Segment}
use Rattle.table.specs.Limits.{max_templates, max_segments, static_limit}
use Rattle.table.specs.Templates.{piece_end, segment_of, no_sum, sum_at, Template}
use Rattle.table.specs.Rules.{id_rule, segment_rule, sum_rule, all_clear, none}
use Rattle.table.specs.File.{mark, version, same_bytes, Step, stop, found, and_then, mapped, holding, number_in, two_in, byte_in, bytes_in, piece_in, pieces_in, sum_in, body_in, template_in, templates_in, ending, plan_in}
use Rattle.table.proofs.RuleCases.{segment_facts}
use Rattle.plan_show.specs.Lines.{lines_of, plan_lines, input_room}

-- ---- a step over a longer file: it stops alike, or finds the same and leaves the more behind; n bytes are left at least
data Grown {A : Type 0} (n : A → ℕ) (t : List ℕ) : Step A → Step A → Type 0 where
  stops : {r : Refusal} → Grown n t (stop r) (stop r)
  finds : (a : A) (s : List ℕ) → n a ≤ length s → Bytes s → Grown n t (found a s) (found a (s ++ t))

module _ {t : List ℕ} where
  grown_then : {A B : Type 0} {n : A → ℕ} {k : B → ℕ} {x y : Step A} {f : A → List ℕ → Step B} → Grown n t x y
      → ((a : A) (s : List ℕ) → n a ≤ length s → Bytes s → Grown k t (f a s) (f a (s ++ t))) → Grown k t (and_then x f) (and_then y f)
  grown_then stops g = stops
  grown_then (finds a s h b) g = g a s h b

  grown_mapped : {A B : Type 0} {n : B → ℕ} {x y : Step A} (g : A → B) → Grown (λ a. n (g a)) t x y → Grown n t (mapped g x) (mapped g y)
  grown_mapped g stops = stops
  grown_mapped g (finds a s h b) = finds (g a) s h b

  grown_holding : {A : Type 0} {n : A → ℕ} {x y : Step A} (b : Bool) (r : Refusal) → (b ≡ true → Grown n t x y)
      → Grown n t (holding b r x) (holding b r y)
  grown_holding true r g = g refl
  grown_holding false r g = stops

  grown_pick : {A : Type 0} {n : A → ℕ} {x y u v : Step A} (b : Bool) → Grown n t x y → Grown n t u v → Grown n t (pick b x u) (pick b y v)
  grown_pick true g h = g
  grown_pick false g h = h

  -- what follows is the same
  same_then : {A B : Type 0} {n : A → ℕ} {x y : Step A} {f : A → List ℕ → Step B} → Grown n t x y
      → ((a : A) (s : List ℕ) → n a ≤ length s → Bytes s → f a (s ++ t) ≡ f a s) → and_then y f ≡ and_then x f
  same_then stops g = refl
  same_then (finds a s h b) g = g a s h b

same-holding : {A : Type 0} {x y : Step A} (b : Bool) (r : Refusal) → (b ≡ true → y ≡ x) → holding b r y ≡ holding b r x
same-holding true r g = g refl
same-holding false r g = refl

-- ---- numbers and bytes

-- the most bytes of a number
abbrev number_most : ℕ
number_most = room

size-most : (s : List ℕ) → Bytes s → form_size s ≤ number_most
size-most s b =
    let p : 0 < 2 = omega arith in
    let f : get_or s 0 0 / 64 ≤ 3 = omega (arith, form-below s b) in
    let q : 2 ^ (get_or s 0 0 / 64) ≤ 2 ^ 3 = pow-le-pow_right p f in
    q

module _ (t : List ℕ) where
  module _ (s : List ℕ) (z : ℕ) (h : z ≤ length s) (p : 1 ≤ length s) where
    value_same : value_of z (s ++ t) ≡ value_of z s
    value_same =
        let d : z - 1 ≤ length (drop 1 s) = omega (arith, length-drop 1 s) in
        rw (get_or-append s t 0 0 p, drop-append-le 1 s t p, take-append-le (z - 1) (drop 1 s) t d)

  -- something found in the first z bytes
  grown_behind : {A : Type 0} (a : A) (k z : ℕ) (s : List ℕ) → Bytes s → z + k ≤ length s → Grown (λ v. k) t (found a (drop z s)) (found a (drop z (s ++ t)))
  grown_behind a k z s b h =
      let m : z ≤ length s = omega arith in
      rw (drop-append-le z s t m) (finds a (drop z s) (omega (arith, length-drop z s)) (bytes_drop z s b))

  number_grown : (k : ℕ) (s : List ℕ) → Bytes s → number_most + k ≤ length s → Grown (λ v. k) t (number_in s) (number_in (s ++ t))
  unfolding number_in
  number_grown k s b h =
      let z = form_size s in
      let m : z ≤ length s = omega (arith, size-most s b) in
      let l : z ≤ length (s ++ t) = omega (arith, m, length-append s t) in
      let p : 1 ≤ length s = omega arith in
      let e : read_number s ≡ Some (number (value_of z s) z) = sym (whole s z (value_of z s) refl m refl) in
      let f : z ≡ form_size (s ++ t) = sym (ap (λ (x : ℕ). 2 ^ (x / 64)) (get_or-append s t 0 0 p)) in
      let d : read_number (s ++ t) ≡ Some (number (value_of z s) z) = sym (whole (s ++ t) z (value_of z s) f l (sym (value_same s z m p))) in
      rw (e, d) (grown_holding (shortest (value_of z s) z) PlanNotShortest (λ q. grown_behind (value_of z s) k z s b (omega (arith, size-most s b))))

  two_grown : (k : ℕ) (s : List ℕ) → Bytes s → 2 * number_most + k ≤ length s → Grown (λ v. k) t (two_in s) (two_in (s ++ t))
  unfolding two_in
  two_grown k s b h = grown_then (number_grown (number_most + k) s b (omega arith)) (λ a s₁ g c. grown_mapped (λ v. (a, v)) (number_grown k s₁ c g))

  byte_grown : (k : ℕ) (s : List ℕ) → Bytes s → 1 + k ≤ length s → Grown (λ v. k) t (byte_in s) (byte_in (s ++ t))
  byte_grown k [] b h = absurd (omega arith)
  byte_grown k (x ∷ s) b h = finds x s (omega arith) (λ i. b (suc i))

  bytes_grown : (n : List ℕ → ℕ) (l : ℕ) (s : List ℕ) → Bytes s → l + n (take l s) ≤ length s → Grown n t (bytes_in l s) (bytes_in l (s ++ t))
  unfolding bytes_in
  bytes_grown n l s b h =
      let m : l ≤ length s = omega arith in
      rw (le-leb l (length s) m, le-leb l (length (s ++ t)) (omega (arith, length-append s t)), take-append-le l s t m, drop-append-le l s t m)
      (finds (take l s) (drop l s) (omega (arith, length-drop l s)) (bytes_drop l s b))

  -- ---- pieces and the checksum

  -- the bytes of pieces are within what is left of the limit
  piece_grown : (k ended : ℕ) (s : List ℕ) → Bytes s → 2 * number_most + (static_limit - ended + k) ≤ length s
      → Grown (λ p. static_limit - piece_end p + k) t (piece_in ended s) (piece_in ended (s ++ t))
  unfolding piece_in
  piece_grown k ended s b h =
      grown_then (two_grown (static_limit - ended + k) s b h)
      (λ n s₁ g c.
      grown_holding (segment_rule ended n.0 n.1) PlanRule
      (λ q.
      let f = segment_facts ended n.0 n.1 q in
      let l : n.1 ≤ length s₁ = omega (arith, f.behind, f.within) in
      grown_mapped (λ bytes. record { offset = n.0; bytes = bytes })
      (bytes_grown (λ bytes. static_limit - (n.0 + length bytes) + k) n.1 s₁ c (omega (arith, f.behind, f.within, length-take-le n.1 s₁ l)))))

  pieces_grown : (n ended k : ℕ) (s : List ℕ) → Bytes s → 2 * number_most * n + (static_limit - ended + k) ≤ length s
      → Grown (λ ps. k) t (pieces_in n ended s) (pieces_in n ended (s ++ t))
  unfolding pieces_in
  pieces_grown zero ended k s b h = finds [] s (omega arith) b
  pieces_grown (suc n) ended k s b h =
      grown_then (piece_grown (2 * number_most * n + k) ended s b (omega arith))
      (λ p s₁ g c. grown_mapped (λ ps. p ∷ ps) (pieces_grown n (piece_end p) k s₁ c (omega arith)))

  -- the most bytes of a checksum: the flag and two numbers
  abbrev sumMost : ℕ
  sumMost = 1 + 2 * number_most

  sum_grown : (ss : List Segment) (k : ℕ) (s : List ℕ) → Bytes s → sumMost + k ≤ length s → Grown (λ v. k) t (sum_in ss s) (sum_in ss (s ++ t))
  unfolding sum_in
  sum_grown ss k s b h =
      grown_then (byte_grown (2 * number_most + k) s b (omega arith))
      (λ flag s₁ g c.
      grown_pick (eqb flag 0) (grown_holding (not (none ss)) PlanRule (λ q. finds no_sum s₁ (omega arith) c))
      (grown_holding (eqb flag 1) PlanRule (λ q. grown_then (two_grown k s₁ c g) (λ n s₂ j d. grown_holding (sum_rule n.0 n.1 && all_clear n.0 ss) PlanRule (λ r. finds (sum_at n.0 n.1) s₂ j d)))))

  -- ---- templates

  -- the most bytes of a template: ID, count, the numbers of its segments, their bytes, checksum
  abbrev template_most : ℕ
  template_most = number_most + 1 + 2 * number_most * max_segments + static_limit + sumMost

  body_grown : (id k : ℕ) (s : List ℕ) → Bytes s → template_most - number_most + k ≤ length s → Grown (λ v. k) t (body_in id s) (body_in id (s ++ t))
  unfolding body_in
  body_grown id k s b h =
      grown_then (byte_grown (2 * number_most * max_segments + static_limit + sumMost + k) s b (omega arith))
      (λ n s₁ g c.
      grown_holding (leb n max_segments) PlanRule
      (λ q.
      let f = leb-true n max_segments q in
      grown_then (pieces_grown n 0 (sumMost + k) s₁ c (omega arith))
      (λ ps s₂ j d. grown_mapped (λ v. record { id = id; pieces = ps; sum = v }) (sum_grown (map segment_of ps) k s₂ d j))))

  template_grown : (previous k : ℕ) (s : List ℕ) → Bytes s → template_most + k ≤ length s
      → Grown (λ v. k) t (template_in previous s) (template_in previous (s ++ t))
  unfolding template_in
  template_grown previous k s b h =
      grown_then (number_grown (template_most - number_most + k) s b (omega arith))
      (λ id s₁ g c. grown_holding (id_rule previous id) PlanContext (λ q. body_grown id k s₁ c g))

  templates_grown : (n previous k : ℕ) (s : List ℕ) → Bytes s → template_most * n + k ≤ length s
      → Grown (λ ts. k) t (templates_in n previous s) (templates_in n previous (s ++ t))
  unfolding templates_in
  templates_grown zero previous k s b h = finds [] s (omega arith) b
  templates_grown (suc n) previous k s b h =
      grown_then (template_grown previous (template_most * n + k) s b (omega arith))
      (λ v s₁ g c. grown_mapped (λ ts. v ∷ ts) (templates_grown n v.id k s₁ c g))

  -- ---- a file

  -- the most bytes that are read of a file, and one that is left over
  abbrev fileMost : ℕ
  fileMost = 6 + template_most * max_templates + 1

  ending-same : (ts : List Template) (s : List ℕ) → 1 ≤ length s → ending ts (s ++ t) ≡ ending ts s
  ending-same ts [] h = absurd (omega arith)
  ending-same ts (x ∷ s) h = refl

  plan-same : (s : List ℕ) → Bytes s → fileMost ≤ length s → plan_in (s ++ t) ≡ plan_in s
  unfolding plan_in
  plan-same s b h =
      same_then (bytes_grown (λ m. fileMost - 3) 3 s b (omega arith))
      (λ m s₁ g₁ b₁.
      same-holding (same_bytes m mark) PlanMark
      (λ q₁.
      same_then (bytes_grown (λ v. fileMost - 5) 2 s₁ b₁ (omega arith))
      (λ v s₂ g₂ b₂.
      same-holding (same_bytes v version) PlanVersion
      (λ q₂.
      same_then (byte_grown (fileMost - 6) s₂ b₂ (omega arith))
      (λ n s₃ g₃ b₃.
      same-holding (leb n max_templates) PlanContext
      (λ q₃.
      let f = leb-true n max_templates q₃ in
      same_then (templates_grown n 0 1 s₃ b₃ (omega arith)) (λ ts s₄ g₄ b₄. ending-same ts s₄ g₄)))))))

-- the bytes that are read decide the lines of an input, whatever stands behind them
pub front_decides : (input : List ℕ) → Bytes input → plan_lines (take input_room input) ≡ plan_lines input
unfolding plan_lines
front_decides input b =
    let front = take input_room input in
    ⊎_elim
    (λ h.
    let l : length front ≡ input_room = length-take-le input_room input (omega arith) in
    ap lines_of (sym (plan-same (drop input_room input) front (bytes_take input_room input b) (omega arith)) ∙ ap plan_in (take-append-drop input_room input)))
    (λ h. ap (λ (s : List ℕ). lines_of (plan_in s)) (take_all input_room input h))
    (order input_room (length input))
