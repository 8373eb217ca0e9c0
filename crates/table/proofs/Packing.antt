-- The words of a table as they are stored, template by template. Assumes nothing.
use Prim.Native.Nat.{ℕ, zero, suc, ◌+◌, ◌*◌, ◌≤◌, ◌<◌}
use mathlib.Core.Path.{◌≡◌, refl, ap, ◌∙◌}
use mathlib.Core.List.{List, [], ◌∷◌, ◌++◌, map}
use native.Mathlib.Nat.{not-suc-le-zero, le_of_suc-le-suc}
use native.Mathlib.Omega.{arith}
use lib.ListN.{length, take, drop, replicate, length-replicate}
use lib.Seq.{take_at, drop_at, drop-append-add}
use Rattle.octets.specs.Parts.{part, with_part}
use Rattle.octets.specs.Scan.{from}
use Rattle.octets.proofs.Scans.{from_suc, from-same}
use Rattle.table.specs.Templates.{Template}
use Rattle.table.specs.Limits.{max_templates}
use Rattle.table.specs.Words.{template_words, words_at, pack_template, templates_words, pack_table}
use Rattle.table.proofs.Storing.{with_append}

-- each template has as many words as a template has
abbrev pub Sized : List Template → Type 0
Sized [] = Unit {0}
Sized (t ∷ ts) = (length (pack_template t) ≡ template_words) × Sized ts

pub sized-more : (ts : List Template) (t : Template) → Sized ts → length (pack_template t) ≡ template_words → Sized (ts ++ (t ∷ []))
sized-more [] t s e = (e, tt)
sized-more (u ∷ ts) t s e = (s.0, sized-more ts t s.1 e)

-- behind the words p of one template
abbrev Words : List ℕ → Type 0
Words p = length p ≡ template_words

part-behind : (p l : List ℕ) (i : ℕ) → Words p → part (p ++ l) (suc i * template_words) template_words ≡ part l (i * template_words) template_words
part-behind p l i e =
    let a : suc i * template_words ≡ length p + i * template_words = omega (arith, e) in
    ap (λ (k : ℕ). take template_words (drop k (p ++ l))) a ∙ ap (take template_words) (drop-append-add p l (i * template_words))

with_behind : (p l v : List ℕ) (i : ℕ) → Words p
    → with_part (p ++ l) (suc i * template_words) (suc i * template_words + template_words) v ≡ p ++ with_part l (i * template_words) (i * template_words + template_words) v
with_behind p l v i e =
    let a : suc i * template_words ≡ length p + i * template_words = omega (arith, e) in
    let b : suc i * template_words + template_words ≡ length p + (i * template_words + template_words) = omega (arith, e) in
    ap (λ (k : ℕ). with_part (p ++ l) k (suc i * template_words + template_words) v) a
    ∙ ap (λ (k : ℕ). with_part (p ++ l) (length p + i * template_words) k v) b
    ∙ with_append p l v (i * template_words) (i * template_words + template_words)

-- what is behind the last template is 0
blank_part : (k : ℕ) (ts : List Template) → Sized ts → length ts < k
    → part (templates_words k ts) (length ts * template_words) template_words ≡ replicate template_words 0
blank_part zero ts s h = absurd (not-suc-le-zero h)
blank_part (suc k) [] s h = take_at (replicate template_words 0) (templates_words k []) template_words (length-replicate {A = ℕ} template_words 0)
blank_part (suc k) (t ∷ ts) s h =
    part-behind (pack_template t) (templates_words k ts) (length ts) s.0 ∙ blank_part k ts s.1 (le_of_suc-le-suc h)

-- a template stored behind the last
template-put : (k : ℕ) (ts : List Template) (t : Template) → Sized ts → length ts < k
    → with_part (templates_words k ts) (length ts * template_words) (length ts * template_words + template_words) (pack_template t)
    ≡ templates_words k (ts ++ (t ∷ []))
template-put zero ts t s h = absurd (not-suc-le-zero h)
template-put (suc k) [] t s h =
    ap (λ (l : List ℕ). pack_template t ++ l)
    (drop_at (replicate template_words 0) (templates_words k []) template_words (length-replicate {A = ℕ} template_words 0))
template-put (suc k) (u ∷ ts) t s h =
    with_behind (pack_template u) (templates_words k ts) (pack_template t) (length ts) s.0
    ∙ ap (λ (l : List ℕ). pack_template u ++ l) (template-put k ts t s.1 (le_of_suc-le-suc h))

-- ---- with the count before them

part_count : (n : ℕ) (l : List ℕ) (a m : ℕ) → part (n ∷ l) (1 + a) m ≡ part l a m
part_count n l a m = let e : 1 + a ≡ suc a = omega arith in rw e

with_count : (n : ℕ) (l v : List ℕ) (a m : ℕ) → with_part (n ∷ l) (1 + a) (1 + a + m) v ≡ n ∷ with_part l a (a + m) v
with_count n l v a m =
    let d : 1 + a + m ≡ suc (a + m) = omega arith in
    let e : 1 + a ≡ suc a = omega arith in
    rw (d, e)

module _ (n : ℕ) (ts : List Template) (s : Sized ts) (few : length ts < max_templates) where
  pub table_blank : part (n ∷ templates_words max_templates ts) (1 + length ts * template_words) template_words ≡ replicate template_words 0
  table_blank = part_count n (templates_words max_templates ts) (length ts * template_words) template_words ∙ blank_part max_templates ts s few

  pub table_put : (t : Template)
      → with_part (n ∷ templates_words max_templates ts) (1 + length ts * template_words) (1 + length ts * template_words + template_words) (pack_template t)
      ≡ n ∷ templates_words max_templates (ts ++ (t ∷ []))
  table_put t =
      with_count n (templates_words max_templates ts) (pack_template t) (length ts * template_words) template_words
      ∙ ap (λ (l : List ℕ). n ∷ l) (template-put max_templates ts t s few)

-- ---- the templates are found again

words_in : (k : ℕ) (ts : List Template) → Sized ts → length ts ≤ k
    → from (λ i. part (templates_words k ts) (i * template_words) template_words) 0 (length ts) ≡ map pack_template ts
words_in k [] s h = refl
words_in zero (t ∷ ts) s h = absurd (not-suc-le-zero h)
words_in (suc k) (t ∷ ts) s h =
    let l = templates_words k ts in
    let here : take template_words (pack_template t ++ l) ≡ pack_template t = take_at (pack_template t) l template_words s.0 in
    ap (λ (p : List ℕ). p ∷ from (λ i. part (pack_template t ++ l) (i * template_words) template_words) 1 (length ts)) here
    ∙ ap (λ (ps : List (List ℕ)). pack_template t ∷ ps)
    (from_suc (λ i. part (pack_template t ++ l) (i * template_words) template_words) 0 (length ts)
    ∙ from-same (λ i. part (pack_template t ++ l) (suc i * template_words) template_words) (λ i. part l (i * template_words) template_words) (λ i. part-behind (pack_template t) l i s.0) 0 (length ts)
    ∙ words_in k ts s.1 (le_of_suc-le-suc h))

pub words_packed : (ts : List Template) → Sized ts → length ts ≤ max_templates → from (words_at (pack_table ts)) 0 (length ts) ≡ map pack_template ts
unfolding pack_table words_at
words_packed ts s h =
    from-same (λ i. part (length ts ∷ templates_words max_templates ts) (1 + i * template_words) template_words) (λ i. part (templates_words max_templates ts) (i * template_words) template_words) (λ i. part_count (length ts) (templates_words max_templates ts) (i * template_words) template_words) 0 (length ts)
    ∙ words_in max_templates ts s h
