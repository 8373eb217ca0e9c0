-- The loops that read segments and templates: what was found so far, before what is still to be read, is what the whole step finds. Assumes nothing.
use Rattle.std.proofs.Common.{Ok, Err, Result}
use Prim.Native.Nat.{ℕ, suc, ◌+◌, ◌-◌, ◌*◌, ◌≤◌, ◌<◌}
use mathlib.Core.Path.{◌≡◌, refl, sym, ap, ◌∙◌}
use mathlib.Core.List.{List, [], ◌∷◌, ◌++◌, append-nil}
use native.Mathlib.Nat.{sub-zero}
use native.Mathlib.Omega.{arith}
use lib.ListN.{length, take, drop, set, replicate, length-append, length-drop, drop_of_length-le}
use lib.Seq.{append_snoc, drop-cons, length-take-le}
use Rattle.answer.specs.declared.Refusal.{Refusal}
use Rattle.answer.specs.declared.Refusal.TheVariants.{PlanCut}
use borrow.Rule.Slice.PartMut.{put_mid}
use Rattle.octets.specs.Parts.{part, with_part}
use Rattle.octets.proofs.Parts.{is-part, put-part, length_with_part}
use Rattle.table.specs.declared.reading.SegmentAt.{SegmentAt}
use Rattle.table.specs.declared.reading.TemplateAt.{TemplateAt}
use Rattle.table.specs.Limits.{max_templates, max_segments, static_limit}
use Rattle.table.specs.Templates.{Piece, piece_end, Template}
use Rattle.table.specs.Words.{head_words, words_per_segment, image_at, template_words, table_words, pack_template, templates_words, pack_table}
use Rattle.table.specs.File.{Step, stop, found, and_then, mapped, piece_in, pieces_in, template_in, templates_in, ending}
use Rattle.table.specs.Found.{FoundAt, piece_at, body_words, PiecesFound, TemplateFound, TemplatesFound}
use Rattle.table.proofs.RuleCases.{segment_facts}
use Rattle.table.proofs.Finding.{piece_found}
use Rattle.table.proofs.Storing.{segment_size, segment_stored}
use Rattle.table.proofs.Packing.{Sized, sized-more, table_blank, table_put}

-- ---- steps

module _ {A B C : Type 0} where
  pub mapped-mapped : (f : B → C) (g : A → B) (x : Step A) → mapped f (mapped g x) ≡ mapped (λ a. f (g a)) x
  mapped-mapped f g (stop w) = refl
  mapped-mapped f g (found a s) = refl

pub mapped-same : {A B : Type 0} (f g : A → B) → ((a : A) → f a ≡ g a) → (x : Step A) → mapped f x ≡ mapped g x
mapped-same f g e (stop w) = refl
mapped-same f g e (found a s) = rw (e a)

module _ {A : Type 0} where
  pub mapped-id : (x : Step A) → mapped (λ a. a) x ≡ x
  mapped-id (stop w) = refl
  mapped-id (found a s) = refl

  -- the list so far, before one element and what follows it
  pub mapped_snoc : (xs : List A) (x : A) (y : Step (List A))
      → mapped (λ ys. xs ++ ys) (mapped (λ ys. x ∷ ys) y) ≡ mapped (λ ys. xs ++ (x ∷ []) ++ ys) y
  mapped_snoc xs x y =
      mapped-mapped (λ ys. xs ++ ys) (λ ys. x ∷ ys) y
      ∙ mapped-same (λ ys. xs ++ (x ∷ ys)) (λ ys. xs ++ (x ∷ []) ++ ys) (λ ys. sym (append_snoc xs x ys)) y

-- ---- segments

-- the pieces before j are found and stored
pub record Gathering (s : List ℕ) (at n : ℕ) (t : List ℕ) (ended next j : ℕ) : Type 0 where
  pub done : List Piece
  pub count : length done ≡ j
  pub turn : j ≤ n
  pub within : next ≤ length s
  pub size : length t ≡ template_words
  pub stored : drop head_words t ≡ body_words done
  pub rest : mapped (λ ps. done ++ ps) (pieces_in (n - j) ended (drop next s)) ≡ pieces_in n 0 (drop at s)

module _ (s : List ℕ) (at n : ℕ) (t : List ℕ) where
  pub gather : length t ≡ template_words → t ≡ replicate template_words 0 → at ≤ length s → Gathering s at n t 0 at 0
  gather l e h =
      record {
        done = [];
        count = refl;
        turn = omega arith;
        within = h;
        size = l;
        stored = ap (drop head_words) e;
        rest = rw sub-zero (mapped-id (pieces_in n 0 (drop at s)));
      }

module _ (s : List ℕ) (t : List ℕ) (ended : ℕ) (r : SegmentAt) (f : FoundAt s (piece_in ended t) (piece_at s r) (r.start + r.size)) where
  pub size-taken : length (part s r.start r.size) ≡ r.size
  size-taken =
      let w : r.start + r.size ≤ length s = f.within in
      let l : r.size ≤ length (drop r.start s) = rw length-drop (omega arith) in
      length-take-le r.size (drop r.start s) l

  pub piece_inside : r.offset + r.size ≤ static_limit
  piece_inside =
      let g = (piece_found ended t f.same).rule in
      let w = (segment_facts ended r.offset (length (part s r.start r.size)) g).within in
      omega (arith, w, size-taken)

pub no-go : {w : Refusal} {A : Type 0} → ◌≡◌ {A = Result Unit Refusal} (Err w) (Ok tt) → A
no-go e = let z : ◌≡◌ {A = ℕ} 0 1 = cc in absurd (omega arith)

module _ {s : List ℕ} {at n : ℕ} {t : List ℕ} {ended next j : ℕ} (a : Gathering s at n t ended next j) where
  pub gather-end : n ≤ j → PiecesFound s (pieces_in n 0 (drop at s)) (Ok next) t
  unfolding pieces_in
  gather-end h =
      let e : n - j ≡ 0 = omega arith in
      record {
        size = a.size;
        told = record {
          pieces = a.done;
          read = record { within = a.within; same = sym (rw (e, append-nil) at a.rest) };
          words = a.stored;
        };
      }

  module _ (h : j < n) where
    more-pieces : pieces_in (n - j) ended (drop next s)
        ≡ and_then (piece_in ended (drop next s)) (λ p s₁. mapped (λ ps. p ∷ ps) (pieces_in (n - (j + 1)) (piece_end p) s₁))
    unfolding pieces_in
    more-pieces = let e : n - j ≡ suc (n - (j + 1)) = omega arith in rw e

    pub gather-stop : {w : Refusal} → piece_in ended (drop next s) ≡ stop w → PiecesFound s (pieces_in n 0 (drop at s)) (Err w) t
    gather-stop e = record { size = a.size; told = sym (rw (more-pieces, e) at a.rest) }

    pub gather-next : (r : SegmentAt) {t₁ : List ℕ} → FoundAt s (piece_in ended (drop next s)) (piece_at s r) (r.start + r.size) → j < max_segments
        → t₁ ≡ with_part (set (set t (head_words + j * words_per_segment) r.offset) (head_words + j * words_per_segment + 1) r.size) (image_at + r.offset) (image_at + r.offset + r.size) (part s r.start r.size)
        → Gathering s at n t₁ (r.offset + r.size) (r.start + r.size) (j + 1)
    gather-next r {t₁} f k g =
        let p = piece_at s r in
        let l : length p.bytes ≡ r.size = size-taken s (drop next s) ended r f in
        let pe : piece_end p ≡ r.offset + r.size = rw l in
        let few : length a.done < max_segments = omega (arith, a.count) in
        let inside : piece_end p ≤ static_limit = omega (arith, pe, piece_inside s (drop next s) ended r f) in
        let now : t₁ ≡ with_part (set (set t (head_words + length a.done * words_per_segment) p.offset) (head_words + length a.done * words_per_segment + 1) (length p.bytes)) (image_at + p.offset) (image_at + p.offset + length p.bytes) p.bytes =
        g ∙ ap (λ (i : ℕ). with_part (set (set t (head_words + i * words_per_segment) r.offset) (head_words + i * words_per_segment + 1) r.size) (image_at + r.offset) (image_at + r.offset + r.size) p.bytes) (sym a.count)
        ∙ ap (λ (i : ℕ). with_part (set (set t (head_words + length a.done * words_per_segment) r.offset) (head_words + length a.done * words_per_segment + 1) i) (image_at + r.offset) (image_at + r.offset + i) p.bytes) (sym l)
        in
        let re : mapped (λ ps. a.done ++ ps) (mapped (λ ps. p ∷ ps) (pieces_in (n - (j + 1)) (piece_end p) (drop (r.start + r.size) s))) ≡ pieces_in n 0 (drop at s) =
        rw (more-pieces, f.same) at a.rest
        in
        record {
          done = a.done ++ (p ∷ []);
          count = rw (length-append, a.count);
          turn = omega arith;
          within = f.within;
          size = ap length now ∙ segment_size t a.done p few a.size inside a.stored;
          stored = ap (drop head_words) now ∙ segment_stored t a.done p few a.size inside a.stored;
          rest = rw (← pe) (sym (mapped_snoc a.done p (pieces_in (n - (j + 1)) (piece_end p) (drop (r.start + r.size) s))) ∙ re);
        }

-- ---- templates

-- the templates before i are found and stored, and the last of them has the ID `previous`
pub record Collecting (s : List ℕ) (n : ℕ) (w : List ℕ) (previous next i : ℕ) : Type 0 where
  pub done : List Template
  pub count : length done ≡ i
  pub turn : i ≤ n
  pub within : next ≤ length s
  pub size : length w ≡ table_words
  pub sized : Sized done
  pub stored : w ≡ 0 ∷ templates_words max_templates done
  pub rest : mapped (λ ts. done ++ ts) (templates_in (n - i) previous (drop next s)) ≡ templates_in n 0 (drop 6 s)

module _ (s : List ℕ) (n : ℕ) (w : List ℕ) where
  pub collect : length w ≡ table_words → w ≡ replicate table_words 0 → 6 ≤ length s → Collecting s n w 0 6 0
  collect l q h =
      record {
        done = [];
        count = refl;
        turn = omega arith;
        within = h;
        size = l;
        sized = tt;
        stored = q;
        rest = rw sub-zero (mapped-id (templates_in n 0 (drop 6 s)));
      }

module _ {s : List ℕ} {n : ℕ} {w : List ℕ} {previous next i : ℕ} (a : Collecting s n w previous next i) where
  -- the words of template i are 0
  pub collect_blank : i < max_templates
      → take (1 + i * template_words + template_words - (1 + i * template_words)) (drop (1 + i * template_words) w) ≡ replicate template_words 0
  collect_blank h =
      is-part w (1 + i * template_words) (1 + i * template_words + template_words) template_words (omega arith)
      ∙ ap (λ (k : ℕ). part w (1 + k * template_words) template_words) (sym a.count)
      ∙ ap (λ (l : List ℕ). part l (1 + length a.done * template_words) template_words) a.stored
      ∙ table_blank 0 a.done a.sized (omega (arith, a.count))

  module _ (h : n ≤ i) where
    all_read : templates_in n 0 (drop 6 s) ≡ found a.done (drop next s)
    unfolding templates_in
    all_read = let e : n - i ≡ 0 = omega arith in sym (rw (e, append-nil) at a.rest)

    pub collect-over : next < length s → TemplatesFound (and_then (templates_in n 0 (drop 6 s)) ending) (Err PlanCut) w
    collect-over k = rw (all_read, drop-cons s next 0 k) (record { verdict = refl; words = refl })

    pub collect-end : length s ≤ next → TemplatesFound (and_then (templates_in n 0 (drop 6 s)) ending) (Ok tt) (set w 0 n)
    unfolding pack_table
    collect-end k =
        let c : n ≡ length a.done = omega (arith, a.count, a.turn) in
        let e : drop next s ≡ [] = drop_of_length-le s k in
        rw (all_read, e) (record { verdict = refl; words = rw (a.stored, ← c) })

  module _ (h : i < n) where
    more-templates : templates_in (n - i) previous (drop next s)
        ≡ and_then (template_in previous (drop next s)) (λ t s₁. mapped (λ ts. t ∷ ts) (templates_in (n - (i + 1)) t.id s₁))
    unfolding templates_in
    more-templates = let e : n - i ≡ suc (n - (i + 1)) = omega arith in rw e

    pub collect-stop : {why : Refusal} {w₁ : List ℕ} → template_in previous (drop next s) ≡ stop why
        → TemplatesFound (and_then (templates_in n 0 (drop 6 s)) ending) (Err why) w₁
    collect-stop {why} e =
        let y : stop why ≡ templates_in n 0 (drop 6 s) = rw (more-templates, e) at a.rest in
        rw (← y) (record { verdict = refl; words = refl })

    pub collect-next : (r : TemplateAt) {t w₁ : List ℕ} → TemplateFound s (template_in previous (drop next s)) (Ok r) t → i < max_templates
        → w₁ ≡ put_mid (1 + i * template_words) (1 + i * template_words + template_words - (1 + i * template_words)) w t
        → Collecting s n w₁ r.id r.next (i + 1)
    collect-next r {t} {w₁} f k g =
        let b = f.told.0 in
        let u = b.template in
        let m : t ≡ pack_template u = b.words in
        let l : length (pack_template u) ≡ template_words = sym (ap length m) ∙ f.size in
        let few : length a.done < max_templates = omega (arith, a.count) in
        let now : w₁ ≡ with_part w (1 + i * template_words) (1 + i * template_words + template_words) t =
        g ∙ put-part w (1 + i * template_words) (1 + i * template_words + template_words) t (omega arith)
        in
        let st : w₁ ≡ 0 ∷ templates_words max_templates (a.done ++ (u ∷ [])) =
        now
        ∙ ap (λ (v : List ℕ). with_part w (1 + i * template_words) (1 + i * template_words + template_words) v) m
        ∙ ap (λ (j : ℕ). with_part w (1 + j * template_words) (1 + j * template_words + template_words) (pack_template u)) (sym a.count)
        ∙ ap (λ (v : List ℕ). with_part v (1 + length a.done * template_words) (1 + length a.done * template_words + template_words) (pack_template u)) a.stored
        ∙ table_put 0 a.done a.sized few u
        in
        let re : mapped (λ ts. a.done ++ ts) (mapped (λ ts. u ∷ ts) (templates_in (n - (i + 1)) u.id (drop r.next s))) ≡ templates_in n 0 (drop 6 s) =
        rw (more-templates, b.read.same) at a.rest
        in
        let sz : length w₁ ≡ length w = ap length now ∙ length_with_part w (1 + i * template_words) template_words t f.size (omega (arith, a.size)) in
        record {
          done = a.done ++ (u ∷ []);
          count = rw (length-append, a.count);
          turn = omega arith;
          within = b.read.within;
          size = sz ∙ a.size;
          sized = sized-more a.done u a.sized l;
          stored = st;
          rest = rw (f.told.1) (sym (mapped_snoc a.done u (templates_in (n - (i + 1)) u.id (drop r.next s))) ∙ re);
        }
