-- A template read from its parts, and a table from its templates. Assumes nothing.
use Rattle.std.proofs.Common.{Result, Ok, Err}
use Prim.Native.Nat.{ℕ, ◌+◌, ◌≤◌, ◌<◌}
use mathlib.Core.Path.{◌≡◌, refl, sym, ap, ◌∙◌}
use mathlib.Core.Bool.{true, false}
use mathlib.Core.List.{List, [], ◌∷◌, ◌++◌, map}
use native.Mathlib.Omega.{arith}
use borrow.Author.Tests.{le-leb, lt-leb}
use lib.Dec.{leb}
use lib.ListN.{length, drop, get_or, length-drop}
use Rattle.answer.specs.declared.Refusal.{Refusal}
use Rattle.answer.specs.declared.Refusal.TheVariants.{PlanCut, PlanRule, PlanContext}
use Rattle.octets.specs.Scan.{from}
use Rattle.table.specs.declared.reading.NumberAt.{NumberAt}
use Rattle.table.specs.Limits.{max_segments}
use Rattle.table.specs.Templates.{segment_of, Sum, Template}
use Rattle.table.specs.Words.{head_words, template_words, segment_at, pack_template}
use Rattle.table.specs.Rules.{id_rule}
use Rattle.table.specs.File.{Step, stop, found, and_then, mapped, holding, byte_in, number_in, pieces_in, sum_in, template_with, body_in, template_in, templates_in, ending, plan_in}
use Rattle.table.specs.Load.{verdict_in, loaded, plan_read, Loads}
use Rattle.table.specs.Found.{FoundAt, PiecesAt, headed, BodyFound, TemplateFound, TemplatesFound, HeadFound, behind_head}
use Rattle.table.proofs.Steps.{byte_at_lem, byte_cut}
use Rattle.table.proofs.Finding.{and_then_found, mapped-found, holding-found, pieces-count}
use Rattle.table.proofs.Storing.{segments-stored}
use Rattle.table.proofs.Gathering.{no-go}

head-same : (id : ℕ) {n n₁ a a₁ b b₁ c c₁ : ℕ} {l l₁ : List ℕ} → n ≡ n₁ → a ≡ a₁ → b ≡ b₁ → c ≡ c₁ → l ≡ l₁
    → (id ∷ n ∷ a ∷ b ∷ c ∷ []) ++ l ≡ (id ∷ n₁ ∷ a₁ ∷ b₁ ∷ c₁ ∷ []) ++ l₁
head-same id e₁ e₂ e₃ e₄ e₅ = rw (e₁, e₂, e₃, e₄, e₅)

-- ---- behind the ID

module _ (s : List ℕ) (at id : ℕ) where
  pub body-cut : length s ≤ at → body_in id (drop at s) ≡ stop PlanCut
  unfolding body_in
  body-cut h = rw (byte_cut s at h)

  module _ (h : at < length s) where
    pub body-over : max_segments < get_or s at 0 → body_in id (drop at s) ≡ stop PlanRule
    unfolding body_in
    body-over k = rw (byte_at_lem s at h, lt-leb (get_or s at 0) max_segments k)

    module _ (k : get_or s at 0 ≤ max_segments) where
      pub body-pieces : {w : Refusal} → pieces_in (get_or s at 0) 0 (drop (at + 1) s) ≡ stop w → body_in id (drop at s) ≡ stop w
      unfolding body_in
      body-pieces e = rw (byte_at_lem s at h, le-leb (get_or s at 0) max_segments k, e)

      module _ {behind : ℕ} {t : List ℕ} (f : PiecesAt s (pieces_in (get_or s at 0) 0 (drop (at + 1) s)) behind t) where
        count : length f.pieces ≡ get_or s at 0
        count = pieces-count (get_or s at 0) 0 (drop (at + 1) s) f.read.same

        -- the segments that were stored are those of the pieces
        segments : from (segment_at t) 0 (get_or s at 0) ≡ map segment_of f.pieces
        segments =
            let l : length f.pieces ≤ max_segments = omega (arith, count, k) in
            ap (from (segment_at t) 0) (sym count) ∙ segments-stored t f.pieces _ f.words l

        body-rest : body_in id (drop at s)
            ≡ mapped (λ k. record { id = id; pieces = f.pieces; sum = k }) (sum_in (from (segment_at t) 0 (get_or s at 0)) (drop behind s))
        unfolding body_in
        body-rest = rw (segments, byte_at_lem s at h, le-leb (get_or s at 0) max_segments k, f.read.same)

        pub body-summed : {w : Refusal} → sum_in (from (segment_at t) 0 (get_or s at 0)) (drop behind s) ≡ stop w → body_in id (drop at s) ≡ stop w
        body-summed e = rw e at body-rest

        module _ {sum : Sum} {next : ℕ} (g : FoundAt s (sum_in (from (segment_at t) 0 (get_or s at 0)) (drop behind s)) sum next) where
          whole : Template
          whole = record { id = id; pieces = f.pieces; sum = sum }

          body-found : body_in id (drop at s) ≡ found whole (drop next s)
          unfolding whole
          body-found = rw g.same at body-rest

          made : headed id (get_or s at 0) sum t ≡ pack_template whole
          unfolding whole pack_template
          made = head-same id (sym count) refl refl refl f.words

          headed-size : length t ≡ template_words → length (headed id (get_or s at 0) sum t) ≡ template_words
          headed-size l = rw (length-drop head_words t, l)

          pub body-sum : {t₁ : List ℕ} → length t ≡ template_words → t₁ ≡ headed id (get_or s at 0) sum t
              → BodyFound s (body_in id (drop at s)) (Ok next) t₁
          body-sum l q =
              record {
                size = ap length q ∙ headed-size l;
                told = record { template = whole; read = record { within = g.within; same = body-found }; words = q ∙ made };
              }

-- ---- the ID

-- a template that follows an ID has that ID
body-id : (id : ℕ) (s : List ℕ) {t : Template} {r : List ℕ} → body_in id s ≡ found t r → t.id ≡ id
unfolding body_in
body-id id s {t} e =
    let l = and_then_found (byte_in s) (λ n s₁. holding (leb n max_segments) PlanRule (and_then (pieces_in n 0 s₁) (template_with id))) e in
    let g = holding-found (leb l.value max_segments) PlanRule (and_then (pieces_in l.value 0 l.rest) (template_with id)) l.next in
    let m = and_then_found (pieces_in l.value 0 l.rest) (template_with id) g.1 in
    let k = mapped-found {B = Template} (λ k. record { id = id; pieces = m.value; sum = k }) (sum_in (map segment_of m.value) m.rest) m.next in
    sym (ap (λ (u : Template). u.id) k.made)

module _ (s : List ℕ) (at previous : ℕ) where
  pub id-stop : {w : Refusal} → number_in (drop at s) ≡ stop w → template_in previous (drop at s) ≡ stop w
  unfolding template_in
  id-stop e = rw e

  module _ {number : NumberAt} (f : FoundAt s (number_in (drop at s)) number.value number.next) where
    pub id-broken : id_rule previous number.value ≡ false → template_in previous (drop at s) ≡ stop PlanContext
    unfolding template_in
    id-broken g = rw (f.same, g)

    pub id-fine : id_rule previous number.value ≡ true → template_in previous (drop at s) ≡ body_in number.value (drop number.next s)
    unfolding template_in
    id-fine g = rw (f.same, g)

    pub template-fine : {next : ℕ} {t : List ℕ} → id_rule previous number.value ≡ true
        → BodyFound s (body_in number.value (drop number.next s)) (Ok next) t
        → TemplateFound s (template_in previous (drop at s)) (Ok (record { id = number.value; next = next })) t
    template-fine {next} {t} g b =
        let u = b.told in
        record {
          size = b.size;
          told = (
            record { template = u.template; read = record { within = u.read.within; same = id-fine g ∙ u.read.same }; words = u.words },
            sym (body-id number.value (drop number.next s) u.read.same),
          );
        }

-- ---- the file

loaded-stop : (step : Step (List Template)) (before : List ℕ) {w : Refusal} → Err w ≡ verdict_in step → before ≡ loaded step before
loaded-stop (stop r) before e = refl
loaded-stop (found ts s) before e = no-go e

loaded-go : (step : Step (List Template)) (before after : List ℕ) → (Ok tt) ≡ verdict_in step → after ≡ loaded step after → after ≡ loaded step before
loaded-go (stop r) before after e q = no-go (sym e)
loaded-go (found ts s) before after e q = q

module _ (s before : List ℕ) {v : Result Unit Refusal} (f : HeadFound s v) where
  pub load_stop : {w : Refusal} → v ≡ Err w → Loads s before (Err w) before
  unfolding plan_read
  load_stop e = record { verdict = rw (f.same, e); words = rw (f.same, e) }

  module _ {r : Result Unit Refusal} {w : List ℕ} (e : v ≡ Ok tt) (g : TemplatesFound (and_then (templates_in (get_or s 5 0) 0 (drop 6 s)) ending) r w) where
    behind : plan_in s ≡ and_then (templates_in (get_or s 5 0) 0 (drop 6 s)) ending
    behind = f.same ∙ ap (λ (u : Result Unit Refusal). behind_head u s) e

    pub load_refused : {why : Refusal} → r ≡ Err why → Loads s before (Err why) before
    unfolding plan_read
    load_refused q =
        let step = and_then (templates_in (get_or s 5 0) 0 (drop 6 s)) ending in
        record {
          verdict = sym q ∙ g.verdict ∙ ap verdict_in (sym behind);
          words = loaded-stop step before (sym q ∙ g.verdict) ∙ ap (λ (x : Step (List Template)). loaded x before) (sym behind);
        }

    pub load_fine : r ≡ Ok tt → Loads s before (Ok tt) w
    unfolding plan_read
    load_fine q =
        let step = and_then (templates_in (get_or s 5 0) 0 (drop 6 s)) ending in
        record {
          verdict = sym q ∙ g.verdict ∙ ap verdict_in (sym behind);
          words = loaded-go step before w (sym q ∙ g.verdict) g.words ∙ ap (λ (x : Step (List Template)). loaded x before) (sym behind);
        }
