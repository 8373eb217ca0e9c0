-- Sound templates, rule by rule: what `sound_templates` says of each, and which templates it holds of. Assumes nothing.
use Rattle.std.proofs.Common.{Ok}
use Prim.Native.Nat.{ℕ, ◌≤◌}
use mathlib.Core.Path.{◌≡◌, refl}
use mathlib.Core.Bool.{true, false, not, ◌&&◌}
use mathlib.Core.List.{List, [], ◌∷◌, map}
use borrow.Author.Tests.{le-ltb}
use lib.ListN.{length}
use Rattle.answer.specs.declared.Refusal.TheVariants.{PlanRule}
use Rattle.answer.proofs.Tables.{go_test, go-rest, then_first, then_second}
use Rattle.table.specs.declared.Segment.{Segment}
use Rattle.table.specs.Limits.{max_templates, max_segments}
use Rattle.table.specs.Templates.{Piece, piece_end, segment_of, Sum, no_sum, sum_at, Template, segments_of}
use Rattle.table.specs.Rules.{id_rule, segment_rule, sum_rule, segments_fault, all_clear, none, sum_fault, template_fault, templates_fault, plan_fault, sound_templates}
use Rattle.table.proofs.TableFacts.{held, template_facts, sound-few, sound-go}

-- each piece keeps the rule behind the one before it
abbrev pub PiecesOk : ℕ → List Piece → Type 0
PiecesOk ended [] = Unit {0}
PiecesOk ended (p ∷ ps) = (segment_rule ended p.offset (length p.bytes) ≡ true) × PiecesOk (piece_end p) ps

abbrev pub SumOk : List Segment → Sum → Type 0
SumOk ss no_sum = none ss ≡ false
SumOk ss (sum_at field start) = (sum_rule field start && all_clear field ss) ≡ true

pub record TemplateOk (previous : ℕ) (t : Template) : Type 0 where
  pub id : id_rule previous t.id ≡ true
  pub few : length t.pieces ≤ max_segments
  pub pieces : PiecesOk 0 t.pieces
  pub sum : SumOk (segments_of t) t.sum

abbrev pub TemplatesOk : ℕ → List Template → Type 0
TemplatesOk previous [] = Unit {0}
TemplatesOk previous (t ∷ ts) = TemplateOk previous t × TemplatesOk t.id ts

-- ---- segments

pub pieces-ok : (ended : ℕ) (ps : List Piece) → segments_fault ended (map segment_of ps) ≡ Ok tt → PiecesOk ended ps
pieces-ok ended [] e = tt
pieces-ok ended (p ∷ ps) e =
    let rule = segment_rule ended p.offset (length p.bytes) in
    let rest = segments_fault (piece_end p) (map segment_of ps) in
    (held rule PlanRule rest e, pieces-ok (piece_end p) ps (go-rest (not rule) PlanRule rest e))

pub ok-pieces : (ended : ℕ) (ps : List Piece) → PiecesOk ended ps → segments_fault ended (map segment_of ps) ≡ Ok tt
ok-pieces ended [] o = refl
ok-pieces ended (p ∷ ps) o = rw o.0 (ok-pieces (piece_end p) ps o.1)

-- ---- the checksum

pub sum-ok : (ss : List Segment) (k : Sum) → sum_fault k ss ≡ Ok tt → SumOk ss k
sum-ok ss no_sum e = go_test (none ss) PlanRule (Ok tt) e
sum-ok ss (sum_at field start) e = held (sum_rule field start && all_clear field ss) PlanRule (Ok tt) e

pub ok-sum : (ss : List Segment) (k : Sum) → SumOk ss k → sum_fault k ss ≡ Ok tt
ok-sum ss no_sum o = rw o
ok-sum ss (sum_at field start) o = rw o

-- ---- a template

module _ (previous : ℕ) (t : Template) where
  pub template-ok : template_fault previous t ≡ Ok tt → TemplateOk previous t
  template-ok e =
      let f = template_facts previous t e in
      record {
        id = f.ruled;
        few = f.few;
        pieces = pieces-ok 0 t.pieces f.segments;
        sum = sum-ok (segments_of t) t.sum f.summing;
      }

  pub ok-template : TemplateOk previous t → template_fault previous t ≡ Ok tt
  unfolding template_fault
  ok-template o =
      rw (o.id, le-ltb max_segments (length t.pieces) o.few, ok-pieces 0 t.pieces o.pieces) (ok-sum (segments_of t) t.sum o.sum)

-- ---- templates

pub templates-ok : (previous : ℕ) (ts : List Template) → templates_fault previous ts ≡ Ok tt → TemplatesOk previous ts
templates-ok previous [] e = tt
templates-ok previous (t ∷ ts) e =
    let rest = templates_fault t.id ts in
    (template-ok previous t (then_first (template_fault previous t) rest e), templates-ok t.id ts (then_second (template_fault previous t) rest e))

pub ok-templates : (previous : ℕ) (ts : List Template) → TemplatesOk previous ts → templates_fault previous ts ≡ Ok tt
ok-templates previous [] o = refl
ok-templates previous (t ∷ ts) o = rw (ok-template previous t o.0) (ok-templates t.id ts o.1)

pub record AllOk (ts : List Template) : Type 0 where
  pub few : length ts ≤ max_templates
  pub each : TemplatesOk 0 ts

pub sound-ok : (ts : List Template) → sound_templates ts ≡ true → AllOk ts
sound-ok ts s = record { few = sound-few ts s; each = templates-ok 0 ts (sound-go ts s) }

pub ok-sound : (ts : List Template) → AllOk ts → sound_templates ts ≡ true
unfolding sound_templates plan_fault
ok-sound ts o = rw (le-ltb max_templates (length ts) o.few, ok-templates 0 ts o.each)
