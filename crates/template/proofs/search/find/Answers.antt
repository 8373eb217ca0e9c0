-- What is left to compare gives the answer of each whole comparison: the bytes of a segment, the segments of a template, the templates of the table.
-- The table stays closed: a head, a segment and a byte are those of its template by the contracts of their accessors. The bytes of the front are
-- those of the lowered packet (`front-holds`), and so is the seed (`lowered-seed`); a checksum that fits the packet fits it lowered
-- (`fits_sum-lowered`). Assumes nothing.
use Prim.Native.Nat.{ℕ, ◌+◌, ◌-◌, ◌≤◌, ◌<◌}
use mathlib.Core.Path.{◌≡◌, refl, ap, sym, ◌∙◌}
use mathlib.Core.Bool.{Bool, true, false, ◌&&◌}
use mathlib.Core.List.{List}
use native.Mathlib.Omega.{arith}
use lib.ListN.{length}
use Rattle.std.proofs.Common.{Some, None}
use Rattle.inet.specs.Packet.{lowered}
use Rattle.inet.specs.Transport.{seed}
use Rattle.inet.proofs.LoweredLaws.{lowered_length}
use Rattle.inet.proofs.TransportLaws.{lowered-seed}
use Rattle.table.specs.Limits.{max_segments, static_limit}
use Rattle.table.specs.Sound.{UsableTemplate}
use Rattle.table.specs.Templates.{sum_at}
use Rattle.table.specs.Words.{words_at, template_of, templates_of, head_of, count_in}
use Rattle.table.specs.declared.Checksum.{Checksum}
use Rattle.table.specs.declared.Head.{Head}
use Rattle.table.specs.declared.Segment.{Segment}
use Rattle.template.specs.Pieces.{fits_pieces}
use Rattle.template.specs.Fits.{fits_sum, fits, first_fit}
use Rattle.template.specs.Usable.{SumPlace, Fronted, pieces_of, seed_of, ChosenAt}
use Rattle.table.proofs.InTurn.{templates_from, templates-all}
use Rattle.template.proofs.Steps.{pieces_from, pieces-all, fits-short, fits-long, fits-done, holds_same, holds-other, holds-done, holds_then, unfit_pieces, fit-plain, fit-sum, sum-place, find_next, find_here, find_done}
use Rattle.template.proofs.CompletionLaws.{fits_sum-short, fits_sum-lowered}
use Rattle.template.proofs.FrontLaws.{front_length, front-holds}
use Rattle.template.proofs.Sizes.{segment_within}
use Rattle.template.proofs.search.find.Goals as goal
use Rattle.template.proofs.search.find.Goals.{In-templates, After-head-head, After-segment-s, After-segments, In-Some, in-Some+else-packet-sum+else-not-sum_fits, in_default}

-- a head that was read stands for its template
module _ (t : List ℕ) (h : Head) (e : h ≡ head_of t) where
  pieces-read : pieces_of t ≡ pieces_from t 0 (h.count - 0)
  pieces-read = rw e (pieces-all t)

  place_read : {k : Checksum} → UsableTemplate t → h.checksum ≡ Some k → SumPlace k.field k.start
  place_read u f = (sum-place t u.sound (sym (ap (λ (x : Head). x.checksum) e) ∙ f))

  plain-read : (p : List ℕ) → fits_pieces (pieces_of t) p ≡ true → h.checksum ≡ None → fits (template_of t) p ≡ true
  plain-read p g f = fit-plain t p g (sym (ap (λ (x : Head). x.checksum) e) ∙ f)

  sum-read : (p : List ℕ) (b : Bool) {k : Checksum} → fits_pieces (pieces_of t) p ≡ true → h.checksum ≡ Some k → fits_sum (sum_at k.field k.start) p ≡ b → fits (template_of t) p ≡ b
  sum-read p b g f s = fit-sum t p b g (sym (ap (λ (x : Head). x.checksum) e) ∙ f) s

  seed-plain : (p : List ℕ) → h.checksum ≡ None → 0 ≡ seed_of (template_of t).sum p
  unfolding template_of
  seed-plain p f = rw (rw e at f)

  seed-sum : (p : List ℕ) {v : ℕ} {k : Checksum} → h.checksum ≡ Some k → v ≡ seed k.start p → v ≡ seed_of (template_of t).sum (lowered p)
  unfolding template_of
  seed-sum p {v} {k} f s = rw (rw e at f) (s ∙ sym (lowered-seed p k.start))

-- the template at i, by its own words
fit_words : (w p t : List ℕ) (i : ℕ) {b : Bool} → t ≡ words_at w i → fits (template_of t) p ≡ b → fits (template_of (words_at w i)) p ≡ b
fit_words w p t i q e = ap (λ (l : List ℕ). fits (template_of l) p) (sym q) ∙ e

-- after a template that does not fit: the outer invariant again
passed : (w p : List ℕ) (i n : ℕ) {t : List ℕ} → t ≡ words_at w i → i < n → first_fit (templates_of w) p ≡ first_fit (templates_from w i (n - i)) p → fits (template_of t) p ≡ false
    → first_fit (templates_of w) p ≡ first_fit (templates_from w (i + 1) (n - (i + 1))) p
passed w p i n {t} u h inv e = inv ∙ find_next w p i n h (fit_words w p t i u e)

-- a template that fits, and the seed of its checksum
found : (w p : List ℕ) (i n : ℕ) {v : ℕ} {t : List ℕ} → t ≡ words_at w i → i < n → n ≡ count_in w → first_fit (templates_of w) p ≡ first_fit (templates_from w i (n - i)) p
    → fits (template_of t) p ≡ true → v ≡ seed_of (template_of t).sum p → ChosenAt w p i v
found w p i n {v} {t} u h q inv e s =
    record {
      choice = inv ∙ find_here w p i n h (fit_words w p t i u e);
      within = omega arith;
      seeding = s ∙ ap (λ (l : List ℕ). seed_of (template_of l).sum p) u;
    }

-- a byte of the segment differs
differs : (t p : List ℕ) {left rest : Bool} (after : Bool) → fits_pieces (pieces_of t) p ≡ left → left ≡ (rest && after) → rest ≡ false → fits (template_of t) p ≡ false
differs t p after a inv e = unfit_pieces t p (a ∙ (inv ∙ rw e))

-- none does: the segments after decide
agrees : (t p : List ℕ) {left rest after : Bool} → fits_pieces (pieces_of t) p ≡ left → left ≡ (rest && after) → rest ≡ true → fits_pieces (pieces_of t) p ≡ after
agrees t p a inv e = a ∙ (inv ∙ rw e)

-- a segment that lies in the packet lies in the front
in_front : (front p : List ℕ) (stop : ℕ) → Fronted front p → stop ≤ static_limit → stop ≤ length p → stop ≤ length front
in_front front p stop f w h = omega (arith, front_length p f.bytes)

head_few : (c : After-head-head) → c.head-head.result.count ≤ max_segments
head_few c =
    let u = c.template_at-t.result.usable in
    rw c.head-head.ensures u.few

-- a segment that was read is the template's
within : (c : After-segment-s) → c.segment-s.result.offset + c.segment-s.result.length ≤ static_limit
within c =
    let u = c.template_at-t.result.usable in
    segment_within _ u c.segments.j (omega (arith, ap (λ (h : Head). h.count) c.head-head.ensures, c.segments-test.true)) c.segment-s.ensures

-- all segments are compared
compared : (c : After-segments) → fits_pieces (pieces_of c.template_at-t.result.words.now) (lowered c.args.packet.now) ≡ true
compared c =
    c.segments.invariant ∙ fits-done c.template_at-t.result.words.now (lowered c.args.packet.now) c.segments.j _ c.segments-test.false

-- the checksum of the template, read
place : (c : In-Some) → SumPlace c.in-Some.sum.field c.in-Some.sum.start
place c =
    let u = c.template_at-t.result.usable in
    place_read c.template_at-t.result.words.now c.head-head.result c.head-head.ensures u c.in-Some.is

-- that of the packet as it came decides for the packet as it goes on
summed : (t p : List ℕ) (h : Head) {k : Checksum} {b r : Bool} → h ≡ head_of t → SumPlace k.field k.start → fits_pieces (pieces_of t) (lowered p) ≡ true → h.checksum ≡ Some k
    → r ≡ fits_sum (sum_at k.field k.start) p → r ≡ b → fits (template_of t) (lowered p) ≡ b
summed t p h {k} {b} q s g f e r = sum-read t h q (lowered p) b g f (fits_sum-lowered p k.field k.start s ∙ sym e ∙ r)

pub templates-init : goal.templates-init
templates-init c =
    let a = c.args in
    let p = lowered a.packet.now in
    ap (λ l. first_fit l p) (templates-all a.table.now) ∙ ap (λ (n : ℕ). first_fit (templates_from a.table.now 0 (n - 0)) p) (sym c.count_of-count.ensures)

pub template_at-t-requires : goal.template_at-t-requires
template_at-t-requires c =
    record { table_words_in_bounds = c.requires.table_words_in_bounds; usable = c.requires.usable; i_in_use = omega (arith, c.count_of-count.ensures) }

pub segments-init : goal.segments-init
segments-init c =
    ap (λ l. fits_pieces l (lowered c.args.packet.now)) (pieces-read c.template_at-t.result.words.now c.head-head.result c.head-head.ensures)

pub segment-s-requires : goal.segment-s-requires
segment-s-requires c =
    let g = goal.at.segment-s-requires c in
    omega (arith, head_few g.After-head-head)

pub overflow_add-stop : goal.overflow_add-stop
overflow_add-stop c = omega (arith, within (goal.at.overflow_add-stop c).After-segment-s)

pub templates-preserved-then-packet-stop : goal.templates-preserved-then-packet-stop
templates-preserved-then-packet-stop c =
    let t = c.template_at-t.result.words.now in
    let p = lowered c.args.packet.now in
    let offset_read = ap (λ (s : Segment). s.offset) c.segment-s.ensures in
    let length_read = ap (λ (s : Segment). s.length) c.segment-s.ensures in
    passed c.args.table.now p c.templates.i _ c.template_at-t.ensures c.templates-test.true c.templates.invariant
    (unfit_pieces t p (c.segments.invariant ∙ fits-short t p c.segments.j _ c.segments-test.true (omega (arith, offset_read, length_read, c.if-packet-stop.true, lowered_length c.args.packet.now))))

pub fours-init : goal.fours-init
fours-init c =
    let t = c.template_at-t.result.words.now in
    let p = lowered c.args.packet.now in
    let s = c.segment-s.result in
    let offset_read = ap (λ (s : Segment). s.offset) c.segment-s.ensures in
    let length_read = ap (λ (s : Segment). s.length) c.segment-s.ensures in (
      omega arith,
      fits-long t p c.segments.j _ c.segments-test.true s.offset s.length (sym offset_read) (sym length_read) (omega (arith, lowered_length c.args.packet.now))
          ∙ rw (front-holds c.args.packet.now c.requires.fronted.bytes t s.offset (s.offset + s.length) (omega arith) (within (goal.at.fours-init c).After-segment-s)),
    )

pub overflow_add-k : goal.overflow_add-k
overflow_add-k c = omega (arith, within (goal.at.overflow_add-k c).After-segment-s)

pub holds_four-requires : goal.holds_four-requires
holds_four-requires c =
    let g = goal.at.holds_four-requires c in
    let w = within g.After-segment-s in
    (omega (arith, w), omega (arith, in_front _ _ _ c.requires.fronted w c.if-packet-stop.false))

pub templates-preserved-then-not-holds_four : goal.templates-preserved-then-not-holds_four
templates-preserved-then-not-holds_four c =
    let t = c.template_at-t.result.words.now in
    let p = lowered c.args.packet.now in
    let stop = c.segment-s.result.offset + c.segment-s.result.length in
    let w = within (goal.at.templates-preserved-then-not-holds_four c).After-segment-s in
    let f = in_front _ _ _ c.requires.fronted w c.if-packet-stop.false in
    passed c.args.table.now p c.templates.i _ c.template_at-t.ensures c.templates-test.true c.templates.invariant
    (differs t p _ c.segments.invariant c.fours.invariant.1 (holds_then t c.args.front.now c.fours.k (c.fours.k + 4) stop (omega arith) (omega arith) (omega (arith, f)) c.holds_four.ensures c.if-not-holds_four.true))

pub overflow_add-k-in-fours : goal.overflow_add-k-in-fours
overflow_add-k-in-fours c = omega (arith, within (goal.at.overflow_add-k-in-fours c).After-segment-s)

pub fours-preserved : goal.fours-preserved
fours-preserved c =
    let t = c.template_at-t.result.words.now in
    let stop = c.segment-s.result.offset + c.segment-s.result.length in
    let w = within (goal.at.fours-preserved c).After-segment-s in
    let f = in_front _ _ _ c.requires.fronted w c.if-packet-stop.false in
    (omega arith, c.fours.invariant.1 ∙ rw (holds_then t c.args.front.now c.fours.k (c.fours.k + 4) stop (omega arith) (omega arith) (omega (arith, f)) c.holds_four.ensures c.if-not-holds_four.false))

pub bytes-init : goal.bytes-init
bytes-init c = c.fours.invariant.1

pub bounds-front-b : goal.bounds-front-b
bounds-front-b c = omega (arith, in_front _ _ _ c.requires.fronted (within (goal.at.bounds-front-b c).After-segment-s) c.if-packet-stop.false)

pub byte-requires : goal.byte-requires
byte-requires c =
    let g = goal.at.byte-requires c in
    omega (arith, within g.After-segment-s)

pub templates-preserved-then-front-b : goal.templates-preserved-then-front-b
templates-preserved-then-front-b c =
    let t = c.template_at-t.result.words.now in
    let p = lowered c.args.packet.now in
    let stop = c.segment-s.result.offset + c.segment-s.result.length in
    let w = within (goal.at.templates-preserved-then-front-b c).After-segment-s in
    let f = in_front _ _ _ c.requires.fronted w c.if-packet-stop.false in
    passed c.args.table.now p c.templates.i _ c.template_at-t.ensures c.templates-test.true c.templates.invariant
    (differs t p _ c.segments.invariant c.bytes.invariant (holds-other t c.args.front.now c.bytes.b stop (omega arith) (omega (arith, f)) (λ e. c.if-front-b.true (e ∙ sym c.byte.ensures))))

pub bytes-preserved : goal.bytes-preserved
bytes-preserved c =
    let t = c.template_at-t.result.words.now in
    let stop = c.segment-s.result.offset + c.segment-s.result.length in
    let w = within (goal.at.bytes-preserved c).After-segment-s in
    let f = in_front _ _ _ c.requires.fronted w c.if-packet-stop.false in
    c.bytes.invariant ∙ rw (holds_same t c.args.front.now c.bytes.b stop (omega arith) (omega (arith, f)) (c.if-front-b.false ∙ c.byte.ensures))

pub segments-preserved : goal.segments-preserved
segments-preserved c =
    let t = c.template_at-t.result.words.now in
    let stop = c.segment-s.result.offset + c.segment-s.result.length in
    agrees t (lowered c.args.packet.now) c.segments.invariant c.bytes.invariant (holds-done t c.args.front.now c.bytes.b stop (omega arith))

pub overflow_add-sum : goal.overflow_add-sum
overflow_add-sum c = omega (arith, (place (goal.at.overflow_add-sum c).In-Some).high)

pub templates-preserved-then-packet-sum : goal.templates-preserved-then-packet-sum
templates-preserved-then-packet-sum c =
    let g = goal.at.templates-preserved-then-packet-sum c in
    let t = c.template_at-t.result.words.now in
    let h = c.head-head.result in
    passed c.args.table.now (lowered c.args.packet.now) c.templates.i _ c.template_at-t.ensures c.templates-test.true c.templates.invariant
    (summed t c.args.packet.now h c.head-head.ensures (place g.In-Some) (compared g.After-segments) c.in-Some.is (sym (fits_sum-short c.args.packet.now c.in-Some.sum.field c.in-Some.sum.start c.if-packet-sum.true)) refl)

pub seed-first-requires : goal.seed-first-requires
seed-first-requires c =
    let t = c.requires.fronted.testable in
    record { form = t.good; within = record { short = t.small; inside = omega (arith, (place (goal.at.seed-first-requires c).In-Some).order, c.if-packet-sum.false) } }

pub sum_fits-requires : goal.sum_fits-requires
sum_fits-requires c =
    record { testable = c.requires.fronted.testable; sum_place = place (goal.at.sum_fits-requires c).In-Some; field_and_seed = (omega (arith, c.if-packet-sum.false), c.seed-first.ensures.0) }

pub templates-preserved : goal.templates-preserved
templates-preserved c =
    let g = goal.at.templates-preserved c in
    let t = c.template_at-t.result.words.now in
    passed c.args.table.now (lowered c.args.packet.now) c.templates.i _ c.template_at-t.ensures c.templates-test.true c.templates.invariant
    (summed t c.args.packet.now c.head-head.result c.head-head.ensures (place g.In-Some) (compared g.After-segments) c.in-Some.is c.sum_fits.ensures c.if-not-sum_fits.true)

pub returns : goal.returns
returns c = c.templates.invariant ∙ find_done _ _ c.templates.i _ c.templates-test.false

pub returns-in-templates : goal.returns-in-templates
returns-in-templates c =
    let g = goal.at.returns-in-templates c in
    let t = c.template_at-t.result.words.now in
    let p = lowered c.args.packet.now in
    let h = c.head-head.result in
    elim c.match-head.branch [
      | in-Some+else-packet-sum+else-not-sum_fits w ↦
          let q = place_read t h c.head-head.ensures c.template_at-t.result.usable w.in-Some.is in
          found c.args.table.now p c.templates.i _ c.template_at-t.ensures c.templates-test.true c.count_of-count.ensures c.templates.invariant
          (summed t c.args.packet.now h c.head-head.ensures q (compared g.After-segments) w.in-Some.is w.sum_fits.ensures w.if-not-sum_fits.false)
          (w.first-is ∙ seed-sum t h c.head-head.ensures c.args.packet.now w.in-Some.is w.seed-first.ensures.0)
      | in_default w ↦
          found c.args.table.now p c.templates.i _ c.template_at-t.ensures c.templates-test.true c.count_of-count.ensures c.templates.invariant
          (plain-read t h c.head-head.ensures p (compared g.After-segments) w.in_default.is)
          (w.first-is ∙ seed-plain t h c.head-head.ensures p w.in_default.is)
    ]
