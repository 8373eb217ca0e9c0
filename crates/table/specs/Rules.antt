-- The rules of templates, in the order of their file. The first fault is the verdict: of templates to be written it is the refusal, and templates
-- handed in are sound where there is none.
use Rattle.std.specs.Prelude.{ℕ, ◌+◌, ◌-◌, ◌%◌, Bool, true, false, not, ◌&&◌, ◌||◌, List, [], ◌∷◌, leb, ltb, eqb, length, Result, Ok, Err}
use Rattle.answer.specs.declared.Refusal.{Refusal}
use Rattle.answer.specs.declared.Refusal.TheVariants.{PlanRule, PlanContext, NoRoom}
use Rattle.answer.specs.Verdict.{stop_if, ◌then◌}
use Rattle.varint.specs.Numbers.{limit}
use Rattle.table.specs.declared.Segment.{Segment}
use Rattle.table.specs.Limits.{max_templates, max_segments, static_limit}
use Rattle.table.specs.Templates.{Sum, no_sum, sum_at, Template, segments_of}

-- the least output that a plan is written to
abbrev pub plan_room : ℕ
plan_room = 1400

-- an ID is not 0, below 2^62, and above the one before it, 0 at first
abbrev pub id_rule : ℕ → ℕ → Bool
id_rule previous id = ltb previous id && ltb id limit

-- a segment is at least 1 long, starts where the one before it ended or later, and ends within the limit
abbrev pub segment_rule : ℕ → ℕ → ℕ → Bool
segment_rule ended offset size = leb 1 size && (leb ended offset && leb (offset + size) static_limit)

-- the two bytes of a field lie outside a segment
abbrev pub clear_of : ℕ → ℕ → ℕ → Bool
clear_of field offset size = leb (field + 2) offset || leb (offset + size) field

-- 20 ≤ start ≤ field ≤ 126, and an even number of bytes between them
abbrev pub sum_rule : ℕ → ℕ → Bool
sum_rule field start = leb 20 start && (leb start field && (leb (field + 2) static_limit && eqb ((field - start) % 2) 0))

-- ---- of templates

abbrev pub segments_fault : ℕ → List Segment → Result Unit Refusal
segments_fault ended [] = (Ok tt)
segments_fault ended (s ∷ ss) = stop_if (not (segment_rule ended s.offset s.length)) PlanRule (segments_fault (s.offset + s.length) ss)

abbrev pub all_clear : ℕ → List Segment → Bool
all_clear field [] = true
all_clear field (s ∷ ss) = clear_of field s.offset s.length && all_clear field ss

abbrev pub none : List Segment → Bool
none [] = true
none (s ∷ ss) = false

-- without a checksum there is a segment at least
abbrev pub sum_fault : Sum → List Segment → Result Unit Refusal
sum_fault no_sum ss = stop_if (none ss) PlanRule (Ok tt)
sum_fault (sum_at field start) ss = stop_if (not (sum_rule field start && all_clear field ss)) PlanRule (Ok tt)

-- of a template behind one of the ID `previous`, or 0
unfoldable pub template_fault : ℕ → Template → Result Unit Refusal
template_fault previous t =
    stop_if (not (id_rule previous t.id)) PlanContext
    (stop_if (ltb max_segments (length t.pieces)) PlanRule
    (segments_fault 0 (segments_of t) then sum_fault t.sum (segments_of t)))

abbrev pub templates_fault : ℕ → List Template → Result Unit Refusal
templates_fault previous [] = (Ok tt)
templates_fault previous (t ∷ ts) = template_fault previous t then templates_fault t.id ts

-- the first fault of templates, in the order of their file
unfoldable pub plan_fault : List Template → Result Unit Refusal
plan_fault ts = stop_if (ltb max_templates (length ts)) PlanContext (templates_fault 0 ts)

abbrev pub goes : Result Unit Refusal → Bool
goes (Ok _) = true
goes (Err r) = false

unfoldable pub sound_templates : List Template → Bool
sound_templates ts = goes (plan_fault ts)

-- why templates are not written to an output of so many bytes
unfoldable pub plan_verdict : List Template → ℕ → Result Unit Refusal
plan_verdict ts n = stop_if (ltb n plan_room) NoRoom (plan_fault ts)
