-- What is left to search gives the answer of the whole search. The table stays closed. Assumes nothing.
use Prim.Native.Nat.{ℕ, ◌-◌, ◌<◌}
use mathlib.Core.Path.{◌≡◌, ap, sym, ◌∙◌}
use native.Mathlib.Omega.{arith}
use Rattle.table.specs.Words.{head_of, count_in, words_at}
use Rattle.table.specs.declared.Head.{Head}
use Rattle.template.specs.Fits.{with_id}
use Rattle.table.proofs.InTurn.{templates_from, templates-all}
use Rattle.template.proofs.Steps.{id_next, id-here, id-done}
use Rattle.template.proofs.search.find_id.Goals as goal
use Rattle.template.proofs.search.find_id.Goals.{In-loop-i, After-head-head}

in_use : (c : In-loop-i) → c.loop-i.i < count_in c.args.table.now
in_use c = omega (arith, c.count_of-count.ensures)

-- the words that were read are those of template i
read : (c : After-head-head) → c.head-head.result ≡ head_of (words_at c.args.table.now c.loop-i.i)
read c = c.head-head.ensures ∙ ap head_of c.template_at.ensures

pub loop-i-init : goal.loop-i-init
loop-i-init c =
    let a = c.args in
    ap (with_id _) (templates-all a.table.now ∙ ap (λ (n : ℕ). templates_from a.table.now 0 (n - 0)) (sym c.count_of-count.ensures))

pub template_at-requires : goal.template_at-requires
template_at-requires c =
    record { table_words_in_bounds = c.requires.table_words_in_bounds; usable = c.requires.usable; i_in_use = in_use (goal.at.template_at-requires c).In-loop-i }

pub returns-then-head-id : goal.returns-then-head-id
returns-then-head-id c =
    record {
      lookup = sym (c.loop-i.invariant ∙ id-here _ _ _ _ c.loop-i-test.true (sym (ap (λ (h : Head). h.id.0) (read (goal.at.returns-then-head-id c).After-head-head)) ∙ c.if-head-id.true));
      within = in_use (goal.at.returns-then-head-id c).In-loop-i;
    }

pub loop-i-preserved : goal.loop-i-preserved
loop-i-preserved c =
    c.loop-i.invariant ∙ id_next _ _ _ _ c.loop-i-test.true (λ e. c.if-head-id.false (ap (λ (h : Head). h.id.0) (read (goal.at.loop-i-preserved c).After-head-head) ∙ e))

pub returns : goal.returns
returns c = record { lookup = sym (c.loop-i.invariant ∙ id-done _ _ _ _ c.loop-i-test.false); within = tt }
