-- The search found the template with the Context ID, or there is none. Assumes nothing.
use Prim.Native.Nat.{◌<◌}
use mathlib.Core.Path.{ap}
use Rattle.std.proofs.Common.{◌≡◌, Some, ◌∙◌}
use Rattle.std.specs.Result.{result_ok}
use Rattle.answer.proofs.Passing.{passed_on, lacking}
use Rattle.octets.specs.Parts.{part}
use Rattle.table.specs.Words.{table_words, count_in}
use Rattle.table.specs.Sound.{Usable}
use Rattle.table.proofs.TableFacts.{table_usable}
use Rattle.state.specs.State.{table_at, state_in}
use Rattle.state.proofs.StateLaws.{state_facts}
use Rattle.template.specs.Datagrams.{open_short}
use Rattle.tunnel.proofs.ReceivingSteps as Steps
use Rattle.tunnel.proofs.ReceivingOpening as Opening
use borrow.Author.Rules.{rules}
use Rattle.tunnel.proofs.receiving.take_short.Goals as goal
use Rattle.tunnel.proofs.receiving.take_short.Goals.{In_ok-i, Start}

usable : (s : Start) → Usable ((part s.args.state.now table_at table_words))
usable s = table_usable _ (state_facts (state_in s.args.state.now) s.requires.sound).templates

found : (c : In_ok-i) → c.find_id.result ≡ Some c.in_ok-i.i
found c = c.ok_or.ensures.ok_part ∙ ap result_ok c.in_ok-i.was

below : (c : In_ok-i) → c.in_ok-i.i < count_in (part c.args.state.now table_at table_words)
below c = Opening.found_below _ _ c.find_id.ensures _ (found c)

pub find_id-requires : goal.find_id-requires
find_id-requires c = record { table_words_in_bounds = search rules; usable = usable (goal.at.find_id-requires c).Start }

pub template_at-t-requires : goal.template_at-t-requires
template_at-t-requires c =
    record { table_words_in_bounds = search rules; usable = usable (goal.at.template_at-t-requires c).Start; i_in_use = below (goal.at.template_at-t-requires c).In_ok-i }

pub returns-in_err-i : goal.returns-in_err-i
returns-in_err-i c =
    let none = lacking _ _ _ c.in_err-i.ensures.value in
    rw (passed_on _ _ c.from_residual.ensures.1, none.1) (Steps.takes_refused _ (Opening.none-listed _ _ c.find_id.ensures _ none.0))

pub returns : goal.returns
returns c =
    Steps.takes_as _
    (ap (open_short c.args.body.now) (Opening.found-listed _ _ c.find_id.ensures _ (found (goal.at.returns c).In_ok-i) c.template_at-t.ensures))
    c.take_by.ensures
