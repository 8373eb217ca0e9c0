-- Down the table: what the packet carries, its hop count, and whether it is granted, by its front. Assumes nothing.
use mathlib.Core.Path.{◌≡◌, refl, sym, ap, ◌∙◌}
use mathlib.Core.Bool.{true, ◌&&◌}
use mathlib.Core.List.{◌++◌}
use Prim.Native.Nat.{ℕ}
use lib.Dec.{ltb}
use Rattle.std.specs.Prelude.{Some}
use Rattle.inet.specs.Packet.{form, hops_of}
use Rattle.inet.specs.Fronts.{Addressed, carried_by}
use Rattle.inet.proofs.FormFacts.{form_facts}
use Rattle.inet.proofs.AddressLaws.{front_addressed, joined-hops}
use Rattle.inet.proofs.CarriedLaws.{carried_formed, carried_protocol, carried_not}
use Rattle.state.specs.State.{state_in}
use Rattle.tunnel.proofs.JudgingLaws.{granted_joined, judge-bad, judge_spent, judge_denied, judge-go}
use Rattle.tunnel.proofs.judging.judge.Goals as goal
use Rattle.tunnel.proofs.judging.judge.Goals.{After-spent, In-Some}

-- the packet carries what the match has found
found : (c : In-Some) → Some c.in-Some.protocol ≡ carried_by ((c.args.front.now ++ c.args.tail.now))
found c = c.in-Some.ensures

formed : (c : In-Some) → form ((c.args.front.now ++ c.args.tail.now)) ≡ true
formed c = carried_formed _ (found c)

addressed : (c : In-Some) → Addressed c.args.front.now
addressed c = front_addressed c.args.front.now c.args.tail.now refl c.requires.1.header (form_facts _ (formed c))

-- its hop count is that of its front
spends : (c : After-spent) → c.spent.result ≡ (c.args.sending && ltb (hops_of ((c.args.front.now ++ c.args.tail.now))) 2)
spends c =
    c.spent.ensures ∙ ap (λ (h : ℕ). c.args.sending && ltb h 2) (sym (joined-hops c.args.front.now c.args.tail.now (front_addressed c.args.front.now c.args.tail.now refl c.requires.1.header
    (form_facts _ (carried_formed _ (c.in-Some.ensures))))))

pub carried-requires : goal.carried-requires
carried-requires c = c.requires.1

pub returns-in_default : goal.returns-in_default
returns-in_default c = judge-bad _ _ _ (carried_not _ (c.in_default.ensures))

pub returns-then-spent : goal.returns-then-spent
returns-then-spent c = judge_spent _ _ _ (formed (goal.at.returns-then-spent c).In-Some) (spends (goal.at.returns-then-spent c).After-spent) c.if-spent.true

pub granted-requires : goal.granted-requires
granted-requires c = (c.requires.0, addressed (goal.at.granted-requires c).In-Some)

pub returns-then-not-granted : goal.returns-then-not-granted
returns-then-not-granted c =
    let g = granted_joined c.args.sending (state_in c.args.state.now) _ c.args.tail.now (addressed (goal.at.returns-then-not-granted c).In-Some) (carried_protocol _ (found (goal.at.returns-then-not-granted c).In-Some)) c.granted.ensures in
    judge_denied c.args.sending (state_in c.args.state.now) _ (formed (goal.at.returns-then-not-granted c).In-Some) (spends (goal.at.returns-then-not-granted c).After-spent) c.if-spent.false g c.if-not-granted.true

pub returns : goal.returns
returns c =
    let g = granted_joined c.args.sending (state_in c.args.state.now) _ c.args.tail.now (addressed (goal.at.returns c).In-Some) (carried_protocol _ (found (goal.at.returns c).In-Some)) c.granted.ensures in
    judge-go c.args.sending (state_in c.args.state.now) _ (formed (goal.at.returns c).In-Some) (spends (goal.at.returns c).After-spent) c.if-spent.false g c.if-not-granted.false
