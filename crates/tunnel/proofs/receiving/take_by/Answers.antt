-- The tests in the order of `open_short`; what reaches and is within the limit is taken in two parts. Assumes nothing.
use Prim.Native.Nat.{ℕ, ◌+◌, ◌-◌, ◌≤◌, min}
use mathlib.Core.Path.{◌≡◌, refl, ap, sym, ◌∙◌}
use mathlib.Core.Bool.{true}
use native.Mathlib.Omega.{arith}
use lib.ListN.{length}
use Rattle.table.specs.Limits.{static_limit}
use Rattle.table.specs.Words.{template_of}
use Rattle.table.specs.Templates.{static_size}
use Rattle.template.specs.Datagrams.{max_packet, reaches}
use Rattle.template.specs.Usable.{pieces_of}
use Rattle.template.proofs.Sizes.{reaches-size}
use Rattle.tunnel.proofs.ReceivingSteps as Steps
use Rattle.tunnel.proofs.ReceivingOpening as Opening
use Rattle.tunnel.proofs.receiving.take_by.Goals as goal
use Rattle.tunnel.proofs.receiving.take_by.Goals.{After-min, After-reaches, Else-not-reaches}

-- how many bytes the packet has
size : (c : After-reaches) → c.static_size-size.result + length c.args.body.now ≡ static_size (pieces_of c.args.t.words.now) + length c.args.body.now
size c = omega (arith, c.static_size-size.ensures.0)

-- whether the bytes reach
reach : (c : After-reaches) → c.reaches.result ≡ reaches (template_of c.args.t.words.now) c.args.body.now
reach c = c.reaches.ensures ∙ reaches-size c.args.t.words.now c.args.body.now (size c)

reached : (c : Else-not-reaches) → reaches (template_of c.args.t.words.now) c.args.body.now ≡ true
reached c = sym (c.reaches.ensures ∙ reaches-size c.args.t.words.now c.args.body.now (omega (arith, c.static_size-size.ensures.0))) ∙ c.if-not-reaches.false

cut : (l : After-min) → (l.min.result - l.static_size-size.result) ≡ min (l.static_size-size.result + length l.args.body.now) static_limit - l.static_size-size.result
cut l = ap (λ (m : ℕ). m - l.static_size-size.result) l.min.ensures

low : (l : After-min) → l.static_size-size.result ≤ static_limit
low l = l.static_size-size.ensures.1

within : (l : After-min) → l.static_size-size.result + length l.args.body.now ≤ max_packet
within l = omega (arith, l.if-n-gt-MAX_PACKET.false)

pub returns-then-not-reaches : goal.returns-then-not-reaches
returns-then-not-reaches c = Steps.takes_refused _ (Opening.short_cut _ _ (reach (goal.at.returns-then-not-reaches c).After-reaches) c.if-not-reaches.true)

pub returns-then-n-gt-MAX_PACKET : goal.returns-then-n-gt-MAX_PACKET
returns-then-n-gt-MAX_PACKET c =
    Steps.takes_refused _ (Opening.short-long _ _ (reach (goal.at.returns-then-n-gt-MAX_PACKET c).After-reaches) c.if-not-reaches.false (size (goal.at.returns-then-n-gt-MAX_PACKET c).After-reaches) (omega (arith, c.if-n-gt-MAX_PACKET.true)))

pub slice_bounds-take_rebuilt-end : goal.slice_bounds-take_rebuilt-end
slice_bounds-take_rebuilt-end c =
    sym (Opening.near_length c.args.t.words.now c.args.body.now (reached (goal.at.slice_bounds-take_rebuilt-end c).Else-not-reaches) c.static_size-size.ensures.0 (low c) refl (within c) (cut c))

pub take_rebuilt-requires : goal.take_rebuilt-requires
take_rebuilt-requires c =
    (c.requires, Opening.openable c.args.t.words.now c.args.body.now (reached (goal.at.take_rebuilt-requires c).Else-not-reaches) c.static_size-size.ensures.0 (low (goal.at.take_rebuilt-requires c).After-min) refl (within (goal.at.take_rebuilt-requires c).After-min) (cut (goal.at.take_rebuilt-requires c).After-min) c.args.t.usable)

pub returns : goal.returns
returns c =
    let o = Opening.opens-body c.args.t.words.now c.args.body.now (reached (goal.at.returns c).Else-not-reaches) c.static_size-size.ensures.0 (low (goal.at.returns c).After-min) refl (within (goal.at.returns c).After-min) (cut (goal.at.returns c).After-min) in
    Steps.takes_as _ (Opening.short-within _ _ (reach (goal.at.returns c).After-reaches) c.if-not-reaches.false (size (goal.at.returns c).After-reaches) (within (goal.at.returns c).After-min) ∙ o) c.take_rebuilt.ensures
