-- Each side is a part of the state that keeps its rules, and where it stands is picked by the way: one call of `passes` serves both. Assumes nothing.
use Prim.Native.Nat.{◌≤◌}
use mathlib.Core.Path.{◌≡◌}
use native.Mathlib.Omega.{arith}
use borrow.Author.Rules.{rules}
use Rattle.policy.specs.Granted.{side_words}
use Rattle.state.specs.State.{received_at, given_at}
use Rattle.tunnel.proofs.JudgingLaws.{first_at, second_at, picked, first-within, second-within, words-enough, first-sound, second-sound, granted-by}
use Rattle.tunnel.proofs.judging.granted.Goals as goal
use Rattle.tunnel.proofs.judging.granted.Goals.{Joined-sending, Joined-sending-2, then-sending, else-sending, then-sending-2, else-sending-2}

-- the two places, by the way
first-at : (c : Joined-sending) → c.if-sending.first ≡ first_at c.args.sending
first-at c =
    elim c.if-sending.branch [
      | then-sending w ↦ picked received_at given_at w.if-sending.true w.first-is
      | else-sending w ↦ picked received_at given_at w.if-sending.false w.first-is
    ]

second_at_lem : (c : Joined-sending-2) → c.if-sending-2.second ≡ second_at c.args.sending
second_at_lem c =
    elim c.if-sending-2.branch [
      | then-sending-2 w ↦ picked given_at received_at w.if-sending-2.true w.second-is
      | else-sending-2 w ↦ picked given_at received_at w.if-sending-2.false w.second-is
    ]

first-low : (c : Joined-sending) → c.if-sending.first ≤ side_words
first-low c = first-within c.args.sending (first-at c)

second-low : (c : Joined-sending-2) → c.if-sending-2.second ≤ side_words
second-low c = second-within c.args.sending (second_at_lem c)

pub overflow_add-side : goal.overflow_add-side
overflow_add-side c = omega (arith, first-low (goal.at.overflow_add-side c).Joined-sending)

pub offset_bounds-state-first : goal.offset_bounds-state-first
offset_bounds-state-first c = omega (arith, first-low (goal.at.offset_bounds-state-first c).Joined-sending)

pub slice_bounds-side-count : goal.slice_bounds-side-count
slice_bounds-side-count c = omega (arith, first-low (goal.at.slice_bounds-side-count c).Joined-sending)

pub slice_bounds-side-start : goal.slice_bounds-side-start
slice_bounds-side-start c = omega (arith, first-low (goal.at.slice_bounds-side-start c).Joined-sending)

pub slice_bounds-side-end : goal.slice_bounds-side-end
slice_bounds-side-end c = omega (arith, first-low (goal.at.slice_bounds-side-end c).Joined-sending)

pub overflow_add-reply : goal.overflow_add-reply
overflow_add-reply c = omega (arith, second-low (goal.at.overflow_add-reply c).Joined-sending-2)

pub offset_bounds-state-second : goal.offset_bounds-state-second
offset_bounds-state-second c = omega (arith, second-low (goal.at.offset_bounds-state-second c).Joined-sending-2)

pub slice_bounds-reply-count : goal.slice_bounds-reply-count
slice_bounds-reply-count c = omega (arith, second-low (goal.at.slice_bounds-reply-count c).Joined-sending-2)

pub slice_bounds-reply-start : goal.slice_bounds-reply-start
slice_bounds-reply-start c = omega (arith, second-low (goal.at.slice_bounds-reply-start c).Joined-sending-2)

pub slice_bounds-reply-end : goal.slice_bounds-reply-end
slice_bounds-reply-end c = omega (arith, second-low (goal.at.slice_bounds-reply-end c).Joined-sending-2)

pub flow_of-requires : goal.flow_of-requires
flow_of-requires c = c.requires.1

pub passes-requires : goal.passes-requires
passes-requires c =
    let w = c.args.state.now in
    let b = c.args.sending in
    record { side_words_in_bounds = (words-enough w (first-low (goal.at.passes-requires c).Joined-sending) (search rules), words-enough w (second-low (goal.at.passes-requires c).Joined-sending-2) (search rules)); sides_sound = (first-sound w b c.requires.0 (first-at (goal.at.passes-requires c).Joined-sending), second-sound w b c.requires.0 (second_at_lem (goal.at.passes-requires c).Joined-sending-2)) }

pub returns : goal.returns
returns c =
    let a = c.args in
    granted-by a.state.now a.sending (first-at (goal.at.returns c).Joined-sending) (second_at_lem (goal.at.returns c).Joined-sending-2) c.flow_of.ensures c.passes.ensures
