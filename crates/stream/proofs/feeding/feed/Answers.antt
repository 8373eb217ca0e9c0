-- The table of tests, an empty store, then a refusal that is remembered, a capsule that is skipped, one that stays open, a DATAGRAM that ends, or a
-- capsule whose bytes are collected. Assumes nothing.
use native.Mathlib.Omega.{arith}
use mathlib.Core.Path.{refl, sym, ◌∙◌}
use Rattle.answer.proofs.Passing.{passed_on}
use Rattle.lists.proofs.Calls.{called_true, called_false}
use Rattle.stream.proofs.TestLaws.{verdict-room, verdict-state, verdict-store, verdict-go}
use Rattle.stream.proofs.FeedCases as Feed
use Rattle.stream.proofs.FreshLaws.{fresh, collecting}
use Rattle.stream.proofs.StayLaws.{ends-behind, stays-fits, goes-stays}
use borrow.Author.Rules.{rules}
use Rattle.stream.proofs.feeding.feed.Goals as goal

pub returns-then-out-lt-MAX_VALUE : goal.returns-then-out-lt-MAX_VALUE
returns-then-out-lt-MAX_VALUE c = Feed.feeds_stop _ _ _ _ _ (verdict-room _ _ _ c.if-out-lt-MAX_VALUE.true) refl

pub returns-then-not-state_sound : goal.returns-then-not-state_sound
returns-then-not-state_sound c = Feed.feeds_stop _ _ _ _ _ (verdict-state _ _ _ c.if-out-lt-MAX_VALUE.false (called_false c.state_sound.ensures c.if-not-state_sound.true)) refl

pub feed_first-requires : goal.feed_first-requires
feed_first-requires c = (fresh _ (search rules) (sym c.is_empty.ensures ∙ c.if-is_empty.true), omega (arith, c.if-out-lt-MAX_VALUE.false), search rules)

pub returns-then-is_empty : goal.returns-then-is_empty
returns-then-is_empty c = let s = c.args in let f = fresh s.state.now (search rules) (sym c.is_empty.ensures ∙ c.if-is_empty.true) in Feed.feeds_goes _ _ _ _ _ (verdict-go _ _ _ c.if-out-lt-MAX_VALUE.false (called_true c.state_sound.ensures c.if-not-state_sound.false) (collecting f s.kept.now (search rules)).sound) c.feed_first.ensures

pub returns-then-not-store_sound : goal.returns-then-not-store_sound
returns-then-not-store_sound c = Feed.feeds_stop _ _ _ _ _ (verdict-store _ _ _ c.if-out-lt-MAX_VALUE.false (called_true c.state_sound.ensures c.if-not-state_sound.false) (called_false c.store_sound.ensures.answer c.if-not-store_sound.true)) refl

pub pass_over-requires : goal.pass_over-requires
pass_over-requires c = (search rules, Feed.live-word c.args.state.now c.args.kept.now (called_true c.store_sound.ensures.answer c.if-not-store_sound.false) (sym c.remembered.ensures ∙ c.in_ok-remembered.was))

pub returns-then-skip-gt0 : goal.returns-then-skip-gt0
returns-then-skip-gt0 c = Feed.feeds_skip _ _ _ _ _ (verdict-go _ _ _ c.if-out-lt-MAX_VALUE.false (called_true c.state_sound.ensures c.if-not-state_sound.false) (called_true c.store_sound.ensures.answer c.if-not-store_sound.false)) (sym c.remembered.ensures ∙ c.in_ok-remembered.was) c.if-skip-gt0.true c.pass_over.ensures

pub stays_open-requires : goal.stays_open-requires
stays_open-requires c = let s = c.args in ends-behind (Feed.ready s.state.now s.kept.now (search rules) (search rules) (called_true c.store_sound.ensures.answer c.if-not-store_sound.false) (c.store_sound.ensures.within (called_true refl c.if-not-store_sound.false)) (sym c.remembered.ensures ∙ c.in_ok-remembered.was) c.if-skip-gt0.false) (c.kept_head-head.ensures (c.store_sound.ensures.within (called_true refl c.if-not-store_sound.false)))

pub keep-requires : goal.keep-requires
keep-requires c = let s = c.args in let rd = Feed.ready s.state.now s.kept.now (search rules) (search rules) (called_true c.store_sound.ensures.answer c.if-not-store_sound.false) (c.store_sound.ensures.within (called_true refl c.if-not-store_sound.false)) (sym c.remembered.ensures ∙ c.in_ok-remembered.was) c.if-skip-gt0.false in (rd.live, stays-fits rd (c.kept_head-head.ensures (c.store_sound.ensures.within (called_true refl c.if-not-store_sound.false))) s.bytes.now (sym c.stays_open.ensures ∙ c.if-stays_open.true))

pub returns-then-stays_open : goal.returns-then-stays_open
returns-then-stays_open c = Feed.feeds_goes _ _ _ _ _ (verdict-go _ _ _ c.if-out-lt-MAX_VALUE.false (called_true c.state_sound.ensures c.if-not-state_sound.false) (called_true c.store_sound.ensures.answer c.if-not-store_sound.false)) (goes-stays (Feed.ready _ _ (search rules) (search rules) (called_true c.store_sound.ensures.answer c.if-not-store_sound.false) (c.store_sound.ensures.within (called_true refl c.if-not-store_sound.false)) (sym c.remembered.ensures ∙ c.in_ok-remembered.was) c.if-skip-gt0.false) (c.kept_head-head.ensures (c.store_sound.ensures.within (called_true refl c.if-not-store_sound.false))) c.args.bytes.now (sym c.stays_open.ensures ∙ c.if-stays_open.true) c.keep.ensures)

pub end_datagram-requires : goal.end_datagram-requires
end_datagram-requires c = (record { store = Feed.ready _ _ (search rules) (search rules) (called_true c.store_sound.ensures.answer c.if-not-store_sound.false) (c.store_sound.ensures.within (called_true refl c.if-not-store_sound.false)) (sym c.remembered.ensures ∙ c.in_ok-remembered.was) c.if-skip-gt0.false; read = c.kept_head-head.ensures (c.store_sound.ensures.within (called_true refl c.if-not-store_sound.false)); datagram = sym c.is_datagram.ensures ∙ c.if-is_datagram.true; ends = sym c.stays_open.ensures ∙ c.if-stays_open.false }, omega (arith, c.if-out-lt-MAX_VALUE.false))

pub returns-then-is_datagram : goal.returns-then-is_datagram
returns-then-is_datagram c = Feed.feeds_goes _ _ _ _ _ (verdict-go _ _ _ c.if-out-lt-MAX_VALUE.false (called_true c.state_sound.ensures c.if-not-state_sound.false) (called_true c.store_sound.ensures.answer c.if-not-store_sound.false)) (c.end_datagram.ensures.goes _)

pub feed_open-requires : goal.feed_open-requires
feed_open-requires c = (Feed.ready _ _ (search rules) (search rules) (called_true c.store_sound.ensures.answer c.if-not-store_sound.false) (c.store_sound.ensures.within (called_true refl c.if-not-store_sound.false)) (sym c.remembered.ensures ∙ c.in_ok-remembered.was) c.if-skip-gt0.false, omega (arith, c.if-out-lt-MAX_VALUE.false), c.kept_head-head.ensures (c.store_sound.ensures.within (called_true refl c.if-not-store_sound.false)))

pub returns : goal.returns
returns c = Feed.feeds_goes _ _ _ _ _ (verdict-go _ _ _ c.if-out-lt-MAX_VALUE.false (called_true c.state_sound.ensures c.if-not-state_sound.false) (called_true c.store_sound.ensures.answer c.if-not-store_sound.false)) c.feed_open.ensures

pub returns-in_err-remembered : goal.returns-in_err-remembered
returns-in_err-remembered c = let s = called_true c.store_sound.ensures.answer c.if-not-store_sound.false in let p = c.store_sound.ensures.within (called_true refl c.if-not-store_sound.false) in Feed.feeds_repeat _ _ _ _ _ (verdict-go _ _ _ c.if-out-lt-MAX_VALUE.false (called_true c.state_sound.ensures c.if-not-state_sound.false) s) (search rules) s (omega (arith, p)) (sym c.remembered.ensures ∙ c.in_err-remembered.was) (passed_on _ _ c.from_residual.ensures.1)
