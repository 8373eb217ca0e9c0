-- Each return is a case of the verdict; an `Ok` says that the entries are sound, and leave room for all of them.
use native.Mathlib.Omega.{arith}
use mathlib.Core.Path.{◌∙◌}
use mathlib.Core.Bool.{true}
use Rattle.lists.specs.Words.{max_addresses, entry_at, count_of}
use Rattle.capsule.specs.Entries.{entry_format}
use Rattle.output.proofs.Placing.{put_as}
use Rattle.answer.proofs.Passing.{passed_on}
use Rattle.capsule_write.proofs.Frames as Frames
use Rattle.capsule_write.proofs.Accepted.{list-go}
use borrow.Author.Rules.{rules}
use Rattle.capsule_write.proofs.put_request_value.Goals as goal

pub returns-then-out-lt-CAPSULE_ROOM : goal.returns-then-out-lt-CAPSULE_ROOM
returns-then-out-lt-CAPSULE_ROOM c = Frames.refused (Frames.no_room _ _ (omega arith))

pub put-requires : goal.put-requires
put-requires c =
    let w = c.args.list.now in
    let go = list-go (entry_format true) true max_addresses (entry_at w) (count_of w) c.verdict.ensures c.in_ok-verdict.was in
    record { words_in_bounds = search rules; n_le_limit = go.within; sound = go.sound; room = omega (arith, go.within) }

pub returns : goal.returns
returns c =
    let w = c.args.list.now in
    Frames.wrote (Frames.room_says _ _ (omega arith) (c.verdict.ensures ∙ Frames.request-verdict w) c.in_ok-verdict.was)
    (put_as (Frames.request-value w) c.put.ensures)

pub returns-in_err-verdict : goal.returns-in_err-verdict
returns-in_err-verdict c =
    rw (passed_on _ _ c.from_residual.ensures.1)
    (Frames.refused (Frames.room_says _ _ (omega arith) (c.verdict.ensures ∙ Frames.request-verdict c.args.list.now) c.in_err-verdict.was))
