-- Each return is a case of the verdict; an `Ok` says that the list is within its limit, and every element sound.
use native.Mathlib.Omega.{arith}
use mathlib.Core.Bool.{false}
use mathlib.Core.Path.{sym, ap}
use Rattle.octets.specs.Scan.{from}
use Rattle.capsule.specs.Capsules.{frame_bytes}
use Rattle.lists.specs.Words.{count_of}
use Rattle.output.proofs.Placing.{put_as}
use Rattle.answer.proofs.Passing.{passed_on}
use Rattle.capsule_write.specs.Verdicts.{list_verdict}
use Rattle.capsule_write.proofs.Frames as Frames
use Rattle.capsule_write.proofs.Accepted.{list-go}
use borrow.Author.Rules.{rules}
use Rattle.capsule_write.proofs.write_list.Goals as goal

pub returns-then-out-lt-CAPSULE_ROOM : goal.returns-then-out-lt-CAPSULE_ROOM
returns-then-out-lt-CAPSULE_ROOM g c = Frames.refused (Frames.no_room _ _ (omega arith))

pub put_list-requires : goal.put_list-requires
put_list-requires g c =
    let m = g.T.Element in
    let a = c.args in
    let go = list-go (m.format a.request) a.request m.LIMIT (m.at a.w.now) (count_of a.w.now) c.verdict.ensures c.in_ok-verdict.was in
    let same = (g.met.T.Element.alike a.request).1 in
    record { words_in_bounds = search rules; count_le_limit = go.within; sound = rw same at go.sound; kind_and_room = (c.requires.kind_bound, omega arith) }

pub returns : goal.returns
returns g c =
    let a = c.args in
    let w = a.w.now in
    let m = g.T.Element in
    let v = list_verdict (m.format a.request) a.request m.LIMIT (m.at w) (count_of w) in
    let same = Frames.written_same (m.format false) (m.format a.request) (sym (g.met.T.Element.alike a.request).0) (from (m.at w) 0 (count_of w)) in
    Frames.wrote (Frames.room_says _ v (omega arith) c.verdict.ensures c.in_ok-verdict.was)
    (put_as (ap (frame_bytes a.kind) same) c.put_list.ensures)

pub returns-in_err-verdict : goal.returns-in_err-verdict
returns-in_err-verdict g c =
    let m = g.T.Element in
    let a = c.args in
    let v = list_verdict (m.format a.request) a.request m.LIMIT (m.at a.w.now) (count_of a.w.now) in
    rw (passed_on _ _ c.from_residual.ensures.1)
    (Frames.refused (Frames.room_says _ v (omega arith) c.verdict.ensures c.in_err-verdict.was))
