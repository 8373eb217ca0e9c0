-- The invariant: the words hold the entries read so far, and what is left to parse gives the answer for an assignment. A request's IDs are judged at the
-- first bad entry or at the end, which is what the definition says (`IdLaws`). A turn is `EntriesTurn`'s.
use Rattle.std.proofs.Common.{Some}
use Prim.Native.Nat.{◌+◌}
use mathlib.Core.Path.{◌≡◌, sym, ◌∙◌}
use native.Mathlib.Omega.{arith}
use borrow.Author.Rules.{rules}
use lib.ListN.{drop}
use Rattle.octets.proofs.Parts as Parts
use Rattle.capsule.specs.Entries.{entry_read, read_entry}
use Rattle.capsule.proofs.EntryCases as Entry
use Rattle.capsule.proofs.EntriesTurn as T
use Rattle.capsule.proofs.ListCases.{reads-fault}
use Rattle.capsule.proofs.list.read_entries.Goals as goal
use Rattle.capsule.proofs.list.read_entries.Goals.{else-request-via-then-request+else-count-eq0, else-request-via-else-request, Joined-count-lt-MAX_ADDRESSES, then-count-lt-MAX_ADDRESSES, else-count-lt-MAX_ADDRESSES}

-- what was read in the turn
got : (c : Joined-count-lt-MAX_ADDRESSES) → read_entry (drop c.loop-at.at c.args.value.now) ≡ Some (entry_read c.in-Some.read.entry c.in-Some.read.size)
got c =
    let q = sym c.read_entry.ensures ∙ c.in-Some.is in
    rw Parts.tail at q

-- the invariant after the turn, where the branch's arms have met
turned : (c : Joined-count-lt-MAX_ADDRESSES) → T.Reading c.args.request c.args.value.now c.if-count-lt-MAX_ADDRESSES.words (c.loop-at.count + 1) (c.loop-at.at + c.in-Some.read.size)
turned c =
    let i = c.loop-at.invariant in
    elim c.if-count-lt-MAX_ADDRESSES.branch [
      | then-count-lt-MAX_ADDRESSES w ↦ rw (w.words-is ∙ w.put_entry.ensures) (T.next i (omega arith) _ _ (got c) (omega arith))
      | else-count-lt-MAX_ADDRESSES w ↦ rw w.words-is (T.next-full i (omega arith) _ _ (got c) (omega arith))
    ]

pub loop-at-init : goal.loop-at-init
loop-at-init c = T.start _ _ c.requires.words_blank

pub overflow_add-count : goal.overflow_add-count
overflow_add-count c = omega (arith, (turned c).counted, (turned c).reading.behind, (turned c).reading.within)

pub overflow_add-at : goal.overflow_add-at
overflow_add-at c = omega (arith, (turned (goal.at.overflow_add-at c).Joined-count-lt-MAX_ADDRESSES).reading.within)

pub loop-at-smaller : goal.loop-at-smaller
loop-at-smaller c = omega (arith, (Entry.size _ _ _ (got (goal.at.loop-at-smaller c).Joined-count-lt-MAX_ADDRESSES)).0, (turned (goal.at.loop-at-smaller c).Joined-count-lt-MAX_ADDRESSES).reading.within)

pub loop-at-preserved : goal.loop-at-preserved
loop-at-preserved c = turned (goal.at.loop-at-preserved c).Joined-count-lt-MAX_ADDRESSES

pub ids_refused-requires : goal.ids_refused-requires
ids_refused-requires c = record { value_len_bound = search rules; ids_counted = T.ids-before c.loop-at.invariant (omega arith) (rw Parts.tail at (sym c.read_entry.ensures ∙ c.in_default.is)) }

pub returns-then-ids_refused : goal.returns-then-ids_refused
returns-then-ids_refused c = reads-fault (T.refused _ _ _ c.ids_refused.ensures c.if-ids_refused.true)

pub returns-in_default : goal.returns-in_default
returns-in_default c = reads-fault (T.passed _ _ _ c.ids_refused.ensures c.if-ids_refused.false (T.fault-entry c.loop-at.invariant (omega arith) (rw Parts.tail at (sym c.read_entry.ensures ∙ c.in_default.is))))

pub ids_refused-requires-2 : goal.ids_refused-requires-2
ids_refused-requires-2 c = record { value_len_bound = search rules; ids_counted = T.ids_all c.loop-at.invariant (omega arith) }

pub returns-then-ids_refused-2 : goal.returns-then-ids_refused-2
returns-then-ids_refused-2 c = reads-fault (T.refused _ _ _ c.ids_refused-2.ensures c.if-ids_refused-2.true)

pub returns-then-count-eq0 : goal.returns-then-count-eq0
returns-then-count-eq0 c = reads-fault (T.passed _ _ _ c.ids_refused-2.ensures c.if-ids_refused-2.false (T.empty c.loop-at.invariant (omega arith) (omega arith) c.if-request.true))

pub returns-then-count-gt-MAX_ADDRESSES : goal.returns-then-count-gt-MAX_ADDRESSES
returns-then-count-gt-MAX_ADDRESSES c = reads-fault (T.passed _ _ _ c.ids_refused-2.ensures c.if-ids_refused-2.false (T.many c.loop-at.invariant (omega arith) (omega arith)))

pub returns : goal.returns
returns c = T.fine c.loop-at.invariant (omega arith) _ c.ids_refused-2.ensures c.if-ids_refused-2.false (omega arith)
    (elim c.else-request.branch [
      | else-request-via-then-request+else-count-eq0 w ↦ λ e. absurd (w.if-count-eq0.false e)
      | else-request-via-else-request w ↦ λ e. w.if-request.false
    ])
