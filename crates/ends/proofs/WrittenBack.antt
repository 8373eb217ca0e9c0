-- What each writer of a capsule wrote is read back, whatever follows it: an `Ok` says that the rules are kept. Assumes nothing.
use Rattle.std.proofs.Common.{Result, Ok}
use Prim.Native.Nat.{ℕ}
use mathlib.Core.Path.{◌≡◌, sym, ap, ◌∙◌}
use mathlib.Core.Bool.{true, false}
use mathlib.Core.List.{List, ◌++◌}
use lib.ListN.{length, take, drop}
use lib.Seq.{take_at}
use Rattle.answer.specs.declared.Refusal.{Refusal}
use Rattle.answer.specs.Verdict.{Writes}
use Rattle.answer.proofs.Tables.{done-go, done-count}
use Rattle.lists.specs.Words.{entries_of, ranges_of}
use Rattle.capsule.specs.Capsules.{Capsule, datagram, assign, request, advertise, capsule, read_capsule, capsule_bytes}
use Rattle.capsule.specs.Sound.{value_start}
use Rattle.capsule_write.specs.Verdicts.{Words, with_room, value_limit, entries_verdict, ranges_verdict, DatagramWritten, AssignWritten, RequestWritten, RoutesWritten}
use Rattle.capsule_write.proofs.Accepted.{room_go}
use Rattle.capsule_write.proofs.ReadBack.{read-datagram, read-assign, read-request, read-advertise}
use Rattle.ends.specs.Outcomes.{ReadBack}

-- a message that is read back, where its verdict is `Ok`
back : (c : Capsule) (v : Result Unit Refusal) {before after : List ℕ} {n : ℕ} (rest : List ℕ)
    → (v ≡ Ok tt → read_capsule (capsule_bytes c ++ rest) ≡ capsule c (value_start c) (length (capsule_bytes c)))
    → Writes (with_room (length before) v) (capsule_bytes c) before (Ok n) after → ReadBack c n after rest
back c v {before} {after} {n} rest read w =
    let m = capsule_bytes c in
    let all = with_room (length before) v in
    let go = done-go all (length m) n (sym w.answer) in
    let size : length m ≡ n = done-count all (length m) n (sym w.answer) in
    let front = ap (take n) (rw go at w.output) ∙ take_at m (drop (length m) before) n size in
    ap (λ (b : List ℕ). read_capsule (b ++ rest)) front ∙ read (room_go (length before) v go).1 ∙ ap (capsule c (value_start c)) size

module _ {before after : List ℕ} {n : ℕ} (rest : List ℕ) where
  pub datagram-back : (v : List ℕ) → DatagramWritten v before (Ok n) after → ReadBack (datagram v) n after rest
  datagram-back v = back (datagram v) (value_limit v) rest (read-datagram v rest)

  module _ (l : List ℕ) (small : Words l) where
    pub assign-back : AssignWritten l before (Ok n) after → ReadBack (assign (entries_of l)) n after rest
    assign-back = back (assign (entries_of l)) (entries_verdict false l) rest (read-assign l small rest)

    pub request-back : RequestWritten l before (Ok n) after → ReadBack (request (entries_of l)) n after rest
    request-back = back (request (entries_of l)) (entries_verdict true l) rest (read-request l small rest)

    pub routes-back : RoutesWritten l before (Ok n) after → ReadBack (advertise (ranges_of l)) n after rest
    routes-back = back (advertise (ranges_of l)) (ranges_verdict l) rest (read-advertise l small rest)
