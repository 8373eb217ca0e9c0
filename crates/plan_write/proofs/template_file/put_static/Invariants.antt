-- The invariant: what is left to put completes the static bytes (`Putting`).
use Prim.Native.Nat.{◌+◌, ◌-◌, ◌≤◌}
use Rattle.output.proofs.Placing.{Putting}
use Rattle.table.specs.Words.{window}
use Rattle.plan_write.proofs.template_file.put_static.Given as goal

abbrev pub invariant-loop-i : goal.invariant-loop-i
invariant-loop-i l = (l.i ≤ l.size) × Putting (window l.t.words.now (l.offset + l.i) (l.size - l.i)) (window l.t.words.now l.offset l.size) l.at l.initial.out l.next l.out
