-- The invariant: what is left to put completes the templates (`Putting`).
use Prim.Native.Nat.{◌-◌, ◌≤◌}
use Rattle.output.proofs.Placing.{Putting}
use Rattle.table.specs.Words.{templates_of}
use Rattle.table.specs.File.{templates_bytes}
use Rattle.table.proofs.InTurn.{templates_from}
use Rattle.plan_write.proofs.put_templates.Given as goal

abbrev pub invariant-loop-i : goal.invariant-loop-i
invariant-loop-i l = (l.i ≤ l.n) × Putting (templates_bytes (templates_from l.w l.i (l.n - l.i))) (templates_bytes (templates_of l.w)) l.at l.initial.out l.next l.out
