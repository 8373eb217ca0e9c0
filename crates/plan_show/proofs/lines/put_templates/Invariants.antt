-- The invariant: what is left to put completes the lines (`Putting`).
use Prim.Native.Nat.{◌-◌, ◌≤◌}
use Rattle.output.proofs.Placing.{Putting}
use Rattle.table.specs.Words.{templates_of}
use Rattle.table.proofs.InTurn.{templates_from}
use Rattle.plan_show.specs.Lines.{template_lines}
use Rattle.plan_show.proofs.lines.put_templates.Given as goal

abbrev pub invariant-loop-i : goal.invariant-loop-i
invariant-loop-i l = (l.i ≤ l.n) × Putting (template_lines (templates_from l.w l.i (l.n - l.i))) (template_lines (templates_of l.w)) l.at l.initial.out l.next l.out
