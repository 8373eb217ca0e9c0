-- The invariant: what is left to put completes the segments (`Putting`).
use Prim.Native.Nat.{◌-◌, ◌≤◌}
use Rattle.output.proofs.Placing.{Putting}
use Rattle.table.specs.Words.{template_of}
use Rattle.table.specs.File.{pieces_bytes}
use Rattle.plan_write.proofs.Parts.{pieces_from}
use Rattle.plan_write.proofs.template_file.put_segments.Given as goal

abbrev pub invariant-loop-j : goal.invariant-loop-j
invariant-loop-j l = (l.j ≤ l.n) × Putting (pieces_bytes (pieces_from l.t.words.now l.j (l.n - l.j))) (pieces_bytes (template_of l.t.words.now).pieces) l.at l.initial.out l.next l.out
