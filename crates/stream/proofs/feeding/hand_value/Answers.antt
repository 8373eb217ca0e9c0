-- The value starts in the bytes given, or in those kept. Assumes nothing.
use Prim.Native.Nat.{ℕ, ◌-◌}
use lib.ListN.{length}
use mathlib.Core.Path.{◌∙◌, ap}
use mathlib.Core.List.{List, ◌++◌}
use native.Mathlib.Omega.{arith}
use Rattle.octets.proofs.Parts as Parts
use Rattle.output.proofs.Placing.{put_as}
use Rattle.stream.proofs.CodeLaws.{value-given, value-kept}
use Rattle.stream.proofs.feeding.hand_value.Goals as goal

pub returns-then-kept-start : goal.returns-then-kept-start
returns-then-kept-start c = let s = c.args in put_as (Parts.tail (s.start - length s.kept.now) s.bytes.now ∙ value-given s.kept.now s.bytes.now s.start c.if-kept-start.true) c.put_bytes.ensures

pub returns : goal.returns
returns c = let s = c.args in put_as (ap (λ (x : List ℕ). x ++ s.bytes.now) (Parts.tail s.start s.kept.now) ∙ value-kept s.kept.now s.bytes.now s.start (omega (arith, c.if-kept-start.false))) c.gather.ensures
