-- The numbers of the pattern are extension headers, and no others. Assumes nothing.
use native.Mathlib.Omega.{arith}
use Rattle.chain.proofs.ClassRule.{extension, no-extension}
use Rattle.chain.proofs.class.is_extension.Goals as goal

pub returns-in_default : goal.returns-in_default
returns-in_default c = no-extension _ (grind arith) (grind arith) (grind arith) (grind arith) (grind arith) (grind arith)

pub returns-in_default-2 : goal.returns-in_default-2
returns-in_default-2 c = no-extension _ (grind arith) (grind arith) (grind arith) (grind arith) (grind arith) (grind arith)

pub returns-in-0 : goal.returns-in-0
returns-in-0 c = extension _ (λ f0 f1 f2 f3 f4 f5. omega (arith, c.in-0.is))

pub returns-in-0-2 : goal.returns-in-0-2
returns-in-0-2 c = extension _ (λ f0 f1 f2 f3 f4 f5. omega arith)
