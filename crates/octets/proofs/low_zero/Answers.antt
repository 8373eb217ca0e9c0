-- `octets::low_zero` meets its contract: below 64 bits a shift down and up clears them, and a word has 64 bits. Assumes nothing.
use native.Mathlib.Omega.{arith}
use Rattle.octets.proofs.Bits as Bits
use Rattle.octets.proofs.low_zero.Goals as goal

pub returns-then-k-lt64 : goal.returns-then-k-lt64
returns-then-k-lt64 c = Bits.shifted c.args.k c.args.x (omega arith)

pub returns-else-k-lt64 : goal.returns-else-k-lt64
returns-else-k-lt64 c = Bits.whole c.args.k c.args.x (omega arith) (omega arith)
