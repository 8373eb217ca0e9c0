-- `varint::size` meets its contract: each test of the value is a form's bound. Assumes nothing.
use mathlib.Core.Path.{sym}
use native.Mathlib.Omega.{arith}
use Rattle.varint.proofs.Encoding as Encoding
use Rattle.varint.proofs.size.Goals as goal

pub returns-then-value-lt64 : goal.returns-then-value-lt64
returns-then-value-lt64 c = sym (Encoding.size-one _ (omega arith))

pub returns-then-value-lt16384 : goal.returns-then-value-lt16384
returns-then-value-lt16384 c = sym (Encoding.size-two _ (omega arith) (omega arith))

pub returns-then-value-lt1073741824 : goal.returns-then-value-lt1073741824
returns-then-value-lt1073741824 c = sym (Encoding.size-four _ (omega arith) (omega arith) (omega arith))

pub returns : goal.returns
returns c = sym (Encoding.size-eight _ (omega arith) (omega arith) (omega arith))
