-- Each return is a case of `head_of`: no type, no length, or both, whose sizes are at most 8.
use native.Mathlib.Omega.{arith}
use mathlib.Core.Path.{sym, ◌∙◌}
use Rattle.octets.proofs.Parts as Parts
use Rattle.varint.proofs.Reading as Number
use Rattle.octets.specs.Big.{Bytes}
use Rattle.capsule.proofs.HeadLaws as Head
use Rattle.capsule.proofs.read_head.Goals as goal

pub slice_bounds-read-count : goal.slice_bounds-read-count
slice_bounds-read-count c = (Number.taken c.args.s.now _ _ (sym c.read.ensures.reading ∙ c.in_ok-kind.was)).within

pub slice_bounds-read-start : goal.slice_bounds-read-start
slice_bounds-read-start c = (Number.taken c.args.s.now _ _ (sym c.read.ensures.reading ∙ c.in_ok-kind.was)).within

pub overflow_add-result : goal.overflow_add-result
overflow_add-result c = let s = c.args.s.now in let h : Bytes s = λ i. omega (arith, c.type_inv.s i) in let p = Head.sizes s h _ _ _ _ (sym c.read.ensures.reading ∙ c.in_ok-kind.was) (rw Parts.tail at (sym c.read-2.ensures.reading ∙ c.in_ok-length.was)) in omega (arith, p.0, p.1)

pub returns : goal.returns
returns c = let s = c.args.s.now in let h : Bytes s = λ i. omega (arith, c.type_inv.s i) in Head.known s h _ _ _ _ (sym c.read.ensures.reading ∙ c.in_ok-kind.was) (rw Parts.tail at (sym c.read-2.ensures.reading ∙ c.in_ok-length.was))

pub returns-in_err-length : goal.returns-in_err-length
returns-in_err-length c = let s = c.args.s.now in let h : Bytes s = λ i. omega (arith, c.type_inv.s i) in rw c.from_residual-in_err-length.ensures (Head.no_length s h _ _ (sym c.read.ensures.reading ∙ c.in_ok-kind.was) (rw Parts.tail at (sym c.read-2.ensures.reading ∙ c.in_err-length.was)))

pub returns-in_err-kind : goal.returns-in_err-kind
returns-in_err-kind c = let s = c.args.s.now in let h : Bytes s = λ i. omega (arith, c.type_inv.s i) in rw c.from_residual.ensures (Head.no-type s h (sym c.read.ensures.reading ∙ c.in_err-kind.was))
