-- The last digit stands behind those that were put before it, or alone.
use Rattle.std.proofs.Common.{◌<◌, sym, ap, arith, ◌-◌, ◌/◌, ◌+◌, ◌%◌, [], ◌∷◌, length, length-append}
use Rattle.output.proofs.Placing.{put_then, put_as}
use Rattle.plan_show.specs.Text.{digits_of}
use Rattle.plan_show.proofs.Digits.{digits_last, digits_more}
use Rattle.plan_show.proofs.text.+put_digits.Goals as goal
use Rattle.plan_show.proofs.text.+put_digits.Goals.{then-n-ge10, else-n-ge10}

pub returns : goal.returns
returns t c =
    let some : 0 < c.args.most = omega (arith, c.if-most-eq0.false) in
    elim c.if-n-ge10.branch [
      | then-n-ge10 w ↦
          put_as (sym (digits_more c.args.most c.args.n some w.if-n-ge10.true))
          (put_then w.put_digits-next.ensures (rw (w.next-is, w.out-is) at c.put_byte.ensures))
      | else-n-ge10 w ↦
          put_as (sym (digits_last c.args.most c.args.n some w.if-n-ge10.false)) (rw (w.next-is, w.out-is) at c.put_byte.ensures)
    ]

pub put_byte-requires : goal.put_byte-requires
put_byte-requires t c =
    let n = c.args.n in
    let some : 0 < c.args.most = omega (arith, c.if-most-eq0.false) in
    elim c.if-n-ge10.branch [
      | then-n-ge10 w ↦
          omega (arith, w.next-is, ap length w.out-is, w.put_digits-next.ensures.place, w.put_digits-next.ensures.kept, ap length (digits_more c.args.most n some w.if-n-ge10.true), length-append (digits_of (c.args.most - 1) (n / 10)) ((48 + n % 10) ∷ []))
      | else-n-ge10 w ↦
          omega (arith, w.next-is, ap length w.out-is, ap length (digits_last c.args.most n some w.if-n-ge10.false))
    ]
