-- Each return is one case of `template_in`.
use Rattle.std.proofs.Common.{◌∙◌}
use Rattle.answer.proofs.Passing.{passed_on}
use Rattle.table.proofs.Calls.{called_true, called_false}
use Rattle.table.proofs.Bodies.{id-stop, id-broken, id-fine, template-fine}
use Rattle.table.proofs.reading.read_template.Goals as goal

pub returns-in_err-number : goal.returns-in_err-number
returns-in_err-number c =
    rw (passed_on _ _ c.from_residual.ensures.1)
    (record { size = c.requires.t_len; told = id-stop c.args.bytes.now c.args.at c.args.previous c.in_err-number.ensures })

pub returns-then-not-id_rule : goal.returns-then-not-id_rule
returns-then-not-id_rule c =
    record {
      size = c.requires.t_len;
      told = id-broken c.args.bytes.now c.args.at c.args.previous c.in_ok-number.ensures (called_false c.id_rule.ensures c.if-not-id_rule.true);
    }

pub returns-in_err-next : goal.returns-in_err-next
returns-in_err-next c =
    let b = c.in_err-next.ensures in
    rw (passed_on _ _ c.from_residual-in_err-next.ensures.1)
    (record {
      size = b.size;
      told = id-fine c.args.bytes.now c.args.at c.args.previous c.in_ok-number.ensures (called_true c.id_rule.ensures c.if-not-id_rule.false) ∙ b.told;
    })

pub returns : goal.returns
returns c =
    template-fine c.args.bytes.now c.args.at c.args.previous c.in_ok-number.ensures (called_true c.id_rule.ensures c.if-not-id_rule.false) c.in_ok-next.ensures
