-- The words from start on, the field's own taken away, and the seed fold as the words with the seed in the field: `summed`. Assumes nothing.
use mathlib.Core.Path.{sym}
use native.Mathlib.Omega.{arith}
use Rattle.template.proofs.CompletionLaws.{seed-fits, Summed, summed, completion-udp, completion-other, completion_nonzero}
use Rattle.template.proofs.checksum.completion.Goals as goal
use Rattle.template.proofs.checksum.completion.Goals.{After-sum_bytes-all, else-v-eq0-via-then-v-eq0+else-protocol_byte-eq17, else-v-eq0-via-else-v-eq0}

the_sum : (c : After-sum_bytes-all) → Summed c.args.packet.now c.args.field c.args.start c.args.first c.word-own.result c.sum_bytes-all.result
the_sum c =
    summed _ _ _ c.requires.sum_place c.requires.field_and_seed.0 c.requires.field_and_seed.1 c.byte_at-hi.ensures c.byte_at-lo.ensures c.word-own.ensures.0 c.word-own.ensures.1 c.sum_bytes-all.ensures.0

pub overflow_add-all-2 : goal.overflow_add-all-2
overflow_add-all-2 c = omega (arith, seed-fits c.args.start c.args.packet.now)

pub returns-then-protocol_byte-eq17 : goal.returns-then-protocol_byte-eq17
returns-then-protocol_byte-eq17 c =
    (sym (completion-udp _ _ _ c.requires.sum_place (the_sum (goal.at.returns-then-protocol_byte-eq17 c).After-sum_bytes-all) c.folded-v.ensures.0 (omega arith) (omega arith)), omega arith)

pub returns-else-v-eq0 : goal.returns-else-v-eq0
returns-else-v-eq0 c =
    let s = the_sum (goal.at.returns-else-v-eq0 c).After-sum_bytes-all in
    elim c.else-v-eq0.branch [
      | else-v-eq0-via-then-v-eq0+else-protocol_byte-eq17 w ↦
          (sym (completion-other _ _ _ c.requires.sum_place s c.folded-v.ensures.0 (λ e. omega arith)), omega arith)
      | else-v-eq0-via-else-v-eq0 w ↦ (sym (completion_nonzero _ _ _ c.requires.sum_place s c.folded-v.ensures.0 (λ e. omega arith)), omega arith)
    ]
