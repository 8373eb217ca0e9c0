-- Each return is one step of `template_fault`: past the ID every fault is the same.
use Rattle.table.proofs.Calls.{called_true, called_false}
use Rattle.table.proofs.Judging.{template-id, template-over, template_pair, template-broken, template-sound}
use Rattle.table.proofs.judge.template_fault.Goals as goal

pub returns-then-not-id_rule : goal.returns-then-not-id_rule
returns-then-not-id_rule c =
    template-id c.args.previous c.args.t.now c.requires.head_is_of_t (called_false c.id_rule.ensures c.if-not-id_rule.true)

pub returns-then-head-gt-MAX_SEGMENTS : goal.returns-then-head-gt-MAX_SEGMENTS
returns-then-head-gt-MAX_SEGMENTS c =
    template-over c.args.previous c.args.t.now c.requires.head_is_of_t
    (called_true c.id_rule.ensures c.if-not-id_rule.false) c.if-head-gt-MAX_SEGMENTS.true

pub returns-then-not-pair_sound : goal.returns-then-not-pair_sound
returns-then-not-pair_sound c =
    template_pair c.args.previous c.args.t.now c.requires.head_is_of_t
    (called_true c.id_rule.ensures c.if-not-id_rule.false)
    c.if-head-gt-MAX_SEGMENTS.false (called_false c.pair_sound.ensures c.if-not-pair_sound.true)

pub returns-then-not-segments_sound : goal.returns-then-not-segments_sound
returns-then-not-segments_sound c =
    template-broken c.args.previous c.args.t.now c.requires.head_is_of_t
    (called_true c.id_rule.ensures c.if-not-id_rule.false)
    c.if-head-gt-MAX_SEGMENTS.false (called_true c.pair_sound.ensures c.if-not-pair_sound.false)
    (called_false c.segments_sound.ensures c.if-not-segments_sound.true)

pub returns : goal.returns
returns c =
    template-sound c.args.previous c.args.t.now c.requires.head_is_of_t
    (called_true c.id_rule.ensures c.if-not-id_rule.false)
    c.if-head-gt-MAX_SEGMENTS.false (called_true c.pair_sound.ensures c.if-not-pair_sound.false)
    (called_true c.segments_sound.ensures c.if-not-segments_sound.false)
