-- The version of a sound range is 4 or 6. Assumes nothing.
use Rattle.lists.specs.Words.{range_at}
use Rattle.lists.proofs.RunLaws as Law
use Rattle.lists.proofs.run_behind.Goals as goal

pub run6-requires : goal.run6-requires
run6-requires c =
    let a = c.args in
    let p = c.requires.range_j_sound in
    record { route_words_in_bounds = c.requires.route_words_in_bounds; j_in_list = c.requires.j_in_list; range_j_sound = (p.0, Law.not_four (range_at a.w.now a.j) a.version p.0 p.1 c.if-version-eq4.false) }
