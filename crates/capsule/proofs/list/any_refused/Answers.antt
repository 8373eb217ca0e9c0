-- The IDs of a request pass where they ascend; as many as are counted, an entry took 7 bytes at least, so that the large arrays have room for the others.
use mathlib.Core.Path.{sym}
use native.Mathlib.Omega.{arith}
use Rattle.capsule.proofs.IdLaws as Ids
use Rattle.capsule.proofs.list.any_refused.Goals as goal

pub returns-then-ids_ascend : goal.returns-then-ids_ascend
returns-then-ids_ascend c = sym (c.ids_ascend.ensures c.if-ids_ascend.true)

pub ids_refused_of-requires-2 : goal.ids_refused_of-requires-2
ids_refused_of-requires-2 c =
    record { value_len_bound = c.requires.value_len_bound; ids_counted = c.requires.ids_counted; count_le = omega (arith, c.requires.ids_counted, Ids.length_in c.args.value.now c.requires.value_len_bound); room_le = omega arith }
