-- The Context ID, and behind it the bytes outside the segments of the packet with the seed, are the short form: `put-short`. Assumes nothing.
use Prim.Native.Nat.{◌-◌, ◌≤◌}
use mathlib.Core.Path.{◌≡◌}
use native.Mathlib.Omega.{arith}
use lib.ListN.{length, take, drop}
use Rattle.tunnel.proofs.SendingSteps.{id_below, id-room, short_fillable, front-inside, behind, short_shortenable, put-short}
use Rattle.tunnel.proofs.sending.put_short.Goals as goal
use Rattle.tunnel.proofs.sending.put_short.Goals.{After-put_seed}

rest : (c : After-put_seed) → take (length c.args.packet.now - length c.put_seed.new.front) (drop (length c.put_seed.new.front) c.args.packet.now) ≡ drop (length c.args.front.now) c.args.packet.now
rest c = behind c.args.packet.now c.args.front.now c.put_seed.new.front c.put_seed.auto.front

inside : (c : After-put_seed) → length c.put_seed.new.front ≤ length c.args.packet.now
inside c = omega (arith, front-inside _ _ _ _ _ c.requires, c.put_seed.auto.front)

pub put_number-at-requires : goal.put_number-at-requires
put_number-at-requires c = record { room = id-room _ _ _ _ _ c.requires _; value_lt_limit = id_below _ c.head.ensures c.requires.usable }

pub put_seed-requires : goal.put_seed-requires
put_seed-requires c = short_fillable _ _ _ _ _ c.requires

pub slice_bounds-shorten-count : goal.slice_bounds-shorten-count
slice_bounds-shorten-count c = inside (goal.at.slice_bounds-shorten-count c).After-put_seed

pub slice_bounds-shorten-start : goal.slice_bounds-shorten-start
slice_bounds-shorten-start c = inside (goal.at.slice_bounds-shorten-start c).After-put_seed

pub shorten-requires : goal.shorten-requires
shorten-requires c =
    short_shortenable _ _ _ _ _ c.requires c.head.ensures c.put_number-at.ensures c.put_seed.ensures (rest (goal.at.shorten-requires c).After-put_seed)

pub returns : goal.returns
returns c =
    put-short _ _ _ _ _ c.requires c.head.ensures c.put_number-at.ensures c.put_seed.ensures (rest (goal.at.returns c).After-put_seed) c.shorten.ensures
