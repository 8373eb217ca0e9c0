-- What the search in the lowered front found says which form the datagram is: `datagram-full`, `datagram-short`. Assumes nothing.
use Prim.Native.Nat.{ℕ}
use mathlib.Core.Path.{◌≡◌, sym}
use mathlib.Core.List.{List}
use native.Mathlib.Omega.{arith}
use lib.ListN.{length, take}
use Rattle.inet.specs.Packet.{lowered}
use Rattle.table.specs.Words.{words_at}
use Rattle.template.specs.Usable.{Fronted, ChosenAt}
use Rattle.tunnel.specs.Sending.{Shortable}
use Rattle.tunnel.proofs.SendingSteps.{front-size, front_lowerable, front-count, front_fronted, chosen_shortable, datagram-full, datagram-short}
use Rattle.tunnel.proofs.sending.put_searched.Goals as goal
use Rattle.tunnel.proofs.sending.put_searched.Goals.{After-lower_into, In-Some}

counted : (c : After-lower_into) → c.min-n.result ≡ length ((take c.min-n.result c.lower_into.new.image))
counted c = front-count c.args.packet.now c.min-n.ensures c.requires.sendable _ c.lower_into.ensures

fronted : (c : After-lower_into) → Fronted ((take c.min-n.result c.lower_into.new.image)) c.args.packet.now
fronted c = front_fronted c.args.packet.now c.min-n.ensures c.requires.sendable _ c.lower_into.ensures

shortable : (c : After-lower_into) (i v : ℕ) {t : List ℕ} → ChosenAt c.args.table.now (lowered c.args.packet.now) i v
    → t ≡ words_at c.args.table.now i → Shortable t v ((take c.min-n.result c.lower_into.new.image)) c.args.packet.now c.args.out.now
shortable c i v f e = chosen_shortable c.args.packet.now c.min-n.ensures c.requires.sendable _ c.lower_into.ensures i v f e

chosen : (c : In-Some) → ChosenAt c.args.table.now (lowered c.args.packet.now) c.in-Some.fit.place c.in-Some.fit.seed
chosen c = c.in-Some.ensures

pub slice_bounds-lower_into-end : goal.slice_bounds-lower_into-end
slice_bounds-lower_into-end c = sym (front-size c.args.packet.now c.min-n.ensures)

pub lower_into-requires : goal.lower_into-requires
lower_into-requires c = front_lowerable c.args.packet.now c.min-n.ensures c.requires.sendable _ (omega arith)

pub slice_bounds-find-end : goal.slice_bounds-find-end
slice_bounds-find-end c = counted (goal.at.slice_bounds-find-end c).After-lower_into

pub find-requires : goal.find-requires
find-requires c = record { table_words_in_bounds = c.requires.table_words_in_bounds; usable = c.requires.sendable.usable; fronted = fronted (goal.at.find-requires c).After-lower_into }

pub template_at-t-requires : goal.template_at-t-requires
template_at-t-requires c =
    record { table_words_in_bounds = c.requires.table_words_in_bounds; usable = c.requires.sendable.usable; i_in_use = (chosen (goal.at.template_at-t-requires c).In-Some).within }

pub slice_bounds-put_short-end : goal.slice_bounds-put_short-end
slice_bounds-put_short-end c = counted (goal.at.slice_bounds-put_short-end c).After-lower_into

pub put_short-requires : goal.put_short-requires
put_short-requires c =
    shortable (goal.at.put_short-requires c).After-lower_into c.in-Some.fit.place c.in-Some.fit.seed (chosen (goal.at.put_short-requires c).In-Some) c.template_at-t.ensures

pub returns-in_default : goal.returns-in_default
returns-in_default c = datagram-full _ _ _ c.in_default.ensures c.put_plain.ensures

pub returns : goal.returns
returns c =
    datagram-short _ _ _ c.in-Some.fit.place c.in-Some.fit.seed (chosen (goal.at.returns c).In-Some) c.template_at-t.ensures c.put_short.ensures
