-- The copy's front is the packet, so the callees' `requires` are facts of the packet, and what they leave there is `lowered`. Assumes nothing.
use native.Mathlib.Omega.{arith}
use Rattle.inet.proofs.FormFacts.{is_headed6}
use Rattle.inet.proofs.LoweredLaws.{front_4, front_6, lower_steps_4, lower_steps_6}
use Rattle.inet.proofs.lower.lower_into.Goals as goal

pub lower4-requires : goal.lower4-requires
lower4-requires c =
    let f = front_4 c.args.packet.now _ _ c.copy.ensures.dst_after c.requires.good c.requires.hops (omega arith) in
    record { headed4 = f.0; bound = f.1 }

pub lower6-requires : goal.lower6-requires
lower6-requires c =
    front_6 c.args.packet.now _ _ c.copy.ensures.dst_after c.requires.good c.requires.hops (λ e. omega arith)

pub returns-then-version-eq4 : goal.returns-then-version-eq4
returns-then-version-eq4 c =
    lower_steps_4 c.args.packet.now _ _ c.copy.ensures.dst_after _ (omega arith) c.lower4.ensures

pub returns-else-version-eq4 : goal.returns-else-version-eq4
returns-else-version-eq4 c =
    let f = is_headed6 _ c.requires.good (λ e. omega arith) in
    lower_steps_6 c.args.packet.now _ _ c.copy.ensures.dst_after _ f.six c.lower6.ensures
