-- The byte at the place that the callee ensures. Assumes nothing.
use mathlib.Core.Path.{ap, ◌∙◌}
use Prim.Native.Nat.{ℕ}
use lib.ListN.{get_or}
use Rattle.inet.specs.Packet.{hops_of}
use Rattle.inet.proofs.packet.hops.Goals as goal

pub returns : goal.returns
unfolding hops_of
returns c = c.byte_at.ensures ∙ ap (λ (i : ℕ). get_or c.args.packet.now i 0) c.hop_place.ensures
