-- By version. Assumes nothing.
use mathlib.Core.Path.{sym}
use native.Mathlib.Omega.{arith}
use Rattle.inet.proofs.HeaderLaws.{hop_place_4, hop_place_not_4}
use Rattle.inet.proofs.packet.hop_place.Goals as goal

pub returns-then-version-eq4 : goal.returns-then-version-eq4
returns-then-version-eq4 c = sym (hop_place_4 _ (omega arith))

pub returns-else-version-eq4 : goal.returns-else-version-eq4
returns-else-version-eq4 c = sym (hop_place_not_4 _ (λ e. omega arith))
