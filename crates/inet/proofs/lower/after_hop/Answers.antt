-- Both the code and `after_hop` are 256 more, modulo 65535 (`after_hop_more`). Assumes nothing.
use mathlib.Core.Path.{◌≡◌, sym, ◌∙◌}
use Prim.Native.Nat.{ℕ, ◌+◌, ◌%◌, ◌≤◌}
use native.Mathlib.Omega.{arith}
use Rattle.inet.specs.Sum.{fold}
use Rattle.inet.specs.Update.{after_hop}
use Rattle.inet.specs.UpdateLaws.{after_hop_more}
use Rattle.inet.proofs.lower.after_hop.Goals as goal

is-after-hop : (hc r : ℕ) → hc ≤ 65535 → r ≡ (hc + 256) % 65535 → r ≡ after_hop hc
is-after-hop hc r h e = e ∙ sym (after_hop_more hc h)

pub returns : goal.returns
unfolding fold
returns c = (is-after-hop c.args.hc _ c.requires (omega arith), omega arith)
