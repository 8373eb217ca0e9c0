-- The two stores are those of `put16`. Assumes nothing.
use mathlib.Core.Path.{refl}
use Rattle.inet.specs.Packet.{put16}
use Rattle.inet.proofs.field.put_word.Goals as goal

pub returns : goal.returns
unfolding put16
returns c = refl
