-- The table of classes, as the code writes it: those that name a header, in a table of those that name none. Assumes nothing.
use mathlib.Core.List.{List}
use lib.ListN.{set}
use Rattle.std.specs.Prelude.{replicate}
use Rattle.chain.specs.declared.class.Class.{Class}
use Rattle.chain.specs.declared.class.Class.TheVariants.{Plain, Fragment, Fours, Eights}

unfoldable pub class_table : List Class
class_table = set (set (set (set (set (set (replicate 256 Plain) 0 Eights) 43 Eights) 44 Fragment) 51 Fours) 60 Eights) 135 Eights
