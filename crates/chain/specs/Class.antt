-- The class of a protocol number as the code has it.
use Rattle.std.specs.Prelude.{ℕ, ◌<◌, ◌≡◌, List, get_or}
use Rattle.chain.specs.Chain.{plain, fragment, fours, eights, class_of}
use Rattle.chain.specs.declared.class.Class.{Class}
use Rattle.chain.specs.declared.class.Class.TheVariants.{Plain, Fragment, Fours, Eights}

-- its number in the definitions of `Chain`
abbrev pub number_of : Class → ℕ
number_of Plain = plain
number_of Fragment = fragment
number_of Fours = fours
number_of Eights = eights

-- a table with the class of each protocol number at its place; past its end it may have any, d
pub record Classes (t : List Class) : Type 0 where
  pub each : (n : ℕ) (d : Class) → n < 256 → number_of (get_or t n d) ≡ class_of n
