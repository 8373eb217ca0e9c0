-- What a branch on `!f(..)` says of the test t that the function f ensures. Assumes nothing.
use mathlib.Core.Bool.{Bool, true, false}
use mathlib.Core.Path.{◌≡◌, sym, ◌∙◌}

pub called_true : {b t : Bool} → b ≡ t → b ≡ true → t ≡ true
called_true {b} e h = sym e ∙ h

pub called_false : {b t : Bool} → b ≡ t → b ≡ false → t ≡ false
called_false {b} e h = sym e ∙ h
