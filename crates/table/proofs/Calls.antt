-- What a branch on `!f(..)` says of the test t that the function f ensures. Assumes nothing.
use Rattle.std.proofs.Common.{Bool, true, false, ◌≡◌, sym, ◌∙◌}

pub called_true : {b t : Bool} → b ≡ t → b ≡ true → t ≡ true
called_true e h = sym e ∙ h

pub called_false : {b t : Bool} → b ≡ t → b ≡ false → t ≡ false
called_false e h = sym e ∙ h
