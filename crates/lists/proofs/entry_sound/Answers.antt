-- Each return is a case of `sound_entry`, by the version: an IPv4 address is below 2^32, then the prefix decides.
use mathlib.Core.Path.{◌∙◌}
use native.Mathlib.Omega.{arith}
use Rattle.lists.proofs.EntryRule as Entry
use Rattle.lists.proofs.Calls.{called_true, called_false}
use Rattle.lists.proofs.entry_sound.Goals as goal

pub returns-then-below : goal.returns-then-below
returns-then-below c =
    c.prefix_sound.ensures
    ∙ Entry.ipv4_prefix _ c.if-e-lt-LIMIT.true c.in-4.is (called_true c.below.ensures c.if-below.true)

pub returns-else-below : goal.returns-else-below
returns-else-below c =
    c.if-below.false
    ∙ Entry.ipv4_address_over _ c.if-e-lt-LIMIT.true c.in-4.is (called_false c.below.ensures c.if-below.false)

pub returns-in-6 : goal.returns-in-6
returns-in-6 c = c.prefix_sound-in-6.ensures ∙ Entry.ipv6_prefix _ c.if-e-lt-LIMIT.true c.in-6.is

pub returns-in_default : goal.returns-in_default
returns-in_default c = Entry.other-version _ c.if-e-lt-LIMIT.true (λ e. omega arith) (λ e. omega arith)

pub returns-else-e-lt-LIMIT : goal.returns-else-e-lt-LIMIT
returns-else-e-lt-LIMIT c = Entry.id-over _ c.if-e-lt-LIMIT.false
