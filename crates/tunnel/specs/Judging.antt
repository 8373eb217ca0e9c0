-- The judge of a packet: the last tests of sending and of receiving are one table.
use Rattle.std.specs.Prelude.{Bool, not, ◌&&◌, List, [], ◌∷◌, ℕ, ltb}
use Rattle.answer.specs.Choice.{pick}
use Rattle.answer.specs.declared.Refusal.TheVariants.{BadForm, HopLimit, NotGranted}
use Rattle.answer.specs.Verdict.{Test, ◌⇒◌}
use Rattle.inet.specs.Packet.{form, hops_of}
use Rattle.policy.specs.declared.Flow.{Flow}
use Rattle.policy.specs.Granted.{flow_of, passes}
use Rattle.state.specs.State.{State}

-- what a state grants to a flow: sending by what was received, or as a reply by what was given; receiving the other way round
abbrev pub grants : Bool → State → Flow → Bool
grants sending s f = pick sending (passes s.received s.given f) (passes s.given s.received f)

-- the reasons not to send the packet p on, or else not to take it in
unfoldable pub judge_tests : Bool → State → List ℕ → List Test
judge_tests sending s p =
    (not (form p) ⇒ BadForm) ∷ ((sending && ltb (hops_of p) 2) ⇒ HopLimit) ∷ (not (grants sending s (flow_of p)) ⇒ NotGranted) ∷ []
