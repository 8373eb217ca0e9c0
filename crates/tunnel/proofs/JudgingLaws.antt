-- The two sides of a state, picked by where they stand, what they grant to a packet, and the judge's table. Assumes nothing.
use Rattle.std.proofs.Common.{Ok, Err}
use Prim.Native.Nat.{ℕ, ◌+◌, ◌-◌, ◌≤◌}
use mathlib.Core.Path.{◌≡◌, refl, sym, ap, ◌∙◌}
use mathlib.Core.Bool.{Bool, true, false, ◌&&◌}
use mathlib.Core.List.{List, ◌++◌}
use native.Mathlib.Omega.{arith}
use lib.Dec.{ltb}
use lib.ListN.{length, take, drop}
use Rattle.answer.specs.Choice.{pick}
use Rattle.answer.specs.declared.Refusal.TheVariants.{BadForm, HopLimit, NotGranted}
use Rattle.answer.specs.Verdict.{first_of}
use Rattle.octets.specs.Parts.{part}
use Rattle.octets.proofs.Parts.{is-part, length_part}
use Rattle.policy.specs.declared.Flow.{Flow}
use Rattle.policy.specs.Granted.{side_words, side_in, sound_side, flow_of, passes}
use Rattle.state.specs.State.{State, received_at, given_at, state_words, state_in, sound_state, sending_granted, receiving_granted}
use Rattle.state.proofs.StateLaws.{state_facts}
use Rattle.policy.specs.Parts.{flow_with}
use Rattle.policy.proofs.PassLaws.{flow_joined}
use Rattle.inet.specs.Packet.{form, protocol_of, hops_of}
use Rattle.inet.specs.Fronts.{Addressed}
use Rattle.tunnel.specs.Judging.{grants, judge_tests}
use Rattle.tunnel.specs.Tunnel.{send_tests, packet_tests}

-- where the side stands that grants a packet, and the one that grants it as a reply
abbrev pub first_at : Bool → ℕ
first_at sending = pick sending received_at given_at

abbrev pub second_at : Bool → ℕ
second_at sending = pick sending given_at received_at

-- an equation of one arm
pub picked : (m n : ℕ) {b c : Bool} {k : ℕ} → b ≡ c → k ≡ pick c m n → k ≡ pick b m n
picked m n e q = rw e q

-- each starts at most one side in
pub first-within : (b : Bool) {k : ℕ} → k ≡ first_at b → k ≤ side_words
first-within true q = omega (arith, q)
first-within false q = omega (arith, q)

pub second-within : (b : Bool) {k : ℕ} → k ≡ second_at b → k ≤ side_words
second-within true q = omega (arith, q)
second-within false q = omega (arith, q)

-- the words of the side at k
abbrev pub words_from : List ℕ → ℕ → List ℕ
words_from w k = take (k + side_words - k) (drop k w)

words-part : (w : List ℕ) {k n : ℕ} → k ≡ n → words_from w k ≡ part w n side_words
words-part w {k = k} {n = n} q = is-part w k (k + side_words) side_words (omega arith) ∙ ap (λ (i : ℕ). part w i side_words) q

-- they are all there
pub words-enough : (w : List ℕ) {k : ℕ} → k ≤ side_words → state_words ≤ length w → side_words ≤ length (words_from w k)
words-enough w {k = k} h l =
    omega (arith, ap length (words-part w {k = k} refl), length_part w k side_words (omega arith))

-- each keeps its rules in a sound state
module _ (w : List ℕ) (b : Bool) (sound : sound_state (state_in w) ≡ true) where
  sound_at_first : (c : Bool) → sound_side (side_in (part w (first_at c) side_words)) ≡ true
  sound_at_first true = (state_facts (state_in w) sound).received
  sound_at_first false = (state_facts (state_in w) sound).given

  sound_at_second : (c : Bool) → sound_side (side_in (part w (second_at c) side_words)) ≡ true
  sound_at_second true = (state_facts (state_in w) sound).given
  sound_at_second false = (state_facts (state_in w) sound).received

  pub first-sound : {k : ℕ} → k ≡ first_at b → sound_side (side_in (words_from w k)) ≡ true
  first-sound q = ap (λ (l : List ℕ). sound_side (side_in l)) (words-part w q) ∙ sound_at_first b

  pub second-sound : {k : ℕ} → k ≡ second_at b → sound_side (side_in (words_from w k)) ≡ true
  second-sound q = ap (λ (l : List ℕ). sound_side (side_in l)) (words-part w q) ∙ sound_at_second b

-- what the code asks of the policy
granted-at : (w : List ℕ) (b : Bool) (f : Flow) {r : Bool}
    → r ≡ passes (side_in (part w (first_at b) side_words)) (side_in (part w (second_at b) side_words)) f
    → r ≡ grants b (state_in w) f
granted-at w true f q = q
granted-at w false f q = q

pub granted-by : (w : List ℕ) (b : Bool) {j k : ℕ} {f g : Flow} {r : Bool} → j ≡ first_at b → k ≡ second_at b → f ≡ g
    → r ≡ passes (side_in (words_from w j)) (side_in (words_from w k)) f
    → r ≡ grants b (state_in w) g
granted-by w b {k = k} {f = f} i h e q =
    granted-at w b f
    (q
    ∙ ap (λ (l : List ℕ). passes (side_in l) (side_in (words_from w k)) f) (words-part w i)
    ∙ ap (λ (l : List ℕ). passes (side_in (part w (first_at b) side_words)) (side_in l) f) (words-part w h))
    ∙ ap (grants b (state_in w)) e

-- what the front of a packet that carries n is granted, the packet is
pub granted_joined : (b : Bool) (s : State) (front tail : List ℕ) → Addressed front → {n : ℕ} → n ≡ protocol_of (front ++ tail) → {r : Bool}
    → r ≡ grants b s (flow_with n front) → r ≡ grants b s (flow_of (front ++ tail))
granted_joined b s front tail a e q = q ∙ ap (grants b s) (flow_joined front tail a e)

-- ---- down the judge's table

module _ (b : Bool) (s : State) (p : List ℕ) where
  pub judge-bad : form p ≡ false → Err BadForm ≡ first_of (judge_tests b s p)
  unfolding judge_tests
  judge-bad e = rw e

  module _ (e : form p ≡ true) {t : Bool} (f : t ≡ (b && ltb (hops_of p) 2)) where
    pub judge_spent : t ≡ true → Err HopLimit ≡ first_of (judge_tests b s p)
    unfolding judge_tests
    judge_spent k = rw (e, sym f ∙ k)

    module _ (k : t ≡ false) {r : Bool} (g : r ≡ grants b s (flow_of p)) where
      pub judge_denied : r ≡ false → Err NotGranted ≡ first_of (judge_tests b s p)
      unfolding judge_tests
      judge_denied h = rw (e, sym f ∙ k, sym g ∙ h)

      pub judge-go : r ≡ true → (Ok tt) ≡ first_of (judge_tests b s p)
      unfolding judge_tests
      judge-go h = rw (e, sym f ∙ k, sym g ∙ h)

-- ---- the judge's table is the end of those of sending and of receiving

pub judged-sent : (s : State) (p : List ℕ) (n : ℕ) → first_of (judge_tests true s p) ≡ first_of (drop 3 (send_tests s p n))
unfolding judge_tests send_tests sending_granted
judged-sent s p n = refl

pub judged-received : (s : State) (p : List ℕ) → first_of (judge_tests false s p) ≡ first_of (packet_tests s p)
unfolding judge_tests packet_tests receiving_granted
judged-received s p = refl
