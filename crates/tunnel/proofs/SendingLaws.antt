-- What an `Ok` of sending says, both ways. Assumes nothing.
use Rattle.std.proofs.Common.{Ok}
use Prim.Native.Nat.{ℕ, ◌≤◌}
use mathlib.Core.Path.{◌≡◌}
use mathlib.Core.Bool.{true, false}
use mathlib.Core.List.{List}
use borrow.Author.Tests.{ltb-false, le-ltb, not-false}
use lib.Dec.{lit<}
use lib.ListN.{length}
use Rattle.answer.specs.declared.Refusal.TheVariants.{NoRoom}
use Rattle.answer.specs.Verdict.{◌⇒◌}
use Rattle.answer.proofs.Tables.{go-at}
use Rattle.inet.specs.Packet as Packet
use Rattle.state.specs.State.{State, sound_state, sending_granted}
use Rattle.template.specs.Datagrams.{max_packet}
use Rattle.tunnel.specs.Tunnel.{send_room, send_tests, send_verdict}

-- what an `Ok` to send the packet p to an output of n bytes says
pub record SendGo (s : State) (p : List ℕ) (n : ℕ) : Type 0 where
  pub roomy : send_room ≤ n
  pub sound : sound_state s ≡ true
  pub short : length p ≤ max_packet
  pub form : Packet.form p ≡ true
  pub hops : 2 ≤ Packet.hops_of p
  pub granted : sending_granted s p ≡ true

module _ (s : State) (p : List ℕ) (n : ℕ) where
  pub send_go : send_verdict s p n ≡ Ok tt → SendGo s p n
  unfolding send_verdict send_tests
  send_go e =
      let failed = go-at (send_tests s p n) (false ⇒ NoRoom) in
      record {
        roomy = ltb-false _ _ (failed 0 e (lit< tt));
        sound = not-false _ (failed 1 e (lit< tt));
        short = ltb-false _ _ (failed 2 e (lit< tt));
        form = not-false _ (failed 3 e (lit< tt));
        hops = ltb-false _ _ (failed 4 e (lit< tt));
        granted = not-false _ (failed 5 e (lit< tt));
      }

  pub go_send : SendGo s p n → send_verdict s p n ≡ Ok tt
  unfolding send_verdict send_tests
  go_send g =
      simp (le-ltb _ _ g.roomy, g.sound, le-ltb _ _ g.short, g.form, le-ltb _ _ g.hops, g.granted)
