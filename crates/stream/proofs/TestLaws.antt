-- What is tested first: too small an output, then lists and templates, then the store. Assumes nothing.
use Rattle.std.proofs.Common.{Ok, Err}
use Prim.Native.Nat.{ℕ, ◌≤◌, ◌<◌}
use mathlib.Core.Bool.{true, false}
use mathlib.Core.Path.{◌≡◌}
use mathlib.Core.List.{List}
use borrow.Author.Tests.{lt-ltb, le-ltb}
use Rattle.answer.specs.declared.Refusal.TheVariants.{BrokenState, NoRoom}
use Rattle.capsule.specs.Capsules.{max_value}
use Rattle.state.specs.State.{state_in, sound_state}
use Rattle.stream.specs.Store.{sound_store}
use Rattle.stream.specs.Feeding.{store_in, feed_tests, feed_verdict}

module _ (w held : List ℕ) (n : ℕ) where
  pub verdict-room : n < max_value → feed_verdict w held n ≡ Err NoRoom
  unfolding feed_tests
  verdict-room h = rw (lt-ltb n max_value h)

  module _ (room : max_value ≤ n) where
    pub verdict-state : sound_state (state_in w) ≡ false → feed_verdict w held n ≡ Err BrokenState
    unfolding feed_tests
    verdict-state e = rw (le-ltb n max_value room, e)

    module _ (sound : sound_state (state_in w) ≡ true) where
      pub verdict-store : sound_store (store_in w held) ≡ false → feed_verdict w held n ≡ Err BrokenState
      unfolding feed_tests
      verdict-store e = rw (le-ltb n max_value room, sound, e)

      pub verdict-go : sound_store (store_in w held) ≡ true → feed_verdict w held n ≡ Ok tt
      unfolding feed_tests
      verdict-go e = rw (le-ltb n max_value room, sound, e)
