-- What writing a number answers and leaves, by its cases. Assumes nothing.
use Rattle.std.proofs.Common.{Ok, Err}
use Prim.Native.Nat.{ℕ, ◌<◌, ◌≤◌}
use mathlib.Core.Path.{◌≡◌, ap}
use mathlib.Core.List.{List}
use borrow.Author.Tests.{lt-ltb, le-ltb, le-leb, lt-leb}
use lib.ListN.{length}
use Rattle.answer.specs.declared.Refusal.TheVariants.{BadAddress, NoRoom}
use Rattle.answer.specs.Verdict.{Writes}
use Rattle.output.specs.Places.{Put}
use Rattle.output.proofs.Placing.{put_front}
use Rattle.varint.specs.Numbers.{limit, room, encode, write_tests, write_verdict}

module _ (v : ℕ) (out : List ℕ) where
  pub no_room : length out < room → Writes (write_verdict v (length out)) (encode v) out (Err NoRoom) out
  unfolding write_verdict write_tests
  no_room h = record { answer = simp (lt-ltb _ _ h); output = simp (lt-ltb _ _ h) }

  module _ (h : room ≤ length out) where
    pub too_large : limit ≤ v → Writes (write_verdict v (length out)) (encode v) out (Err BadAddress) out
    unfolding write_verdict write_tests
    too_large g = record { answer = simp (le-ltb _ _ h, le-leb _ _ g); output = simp (le-ltb _ _ h, le-leb _ _ g) }

    module _ (g : v < limit) where
      pub goes : write_verdict v (length out) ≡ Ok tt
      unfolding write_verdict write_tests
      goes = simp (le-ltb _ _ h, lt-leb _ _ g)

      -- the number put at the front
      pub put : {after : List ℕ} {r : ℕ} → Put (encode v) 0 out r after → Writes (write_verdict v (length out)) (encode v) out (Ok r) after
      put p = let f = put_front p in record { answer = rw goes (ap Ok f.0); output = rw goes f.1 }
