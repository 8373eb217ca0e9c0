-- The loop of `put_static`: the static bytes of the positions before k are put. Assumes nothing.
use Prim.Native.Nat.{ℕ, ◌+◌, ◌-◌, ◌≤◌, ◌<◌}
use mathlib.Core.Path.{◌≡◌, refl, sym, ap, ◌∙◌}
use mathlib.Core.List.{List, [], ◌∷◌}
use native.Mathlib.Omega.{arith}
use lib.ListN.{length, set}
use Rattle.octets.proofs.Scans.{from_more, from_end}
use Rattle.output.specs.Places.{Put}
use Rattle.output.proofs.Placing.{put_set, Putting, putting_none, putting_more, putting_done}
use Rattle.table.specs.Words.{byte_at, window}

pub record Filling (t : List ℕ) (from to : ℕ) (before out : List ℕ) (k : ℕ) : Type 0 where
  pub below : k ≤ to
  pub put : Putting (window t k (to - k)) (window t from (to - from)) from before k out

module _ (t : List ℕ) (from to : ℕ) (before : List ℕ) where
  pub filling_none : from ≤ to → Filling t from to before before from
  filling_none h = record { below = h; put = putting_none refl }

  module _ {out : List ℕ} {k : ℕ} (p : Filling t from to before out k) where
    pub filling_same : length out ≡ length before
    filling_same = p.put.put.kept

    pub filling_more : {x : ℕ} → k < to → to ≤ length before → x ≡ byte_at t k → Filling t from to before (set out k x) (k + 1)
    filling_more {x} h room e =
        record {
          below = omega arith;
          put = putting_more p.put {v = x ∷ []} (from_more (byte_at t) k to h ∙ ap (λ (b : ℕ). b ∷ window t (k + 1) (to - (k + 1))) (sym e)) (put_set x k out (omega (arith, filling_same)));
        }

    pub filling_done : to ≤ k → Put (window t from (to - from)) from before to out
    filling_done h =
        let e : k ≡ to = omega (arith, p.below) in
        rw e at (putting_done p.put (from_end (byte_at t) k to h))
