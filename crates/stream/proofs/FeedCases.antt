-- A call by what is tested first: too small an output, a state or a store that breaks its rules, a refusal that is remembered; and else what the
-- store makes of the bytes. Assumes nothing.
use Rattle.std.proofs.Common.{Result, Ok, Err}
use Prim.Native.Nat.{ℕ, zero, suc, ◌+◌, ◌≤◌, ◌<◌}
use mathlib.Core.Bool.{true}
use mathlib.Core.Path.{◌≡◌, refl, sym, ap, ◌∙◌}
use mathlib.Core.List.{List}
use native.Mathlib.Omega.{arith}
use lib.ListN.{length, get_or}
use lib.Seq.{length-take-le}
use Rattle.answer.specs.declared.Refusal.{Refusal}
use Rattle.answer.specs.Number.{verdict_number}
use Rattle.state.specs.State.{store_at, state_words}
use Rattle.stream.specs.declared.feeding.Piece.{Piece}
use Rattle.stream.specs.Store.{Store, sound_store, on_skip, feed_open, feed_live, feed_store}
use Rattle.stream.specs.Feeding.{kept_size, remembered_by, store_in, fed, feed_verdict, Feeds}
use Rattle.stream.specs.Inner.{Moves, Goes, Collecting}
use Rattle.stream.proofs.StoreLaws.{remembered-number, stored_same}
use Rattle.stream.proofs.StepLaws.{store_open}
use Rattle.stream.proofs.CallLaws.{repeats-store}
use Rattle.stream.proofs.CodeLaws.{same-front, goes-skip}

module _ (w held t before l : List ℕ) where
  -- a refusal that changes nothing
  pub feeds_stop : {why : Refusal} {r : Result Piece Refusal} → feed_verdict w held (length before) ≡ Err why → r ≡ Err why → Feeds w held t before l r w held before l
  feeds_stop e q = record { answer = rw e q; state = rw e; bytes = rw e; output = rw e; requested = rw e }

  module _ (go : feed_verdict w held (length before) ≡ Ok tt) where
    pub feeds_goes : {r : Result Piece Refusal} {later holds after list : List ℕ} → Goes (fed w held t) w held before l r later holds after list
        → Feeds w held t before l r later holds after list
    feeds_goes f =
        record {
          answer = rw go f.moves.answer;
          state = rw go f.moves.state;
          bytes = rw go f.bytes;
          output = rw go f.output;
          requested = rw go f.requested;
        }

    -- a capsule that is skipped
    skips : (k : Store) → 0 < k.skip → k.stopped ≡ Ok tt → feed_store k t ≡ on_skip k.skip (length t)
    unfolding feed_store
    skips k h e = ap (feed_live k t) e ∙ of k.skip h
      where
        of : (n : ℕ) → 0 < n → feed_open k t n ≡ on_skip n (length t)
        of zero h = absurd (omega arith)
        of (suc n) h = refl

    pub feeds_skip : {r : Result Piece Refusal} {later : List ℕ} → remembered_by (get_or w (store_at + 2) 0) ≡ Ok tt → 0 < get_or w (store_at + 1) 0
        → Moves (on_skip (get_or w (store_at + 1) 0) (length t)) w r later → Feeds w held t before l r later held before l
    feeds_skip e h f = feeds_goes (rw (skips (store_in w held) h e) (goes-skip (get_or w (store_at + 1) 0) (length t) f))

    -- a refusal that is remembered
    module _ (size : length w ≡ state_words) (sound : sound_store (store_in w held) ≡ true) (within : get_or w store_at 0 ≤ length held) where
      pub feeds_repeat : {why : Refusal} {r : Result Piece Refusal} → remembered_by (get_or w (store_at + 2) 0) ≡ Err why → r ≡ Err why
          → Feeds w held t before l r w held before l
      feeds_repeat {why} {r} e q =
          feeds_goes
          (rw (repeats-store (store_in w held) t why e)
          (record {
            moves =
                record {
                  answer = q;
                  state =
                      sym
                      (stored_same w size (store_in w held) (length-take-le (get_or w store_at 0) held within) refl
                      (remembered-number (get_or w (store_at + 2) 0) (store_open (store_in w held) sound).stop));
                };
            bytes = same-front (get_or w store_at 0) held within;
            output = refl;
            requested = refl;
          }))

-- no refusal is remembered
pub live-word : (w held : List ℕ) → sound_store (store_in w held) ≡ true → remembered_by (get_or w (store_at + 2) 0) ≡ Ok tt → get_or w (store_at + 2) 0 ≡ 0
live-word w held h e = sym (remembered-number (get_or w (store_at + 2) 0) (store_open (store_in w held) h).stop) ∙ ap verdict_number e

pub ready : (w held : List ℕ) → length w ≡ state_words → length held ≡ kept_size → sound_store (store_in w held) ≡ true → get_or w store_at 0 < kept_size
    → remembered_by (get_or w (store_at + 2) 0) ≡ Ok tt → get_or w (store_at + 1) 0 ≤ 0 → Collecting w held
ready w held size room sound within e h =
    record {
      live =
          record {
            size = size;
            skip = omega arith;
            stopped = live-word w held sound e;
          };
      sound = sound;
      within = within;
      room = room;
    }
