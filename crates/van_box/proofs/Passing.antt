-- Records one after the other: a record answered is one more, and what waits stays the end of the answers. Assumes nothing.
use Prim.Native.Nat.{ℕ, zero, suc, ◌+◌, ◌-◌, ◌<◌, ◌≤◌}
use mathlib.Core.Bool.{Bool, true, false}
use mathlib.Core.Logic.{⊎_elim}
use mathlib.Core.Path.{◌≡◌, refl, sym, ap, ◌∙◌}
use mathlib.Core.List.{List, [], ◌∷◌, ◌++◌, append_assoc, append-nil}
use native.Mathlib.Nat.{sub-zero}
use native.Mathlib.Omega.{arith}
use lib.Dec.{ltb}
use lib.ListN.{length, get_or, take, drop}
use lib.Seq.{get_or-drop, drop-drop, take-take, take-nil}
use Rattle.answer.specs.Choice.{pick}
use Rattle.output.specs.Places.{Put}
use Rattle.van_box.specs.declared.outgoing.Output.{Output}
use Rattle.van_box.specs.declared.Answered.{Answered}
use Rattle.van_box.specs.declared.Between.{Between}
use Rattle.van_box.specs.Sizes.{record_head}
use Rattle.van_box.specs.Incoming.{Fills, stated_size, record_size, Sized, Keeps}
use Rattle.van_box.specs.Outgoing.{Flushes, MakesRoom}
use Rattle.van_box.specs.Records.{Memory, outcome, Answers}
use Rattle.van_box.specs.Passing.{Sound, record_outcome, none, more, Waiting, Passing, AnswersAll, Turns}
use Rattle.van_box.proofs.Heads.{put-within}

-- a size without a head is none
pub size_none : (s : List ℕ) (at : ℕ) {r : ℕ} → Sized s at r → r < record_head → record_size (drop at s) ≡ 0
unfolding record_size
size_none s at {r} z h = of (ltb (length (drop at s)) record_head) (ltb (length (drop at s)) (stated_size (drop at s))) (omega (arith, z.size))
  where
    of : (a b : Bool) → pick a 0 (pick b 0 (stated_size (drop at s))) < record_head → pick a 0 (pick b 0 (stated_size (drop at s))) ≡ 0
    of true b g = refl
    of false true g = refl
    of false false g = absurd (omega arith)

-- an output that is not open
pub closed : (s : List ℕ) {b : Bool} → b ≡ false → b ≡ true → record_size s ≡ 0
closed s e f = let z : ◌≡◌ {A = ℕ} 0 1 = cc in absurd (omega arith)

-- the record at a place, as its parts are taken
record_at : (m : Memory) (s : List ℕ) (at n : ℕ) → n ≡ record_size (drop at s)
    → outcome (get_or s at 0) m (take (at + n - (at + record_head)) (drop (at + record_head) s)) ≡ record_outcome m (drop at s)
record_at m s at n e =
    let k : at + n - (at + record_head) ≡ record_size (drop at s) - record_head = omega arith in
    let d : get_or (drop at s) 0 0 ≡ get_or s at 0 = get_or-drop at s 0 0 ∙ (let z : at + 0 ≡ at = omega arith in rw z) in
    rw (d, k, drop-drop record_head at s)

-- ---- what waits
pub waiting_none : (o : Output) (out : List ℕ) → o.used ≡ 0 → Waiting [] o out
waiting_none o out e = record { gone = []; rest = rw e; within = omega arith }

module _ {answers : List ℕ} {o : Output} {out : List ℕ} (t : Waiting answers o out) where
  waiting-room : {r : Output} {after : List ℕ} → MakesRoom o out r after → Waiting answers r after
  waiting-room {r} {after} m =
      ⊎_elim
      (λ e. record { gone = answers; rest = rw e (append-nil answers); within = omega (arith, m.room) })
      (λ e.
      record {
        gone = t.gone;
        rest =
            ap (λ (n : ℕ). t.gone ++ take n after) e ∙ ap (λ (l : List ℕ). t.gone ++ take o.used l) m.same ∙ t.rest;
        within = omega (arith, m.room);
      })
      m.waits

  waiting-more : {a : List ℕ} {r : Output} {after : List ℕ} → Put a o.used out r.used after → Waiting (answers ++ a) r after
  waiting-more {a} p =
      record {
        gone = t.gone;
        rest =
            ap (λ (x : List ℕ). t.gone ++ x) p.front
            ∙ sym (append_assoc t.gone (take o.used out) a)
            ∙ ap (λ (x : List ℕ). x ++ a) t.rest;
        within = put-within t.within p;
      }

-- ---- the records
pub passing-none : (m : Memory) (s : List ℕ) (o : Output) (out : List ℕ) → o.used ≡ 0 → Passing m s o 0 m out
passing-none m s o out e = record { answers = []; passed = none; waiting = waiting_none o out e; within = omega arith }

module _ {m : Memory} {s : List ℕ} {o : Output} {at : ℕ} {now : Memory} {out : List ℕ} (t : Passing m s o at now out) where
  pub passing-more : {n : ℕ} {room r : Output} {mid : List ℕ} {later : Memory} {after : List ℕ} → Sized s at n → record_head ≤ n → MakesRoom o out room mid
      → Answers (outcome (get_or s at 0) now (take (at + n - (at + record_head)) (drop (at + record_head) s))) room mid r later after
      → Passing m s r (at + n) later after
  passing-more {n} {room} {r} {mid} {later} {after} z h f k =
      let e = record_at now s at n z.size in
      let x = record_outcome now (drop at s) in
      let q : Answers x room mid r later after = rw e at k in
      let g : record_head ≤ record_size (drop at s) = omega (arith, z.size) in
      record {
        answers = t.answers ++ x.answers;
        passed = rw (z.size, q.left) (more t.passed g);
        waiting = waiting-more (waiting-room t.waiting f) q.answers.put;
        within = z.within;
      }

-- ---- one read

-- the bytes from a place up to the end
drop_front : (at end : ℕ) (l : List ℕ) → drop at (take end l) ≡ take (end - at) (drop at l)
drop_front zero end l = rw sub-zero
drop_front (suc at) zero l = let z : 0 - suc at ≡ 0 = omega arith in rw z
drop_front (suc at) (suc end) [] = sym (take-nil (suc end - suc at))
drop_front (suc at) (suc end) (x ∷ l) = let q : suc end - suc at ≡ end - at = omega arith in rw q (drop_front at end l)

module _ (m : Memory) (before : Between) (input : List ℕ) where
  pub turn-ended : Sound m → (after : List ℕ) → Turns m before input (record { held = 0; «open» = false }) m after
  turn-ended k after =
      record {
        bytes = input;
        at = 0;
        answers = [];
        held = refl;
        passed = none;
        left = λ e. let z : ◌≡◌ {A = ℕ} 0 1 = cc in absurd (omega arith);
        all = λ e. let z : ◌≡◌ {A = ℕ} 0 1 = cc in absurd (omega arith);
        within = omega arith;
        sound = k;
      }

  pub turned : {end left : ℕ} {read after out done : List ℕ} {later : Memory} {x : Answered} {f : Output} → Fills before.held input end read
      → AnswersAll m (take end read) x later out → Flushes x.output out f done → Keeps x.at end read left after → length after ≡ length read
      → Turns m before input (record { held = left; «open» = f.«open» }) later after
  turned {end} {left} {read} {after} {x = x} i a f k l =
      record {
        bytes = take end read;
        at = x.at;
        answers = a.records.answers;
        held = take-take before.held end read i.more ∙ i.front;
        passed = a.records.passed;
        left = λ e. k.front ∙ ap (λ (n : ℕ). take n (drop x.at read)) k.left ∙ sym (drop_front x.at end read);
        all = λ e. a.all (f.still e);
        within = omega (arith, k.left, i.within);
        sound = a.sound;
      }
