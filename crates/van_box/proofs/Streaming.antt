-- Bytes of the stream, a capsule a turn: what is answered and what is left to answer are all of it. Only the first capsule can have begun in an earlier
-- record, so that every other answer is bounded by its share of the bytes. Assumes nothing.
use Prim.Native.Nat.{ℕ, zero, suc, ◌+◌, ◌-◌, ◌*◌, ◌<◌, ◌≤◌}
use mathlib.Core.Bool.{Bool, true, false}
use mathlib.Core.Path.{◌≡◌, refl, sym, ap, ◌∙◌}
use mathlib.Core.List.{List, []}
use mathlib.Core.Logic.{◌⊎◌, inl, inr, ⊎_elim}
use native.Mathlib.Omega.{arith}
use borrow.Author.Tests.{lt-ltb, le-ltb}
use lib.Dec.{ltb}
use lib.ListN.{length, take, drop, length-drop}
use lib.Seq.{drop-drop}
use Rattle.answer.specs.Choice.{pick}
use Rattle.octets.proofs.Parts.{tail}
use Rattle.output.proofs.Placing.{Putting, putting_none, putting_more, putting_done}
use Rattle.capsule.specs.Capsules.{Capsule}
use Rattle.state.specs.State.{state_words}
use Rattle.stream.specs.Store.{empty, Said, out, clean, wait, no}
use Rattle.stream.specs.Feeding.{store_in}
use Rattle.stream.specs.Handing.{contents, handed_call}
use Rattle.van_box.specs.declared.outgoing.Output.{Output}
use Rattle.van_box.specs.declared.answers.Stepped.{Stepped}
use Rattle.van_box.specs.Sizes.{max_record, answer_head, answer_room, answers_share, record_room}
use Rattle.van_box.specs.Records.{Memory, Outcome, leaving, stepped, said_answer, is_handed, before, behind, capsules, stream_outcome, Answers, AnswersPiece}
use Rattle.van_box.proofs.HandedOut.{step-moves, step-within, step-most, step-share, step-size, step-empties}

-- answers put behind those of the output o, and what is left of the outcome x
pub record Part (rest x : Outcome Memory) (o : Output) (start : List ℕ) (now : Output) (bytes : List ℕ) : Type 0 where
  pub answers : Putting rest.answers x.answers o.used start now.used bytes
  pub left : rest.left ≡ x.left
  pub still : now.«open» ≡ o.«open»

-- the bytes s from a place on are still to be given, and the memory is m; the record began with the memory first
pub record Streaming (first : Memory) (s : List ℕ) (o : Output) (start : List ℕ) (m : Memory) (bytes : List ℕ) (now : Output) (at : ℕ) : Type 0 where
  pub fuel : ℕ
  pub enough : length s < fuel + at
  pub within : at ≤ length s
  pub size : length m.state ≡ state_words
  -- nothing is answered, or nothing is kept
  pub begun : (now.used ≡ o.used) ⊎ (store_in m.state m.bytes ≡ empty)
  pub small : now.used ≤ o.used + answer_room + answers_share * at
  pub part : Part (capsules fuel m (drop at s)) (stream_outcome first s) o start now bytes

pub stream_start : (m : Memory) (s : List ℕ) (o : Output) (bytes : List ℕ) → length m.state ≡ state_words → Streaming m s o bytes m bytes o 0
stream_start m s o bytes h =
    record {
      fuel = suc (length s);
      enough = omega arith;
      within = omega arith;
      size = h;
      begun = inl refl;
      small = omega arith;
      part = record { answers = putting_none refl; left = refl; still = refl };
    }

-- a step of the recursion
capsules-step : (fuel : ℕ) (m : Memory) (s : List ℕ)
    → capsules (suc fuel) m s
    ≡ before (said_answer (stepped m s).said) (behind (capsules fuel) s (stepped m s).memory (stepped m s).taken (stepped m s).said)
unfolding capsules
capsules-step fuel m s = refl

module _ {first : Memory} {s : List ℕ} {o : Output} {start : List ℕ} {m : Memory} {bytes : List ℕ} {now : Output} {at : ℕ}
    (t : Streaming first s o start m bytes now at) where
  -- room for the longest answer
  pub stream_room : o.used + record_room ≤ length start → length s ≤ max_record → now.used + answer_room ≤ length bytes
  stream_room h l = omega (arith, t.small, t.within, t.part.answers.put.kept)

  module _ {step : Stepped} {later : Memory} {after : List ℕ} (given : AnswersPiece m (take (length s - at) (drop at s)) now bytes step later after) where
    abbrev u : List ℕ
    u = drop at s

    abbrev said : Said
    said = (stepped m u).said

    k : AnswersPiece m u now bytes step later after
    k = rw (tail at s) at given

    -- what the call said, and then what is behind it
    turn : (fuel : ℕ) → t.fuel ≡ suc fuel → Part (behind (capsules fuel) u later step.taken said) (stream_outcome first s) o start step.output after
    turn fuel e =
        let f : capsules t.fuel m u ≡ before (said_answer said) (behind (capsules fuel) u later step.taken said) =
        ap (λ (n : ℕ). capsules n m u) e ∙ capsules-step fuel m u ∙ rw (k.memory, k.taken) in
        record {
          answers = putting_more t.part.answers (ap (λ (x : Outcome Memory). x.answers) f) k.answer.put;
          left = sym (ap (λ (x : Outcome Memory). x.left) f) ∙ t.part.left;
          still = k.answer.still ∙ t.part.still;
        }

    -- nothing is left
    whole : (x : Outcome Memory) → Part x (stream_outcome first s) o start step.output after → x ≡ leaving [] later
        → Answers (stream_outcome first s) o start step.output later after
    whole x p e =
        record {
          answers = record { put = putting_done p.answers (ap (λ (y : Outcome Memory). y.answers) e); still = p.still };
          left = sym (ap (λ (y : Outcome Memory). y.left) e) ∙ p.left;
        }

    fuelled : {A : Type 0} → ((fuel : ℕ) → t.fuel ≡ suc fuel → A) → A
    fuelled {A} f = of t.fuel refl
      where
        of : (n : ℕ) → t.fuel ≡ n → A
        of zero e = absurd (omega (arith, t.enough, t.within))
        of (suc n) e = f n e

    -- ---- a capsule was handed out
    module _ {c : Capsule} (q : said ≡ out c) where
      moves : 0 < step.taken
      moves = omega (arith, k.taken, step-moves m u c q)

      ends : at + step.taken ≤ length s
      ends = omega (arith, k.taken, step-within m u c q, length-drop at s, t.within)

      left_over : {b : Bool} (next : Memory → List ℕ → Outcome Memory) → ltb step.taken (length u) ≡ b
          → behind next u later step.taken said ≡ pick b (next later (drop step.taken u)) (leaving [] later)
      left_over next g = rw (q, g)

      longer : step.output.used ≡ now.used + answer_head + length (contents c)
      longer =
          let l : length (said_answer said) ≡ answer_head + length (contents c) = rw q (omega arith) in
          omega (arith, k.answer.put.place, l)

      share : step.output.used ≤ o.used + answer_room + answers_share * (at + step.taken)
      share =
          ⊎_elim (λ (e : now.used ≡ o.used). omega (arith, longer, step-most m u c q))
          (λ (e : store_in m.state m.bytes ≡ empty). omega (arith, longer, t.small, k.taken, step-share m u c q e))
          t.begun

      last : (fuel : ℕ) → t.fuel ≡ suc fuel → length s ≤ at + step.taken → Answers (stream_outcome first s) o start step.output later after
      last fuel e h =
          let n : length u ≤ step.taken = omega (arith, length-drop at s) in
          whole (behind (capsules fuel) u later step.taken said) (turn fuel e) (left_over (capsules fuel) (le-ltb step.taken (length u) n))

      more : (fuel : ℕ) → t.fuel ≡ suc fuel → at + step.taken < length s
          → Streaming first s o start later after step.output (at + step.taken)
      more fuel e h =
          let n : step.taken < length u = omega (arith, length-drop at s) in
          let x : behind (capsules fuel) u later step.taken said ≡ capsules fuel later (drop (at + step.taken) s) =
          left_over (capsules fuel) (lt-ltb step.taken (length u) n) ∙ ap (capsules fuel later) (drop-drop step.taken at s) in
          record {
            fuel = fuel;
            enough = omega (arith, t.enough, moves);
            within = omega arith;
            size = ap (λ (y : Memory). length y.state) k.memory ∙ step-size m u c q t.size;
            begun =
                inr
                (ap (λ (y : Memory). store_in y.state y.bytes) k.memory
                ∙ step-empties m u c q t.size);
            small = share;
            part = rw x at (turn fuel e);
          }

    handed_as : (x : Said) → said ≡ x → step.handed ≡ is_handed (handed_call x)
    handed_as x e = k.handed ∙ ap (λ (z : Said). is_handed (handed_call z)) e

    handed_out : {A : Type 0} → step.handed ≡ true → ((c : Capsule) → said ≡ out c → A) → A
    handed_out {A} h f = of said refl
      where
        of : (x : Said) → said ≡ x → A
        of (out c) e = f c e
        of clean e = let y : true ≡ false = sym h ∙ handed_as clean e in let z : ◌≡◌ {A = ℕ} 0 1 = cc in absurd (omega arith)
        of wait e = let y : true ≡ false = sym h ∙ handed_as wait e in let z : ◌≡◌ {A = ℕ} 0 1 = cc in absurd (omega arith)
        of (no r) e = let y : true ≡ false = sym h ∙ handed_as (no r) e in let z : ◌≡◌ {A = ℕ} 0 1 = cc in absurd (omega arith)

    -- ---- the ways on: no capsule, all bytes are taken, or there are more
    pub stream_stopped : step.handed ≡ false → Answers (stream_outcome first s) o start step.output later after
    stream_stopped h = of said refl
      where
        last-answer : (x : Said) → said ≡ x → ((fuel : ℕ) → behind (capsules fuel) u later step.taken x ≡ leaving [] later)
            → Answers (stream_outcome first s) o start step.output later after
        last-answer x e g = fuelled (λ fuel i. whole (behind (capsules fuel) u later step.taken said) (turn fuel i) (ap (behind (capsules fuel) u later step.taken) e ∙ g fuel))

        of : (x : Said) → said ≡ x → Answers (stream_outcome first s) o start step.output later after
        of (out c) e = let y : false ≡ true = sym h ∙ handed_as (out c) e in let z : ◌≡◌ {A = ℕ} 0 1 = cc in absurd (omega arith)
        of clean e = last-answer clean e (λ fuel. refl)
        of wait e = last-answer wait e (λ fuel. refl)
        of (no r) e = last-answer (no r) e (λ fuel. refl)

    module _ (h : step.handed ≡ true) where
      pub stream_moves : 0 < step.taken
      stream_moves = handed_out h (λ c q. moves q)

      pub stream_within : at + step.taken ≤ length s
      stream_within = handed_out h (λ c q. ends q)

      pub stream_ended : length s ≤ at + step.taken → Answers (stream_outcome first s) o start step.output later after
      stream_ended g = handed_out h (λ c q. fuelled (λ fuel e. last q fuel e g))

      pub stream_goes_on : at + step.taken < length s
          → Streaming first s o start later after step.output (at + step.taken)
      stream_goes_on g = handed_out h (λ c q. fuelled (λ fuel e. more q fuel e g))
