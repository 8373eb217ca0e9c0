-- What a refusal leaves, from the records that the contracts of the entry points are. Assumes nothing.
use Rattle.std.proofs.Common.{Result, Ok, Err, ℕ}
use Prim.Native.Nat.{ℕ, ◌+◌, ◌<◌}
use mathlib.Core.Path.{◌≡◌, refl, sym, ap, ◌∙◌}
use mathlib.Core.List.{List, [], ◌∷◌}
use mathlib.Core.Logic.{◌⊎◌, inl, inr}
use native.Mathlib.Omega.{arith}
use Rattle.answer.specs.declared.Refusal.{Refusal}
use Rattle.answer.specs.Number.{number_of, answer_number, answer_length}
use Rattle.answer.specs.Verdict.{Writes}
use Rattle.octets.specs.Big.{Bytes}
use Rattle.octets.specs.Parts.{with_part}
use Rattle.capsule.specs.declared.CapsuleRead.{CapsuleRead}
use Rattle.capsule.specs.Capsules.{Capsule, capsule, read_capsule}
use Rattle.capsule.proofs.ReadFacts.{read_facts}
use Rattle.capsule.proofs.ReadLaws.{read-size}
use Rattle.table.specs.Templates.{Template}
use Rattle.table.specs.File.{Step, stop, found, plan_in}
use Rattle.table.specs.Load.{verdict_in, loaded, plan_read, Loads}
use Rattle.state.specs.State.{store_at, state_words}
use Rattle.state.specs.Loading.{with_templates, LoadsPlan}
use Rattle.exchange.specs.Writing.{Gives}
use Rattle.exchange.proofs.ReadLaws.{read_refusal_leaves}
use Rattle.stream.specs.declared.feeding.Call.{Call}
use Rattle.stream.specs.declared.feeding.Piece.{Piece}
use Rattle.stream.specs.declared.feeding.Call.TheVariants.{Handed, Between, Wait}
use Rattle.stream.specs.Runs.{Lent, LeavesAll, Remembers}
use Rattle.stream.proofs.CallLaws.{refused-either}
use Rattle.tunnel_c.specs.declared.PlainAnswer.{PlainAnswer}
use Rattle.tunnel_c.specs.declared.capsules.PlainCapsule.{PlainCapsule}
use Rattle.tunnel_c.specs.declared.pieces.PlainPiece.{PlainPiece}
use Rattle.tunnel_c.specs.Plain.{plain_answer, found_capsule, plain_capsule, not_handed, plain_call, plain_piece, Plainly, ReadsPlainly, FeedsPlainly}
use Rattle.ends.specs.Outcomes.{Leaves, PieceRefused, Consumed}

-- a call that stopped
data Stops (a : Result Piece Refusal) : Type 0 where
  stops : {why : Refusal} → a ≡ Err why → Stops a

pub writes_leaves : (v : Result Unit Refusal) {m before after : List ℕ} {r : Result ℕ Refusal} → Writes v m before r after → Leaves r before after
writes_leaves (Ok _) w h = absurd (h (ap answer_number w.answer))
writes_leaves (Err why) w h = (ap answer_length w.answer, w.output)

pub gives_leaves : (v : Result Unit Refusal) {m new w before : List ℕ} {r : Result ℕ Refusal} {left after : List ℕ} → Gives v m new w before r left after
    → (answer_number r ≡ 0 → ⊥) → (answer_length r ≡ 0) × (after ≡ before) × (left ≡ w)
gives_leaves (Ok _) g h = absurd (h (ap answer_number g.writes.answer))
gives_leaves (Err why) g h = (ap answer_length g.writes.answer, g.writes.output, g.state)

-- what holds of the answer of a refusal holds of its plain form
module _ {P : Result ℕ Refusal → Type 0} {r : PlainAnswer} (q : Plainly plain_answer P r) (h : r.number ≡ 0 → ⊥) where
  refuses : answer_number q.answer ≡ 0 → ⊥
  refuses z = h (ap (λ (x : PlainAnswer). x.number) q.shown ∙ z)

  no_length : answer_length q.answer ≡ 0 → r.length ≡ 0
  no_length e = ap (λ (x : PlainAnswer). x.length) q.shown ∙ e

  pub plainly_leaves : {before after : List ℕ} → ((a : Result ℕ Refusal) → P a → Leaves a before after) → (r.length ≡ 0) × (after ≡ before)
  plainly_leaves law = let l = law q.answer q.promised refuses in (no_length l.0, l.1)

  pub plainly_gives_leaves : (v : Result Unit Refusal) {m new w before left after : List ℕ} → ((a : Result ℕ Refusal) → P a → Gives v m new w before a left after)
      → (r.length ≡ 0) × (after ≡ before) × (left ≡ w)
  plainly_gives_leaves v law = let l = gives_leaves v (law q.answer q.promised) refuses in (no_length l.0, l.1, l.2)

pub plainly_read_leaves : {w s : List ℕ} {at : ℕ} {l : List ℕ} {r : PlainCapsule} {after list : List ℕ} → ReadsPlainly w s at l r after list
    → (r.number ≡ 0 → ⊥) → (after ≡ w) × (list ≡ l) × (r.next ≡ at)
unfolding found_capsule
plainly_read_leaves {w} {s} {at} {l} {r} {after} {list} q h = of q.answer refl
  where
    of : (v : Result CapsuleRead Refusal) → q.answer ≡ v → (after ≡ w) × (list ≡ l) × (r.next ≡ at)
    of (Ok c) e = absurd (h (ap (λ (x : PlainCapsule). x.number) (q.shown ∙ ap (plain_capsule at) e)))
    of (Err why) e =
        let k = read_refusal_leaves q.promised why e in
        (k.0, k.1, ap (λ (x : PlainCapsule). x.next) (q.shown ∙ ap (plain_capsule at) e))

-- the number of a refusal other than 1 is handed over of such a refusal alone
plain-handed : (n : ℕ) (c : Call) → 1 < (plain_call n c).number → ⊥
plain-handed n (Handed kind size) h = omega arith
plain-handed n Between h = omega arith
plain-handed n Wait h = omega arith

plain-stopped : (a : Result Piece Refusal) → 1 < (plain_piece a).number → Stops a
plain-stopped (Ok p) h = absurd (plain-handed p.taken p.call h)
plain-stopped (Err why) h = stops refl

pub plainly_feed_leaves : {w held t before l : List ℕ} {r : PlainPiece} {later holds after list : List ℕ} → FeedsPlainly w held t before l r later holds after list
    → Lent w held → Bytes t → 1 < r.number → PieceRefused w held before l r later holds after list
plainly_feed_leaves {w} {held} {t} {before} {l} {r} {later} {holds} {after} {list} q m b h =
    of (plain-stopped q.answer (rw q.shown at h))
  where
    told : (why : Refusal) → q.answer ≡ Err why → r ≡ not_handed (number_of why) 0
    told why e = q.shown ∙ ap plain_piece e

    either : (why : Refusal) → LeavesAll why w held before l q.answer later holds after list ⊎ Remembers why w held before l q.answer later holds after list
        → PieceRefused w held before l r later holds after list
    either why (inl k) =
        let e = told why k.answer in
        record {
          handed = ap (λ (x : PlainPiece). x.handed) e;
          taken = ap (λ (x : PlainPiece). x.taken) e;
          state = inl k.untouched.state;
          bytes = k.untouched.bytes;
          output = k.untouched.output;
          requested = k.untouched.requested;
        }
    either why (inr k) =
        let e = told why k.answer in
        record {
          handed = ap (λ (x : PlainPiece). x.handed) e;
          taken = ap (λ (x : PlainPiece). x.taken) e;
          state = inr (k.state ∙ ap (λ (x : PlainPiece). with_part w (store_at + 2) state_words (x.number ∷ [])) (sym e));
          bytes = k.bytes;
          output = k.output;
          requested = k.requested;
        }

    of : Stops q.answer → PieceRefused w held before l r later holds after list
    of (stops {why} e) = either why (refused-either q.promised m b why e)

-- a file that is refused gives no templates
file_leaves : {A : Type 0} (put : Step (List Template) → A) (before : A) → ((r : Refusal) → put (stop r) ≡ before)
    → (x : Step (List Template)) (why : Refusal) → verdict_in x ≡ Err why → put x ≡ before
file_leaves put before left (stop r) why e = left r
file_leaves put before left (found ts rest) why e = absurd (let z : ◌≡◌ {A = ℕ} 0 1 = cc in omega arith)

pub load_leaves : (file before after : List ℕ) (r : Result Unit Refusal) → Loads file before r after → (why : Refusal) → r ≡ Err why → after ≡ before
unfolding plan_read
load_leaves file before after r l why e =
    l.words ∙ file_leaves (λ x. loaded x before) before (λ r. refl) (plan_in file) why (sym l.verdict ∙ e)

pub state_load_leaves : (file w after : List ℕ) (r : Result Unit Refusal) → LoadsPlan file w r after → (why : Refusal) → r ≡ Err why → after ≡ w
unfolding plan_read
state_load_leaves file w after r l why e =
    l.words ∙ file_leaves (λ x. with_templates x w) w (λ r. refl) (plan_in file) why (sym l.verdict ∙ e)

-- what a capsule that was read consumed
pub consumed : (s : List ℕ) (c : Capsule) (start size : ℕ) → read_capsule s ≡ capsule c start size → Consumed s size
consumed s c start size e =
    let r = read_facts s c start size e in
    let f = r.framed in
    record { kind = r.kind; count = r.count; kind-size = f.n; count-size = f.m; type = f.type; length_read = f.count; total = read-size s c start size e }
