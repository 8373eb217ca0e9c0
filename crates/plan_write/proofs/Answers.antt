-- What writing a plan answers, by the cases of its verdict. Assumes nothing.
use Rattle.std.proofs.Common.{Result, Ok, Err}
use Prim.Native.Nat.{ℕ, ◌<◌, ◌≤◌}
use mathlib.Core.Bool.{true}
use mathlib.Core.Path.{◌≡◌, sym, ap, ◌∙◌}
use mathlib.Core.List.{List}
use lib.Dec.{ltb}
use borrow.Author.Tests.{lt-ltb, le-ltb, ltb-false}
use Rattle.answer.specs.declared.Refusal.{Refusal}
use Rattle.answer.specs.declared.Refusal.TheVariants.{NoRoom}
use Rattle.answer.specs.Verdict.{Writes}
use Rattle.answer.proofs.Tables.{go_test, go-rest}
use Rattle.table.specs.Templates.{Template}
use Rattle.table.specs.Rules.{plan_room, plan_fault, goes, sound_templates, plan_verdict}
use Rattle.output.specs.Places.{Put}
use Rattle.output.proofs.Placing.{put_front}

module _ {m : List ℕ} {v : Result Unit Refusal} where
  pub wrote : {a b : List ℕ} {r : ℕ} → v ≡ Ok tt → Put m 0 a r b → Writes v m a (Ok r) b
  wrote {a} {b} {r} g p =
      let f = put_front p in
      record { answer = rw (g, f.0); output = rw g f.1 }

  pub refused : {a : List ℕ} {why : Refusal} → v ≡ Err why → Writes v m a (Err why) a
  refused g = record { answer = rw g; output = rw g }

module _ (ts : List Template) where
  pub fault-sound : plan_fault ts ≡ Ok tt → sound_templates ts ≡ true
  unfolding sound_templates
  fault-sound e = ap goes e

  module _ (n : ℕ) where
    pub no_room : n < plan_room → plan_verdict ts n ≡ Err NoRoom
    unfolding plan_verdict
    no_room h = rw (lt-ltb n plan_room h)

    -- with room, the fault of the templates
    pub fault-says : plan_room ≤ n → {v u : Result Unit Refusal} → v ≡ plan_fault ts → v ≡ u → plan_verdict ts n ≡ u
    unfolding plan_verdict
    fault-says h e g = rw (le-ltb n plan_room h) (sym e ∙ g)

    -- what a caller learns of templates that are written
    pub write_go : plan_verdict ts n ≡ Ok tt → (plan_room ≤ n) × (sound_templates ts ≡ true)
    unfolding plan_verdict
    write_go e =
        (ltb-false n plan_room (go_test (ltb n plan_room) NoRoom (plan_fault ts) e), fault-sound (go-rest (ltb n plan_room) NoRoom (plan_fault ts) e))
