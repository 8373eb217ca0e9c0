-- The form of a packet on the wire: the short form of the lowest template that fits, or the full form. Assumes nothing.
use Rattle.std.proofs.Common.{Some}
use Prim.Native.Nat.{ℕ}
use mathlib.Core.Path.{◌≡◌, refl, sym, ap, ◌∙◌}
use mathlib.Core.Bool.{Bool, true, false}
use mathlib.Core.List.{List}
use native.Mathlib.Omega.{arith}
use Rattle.varint.specs.Numbers.{read_number, value_in, encode, encoded_size, number}
use Rattle.varint.proofs.RoundTrip.{read-encode}
use Rattle.inet.specs.Packet.{lowered}
use Rattle.table.specs.Templates.{Template}
use Rattle.table.specs.Sound.{SoundTemplate}
use Rattle.table.proofs.TableFacts.{sound-templates}
use Rattle.state.specs.State.{State}
use Rattle.state.proofs.StateLaws.{state_facts}
use Rattle.template.specs.Members.{In}
use Rattle.template.specs.Fits.{fits, Choice, full, short, first_fit}
use Rattle.template.specs.Datagrams.{short_form, full_form}
use Rattle.template.proofs.ChoiceLaws.{sound_in, first_fit_in, first_fit-some, first_fit-none, first_fit-lowest}
use Rattle.tunnel.specs.Answers.{Passes, datagram_of}
use Rattle.tunnel.proofs.Answered.{passes_go, datagram-sent}
use Rattle.tunnel.proofs.Agreement.{sent-short, sent-full}
use Rattle.ends.specs.Outcomes.{SentShort}

-- the Context ID of a short form
short-wire : (t : Template) (p : List ℕ) → SoundTemplate t → read_number (short_form t p) ≡ Some (number t.id (encoded_size t.id))
unfolding short_form
short-wire t p u = read-encode t.id _ u.below

module _ (s : State) (p out : List ℕ) (passed : Passes s p out) where
  short-by : (t : Template) → first_fit s.templates (lowered p) ≡ short t → SentShort s p out
  short-by t e =
      let found = first_fit_in t s.templates (lowered p) e in
      let sound = sound-templates s.templates (state_facts s (passes_go s p out passed).sound).templates in
      let bytes = datagram-sent s p out passed ∙ sent-short s p t e in
      record {
        template = t;
        listed = found.0;
        fitting = found.1;
        lowest = λ u i f. first_fit-lowest t u s.templates 0 (lowered p) sound e i f;
        bytes = bytes;
        wire = ap read_number bytes ∙ short-wire t (lowered p) (sound_in t s.templates 0 sound found.0);
        not_zero = λ z. omega (arith, (sound_in t s.templates 0 sound found.0).above);
      }

  by-choice : (c : Choice) → first_fit s.templates (lowered p) ≡ c → (t : Template) → In t s.templates → fits t (lowered p) ≡ true → SentShort s p out
  by-choice full e t i f =
      let z : true ≡ false = sym f ∙ first_fit-some t s.templates (lowered p) e i in
      absurd (let w : ◌≡◌ {A = ℕ} 0 1 = cc in omega arith)
  by-choice (short u) e t i f = short-by u e

  pub fit-short : (t : Template) → In t s.templates → fits t (lowered p) ≡ true → SentShort s p out
  fit-short t i f = by-choice (first_fit s.templates (lowered p)) refl t i f

  module _ (h : (t : Template) → In t s.templates → fits t (lowered p) ≡ false) where
    pub none-full : datagram_of s p out ≡ full_form (lowered p)
    none-full = datagram-sent s p out passed ∙ sent-full s p (first_fit-none s.templates (lowered p) h)

    pub none-wire : read_number (datagram_of s p out) ≡ Some (number 0 1)
    unfolding full_form encode encoded_size
    none-wire = ap read_number none-full ∙ read-encode 0 (lowered p) (omega arith)

  -- a datagram that starts with 0 is in full
  not_short : read_number (datagram_of s p out) ≡ Some (number 0 1) → SentShort s p out → ⊥
  not_short e k = k.not_zero (ap value_in (sym k.wire ∙ e))

  pub zero_none : read_number (datagram_of s p out) ≡ Some (number 0 1) → (t : Template) → In t s.templates → fits t (lowered p) ≡ false
  zero_none e t i = of (fits t (lowered p)) refl
    where
      of : (b : Bool) → fits t (lowered p) ≡ b → b ≡ false
      of true f = absurd (not_short e (fit-short t i f))
      of false f = refl
