-- What the steps of sending write, one behind the other, and what each lets the next one ask for. Assumes nothing.
use Rattle.std.proofs.Common.{Result, Ok, Err}
use Prim.Native.Nat.{ℕ, zero, suc, ◌+◌, ◌-◌, ◌≤◌, ◌<◌, min}
use mathlib.Core.Path.{◌≡◌, refl, sym, ap, ◌∙◌}
use mathlib.Core.List.{List, [], ◌∷◌, ◌++◌}
use native.Mathlib.Omega.{arith}
use lib.ListN.{length, take, drop, set, length-set, length-take}
use lib.Seq.{take_at, length-take-le}
use borrow.Rule.Slice.PartMut.{put_mid}
use Rattle.answer.specs.declared.Refusal.{Refusal}
use Rattle.answer.specs.Verdict.{Writes}
use Rattle.output.specs.Places.{Put}
use Rattle.output.proofs.Placing.{put_then, put_set, put_as, put_back, put_front, lent}
use Rattle.varint.specs.Numbers.{limit, room, encode, encoded_size}
use Rattle.varint.proofs.Encoding.{length_encode, size-bounds}
use Rattle.inet.specs.Packet.{hops_of, lowered, Lowerable}
use Rattle.inet.proofs.FormFacts.{form_facts}
use Rattle.inet.proofs.LoweredLaws.{lowered_length}
use Rattle.inet.proofs.FrontLaws.{take_hops_of, take_headed, take_lowered}
use Rattle.octets.specs.Parts.{part}
use Rattle.octets.proofs.Parts.{tail}
use Rattle.table.specs.Limits.{static_limit}
use Rattle.table.specs.declared.Head.{Head}
use Rattle.table.specs.Words.{table_words, head_of, template_of, count_in, words_at, templates_of}
use Rattle.table.specs.Sound.{UsableTemplate}
use Rattle.table.proofs.TableFacts.{table_usable}
use Rattle.state.specs.State.{table_at, state_in}
use Rattle.state.proofs.StateLaws.{state_facts}
use Rattle.template.specs.Pieces.{strip}
use Rattle.template.specs.Fits.{full, first_fit}
use Rattle.template.specs.Datagrams.{seeded, short_form, full_form, datagram}
use Rattle.template.specs.Usable.{ChosenAt, Testable, Fronted, Fillable, filled, Shortenable, pieces_of}
use Rattle.table.proofs.InTurn.{templates-all}
use Rattle.template.proofs.Steps.{find_done}
use Rattle.template.proofs.FrontLaws.{front_length, front-whole, front-filled}
use Rattle.template.proofs.ChosenLaws.{chosen_full, chosen_short, chosen_fits, chosen_usable, fits_fillable, fits_shortenable}
use Rattle.tunnel.specs.Tunnel.{sent_bytes}
use Rattle.tunnel.specs.Sending.{Sendable, Shortable}
use Rattle.tunnel.proofs.SendingLaws.{SendGo}

-- ---- the full form

full_then : {p a b c : List ℕ} {at r : ℕ} → Put (0 ∷ []) 0 a at b → Put p at b r c → Put (full_form p) 0 a r c
unfolding full_form encode
full_then f g = put_then f g

-- a zero, and behind it the packet lowered where it goes: `&mut out[1..]` comes back as b
pub put-plain : (p out : List ℕ) → 1 + length p ≤ length out → {b : List ℕ} → b ≡ lowered p ++ drop (length p) (lent 1 (set out 0 0))
    → Put (full_form (lowered p)) 0 out (1 + length p) (put_mid 1 (length (set out 0 0) - 1) (set out 0 0) b)
put-plain p out h f =
    full_then (put_set 0 0 out (omega arith))
    (put_back (lowered p) 1 (length p) (set out 0 0) (sym (lowered_length p)) (omega (arith, length-set out 0 0)) f)

-- ---- the short form

-- the ID of a usable template is a number that can be written
pub id_below : (t : List ℕ) {h : Head} → h ≡ head_of t → UsableTemplate t → h.id.0 < limit
unfolding template_of
id_below t k u = rw k u.sound.below

-- `&packet[n..]`, where n is the length of a list as long as the front
pub behind : (p front q : List ℕ) → length q ≡ length front → take (length p - length q) (drop (length q) p) ≡ drop (length front) p
behind p front q e = tail (length q) p ∙ ap (λ (n : ℕ). drop n p) e

module _ (t : List ℕ) (first : ℕ) (front p out : List ℕ) (s : Shortable t first front p out) where
  pub id-room : (id : ℕ) → 0 + encoded_size id ≤ length out
  id-room id = omega (arith, (size-bounds id).1, s.space)

  pub short_fillable : Fillable t first front
  short_fillable = fits_fillable t p s.usable s.fit s.bytes s.seeding

  pub front-inside : length front ≤ length p
  front-inside = omega (arith, front_length p s.bytes)

  module _ {h : Head} {q out₁ : List ℕ} {at : ℕ} (k : h ≡ head_of t) (w : Put (encode h.id.0) 0 out at out₁) (f : q ≡ filled (template_of t).sum first front) {rest : List ℕ} (g : rest ≡ drop (length front) p) where
    front-seeded : q ≡ take static_limit (seeded (template_of t).sum (lowered p))
    front-seeded = front-filled p s.bytes (template_of t).sum (pieces_of t) s.usable.sound.summed s.seeding f

    pub short_shortenable : Shortenable t q rest out₁ at
    short_shortenable =
        let m : at ≤ room = omega (arith, w.place, length_encode h.id.0, (size-bounds h.id.0).1) in
        let r : at + length p ≤ length out₁ = omega (arith, s.space, w.kept) in
        rw g (fits_shortenable t p s.usable s.fit s.bytes front-seeded r)

    pub put-short : {out₂ : List ℕ} {r : ℕ} → Put (strip 0 (pieces_of t) (q ++ rest)) at out₁ r out₂ → Put (short_form (template_of t) (lowered p)) 0 out r out₂
    unfolding short_form template_of
    put-short a =
        let whole : q ++ rest ≡ seeded (template_of t).sum (lowered p) = ap (λ (l : List ℕ). q ++ l) g ∙ front-whole p s.bytes (template_of t).sum (pieces_of t) s.usable.sound.summed front-seeded in
        put_then (put_as (ap (λ (x : Head). encode x.id.0) k) w) (put_as (ap (strip 0 (pieces_of t)) whole) a)

-- ---- the form that is chosen

-- where there are no templates, none is chosen
pub chosen_none : (w p : List ℕ) → count_in w ≤ 0 → first_fit (templates_of w) p ≡ full
chosen_none w p h = ap (λ l. first_fit l p) (templates-all w) ∙ find_done w p 0 (count_in w) h

module _ (w p out : List ℕ) where
  pub datagram-full : {after : List ℕ} {n : ℕ} → first_fit (templates_of w) p ≡ full → Put (full_form p) 0 out n after
      → Put (datagram (templates_of w) p) 0 out n after
  unfolding full_form
  datagram-full c f = put_as (sym (chosen_full w p c)) f

  -- t is the words of the template, as they are cut out
  module _ (i v : ℕ) {t : List ℕ} (c : ChosenAt w p i v) (e : t ≡ words_at w i) where
    pub datagram-short : {after : List ℕ} {n : ℕ} → Put (short_form (template_of t) p) 0 out n after
        → Put (datagram (templates_of w) p) 0 out n after
    unfolding short_form
    datagram-short f = put_as (ap (λ (l : List ℕ). short_form (template_of l) p) e ∙ sym (chosen_short w p i v c)) f

-- ---- the front of the packet, lowered

-- as many as there are of the first n elements
take_taken : (n : ℕ) (l : List ℕ) → take (length (take n l)) l ≡ take n l
take_taken zero l = refl
take_taken (suc n) [] = refl
take_taken (suc n) (x ∷ l) = ap (λ (r : List ℕ). x ∷ r) (take_taken n l)

module _ (p : List ℕ) {n : ℕ} (m : n ≡ min (length p) static_limit) where
  front-packet : take n p ≡ take static_limit p
  front-packet =
      let k : n ≡ length (take static_limit p) = omega (arith, length-take static_limit p) in
      ap (λ (i : ℕ). take i p) k ∙ take_taken static_limit p

  pub front-size : length (take n p) ≡ n
  front-size = length-take-le n p (omega arith)

  module _ {w out : List ℕ} (s : Sendable w p out) where
    pub front_lowerable : (image : List ℕ) → static_limit ≤ length image → Lowerable (take n p) image
    front_lowerable image h =
        record {
          good = rw front-packet (take_headed static_limit p (omega arith) s.good);
          hops = omega (arith, ap hops_of front-packet ∙ take_hops_of static_limit p (omega arith), s.hops);
          room = omega (arith, front-size);
        }

    pub sendable_testable : Testable p
    sendable_testable = record { good = s.good; small = omega (arith, s.short) }

    module _ (image : List ℕ) {after : List ℕ} (e : after ≡ lowered (take n p) ++ drop (length (take n p)) image) where
      -- what stands at the front of the image
      front-after : take n after ≡ lowered (take n p)
      front-after = ap (take n) e ∙ take_at (lowered (take n p)) (drop (length (take n p)) image) n (lowered_length (take n p) ∙ front-size)

      pub front-count : n ≡ length (take n after)
      front-count = sym (ap length front-after ∙ lowered_length (take n p) ∙ front-size)

      front-lowered : take n after ≡ take static_limit (lowered p)
      front-lowered = front-after ∙ ap lowered front-packet ∙ take_lowered static_limit p (omega arith) s.good

      pub front_fronted : Fronted (take n after) p
      front_fronted = record { testable = sendable_testable; bytes = front-lowered }

      -- t is the words of the template that was found, as they are cut out
      pub chosen_shortable : (i v : ℕ) {t : List ℕ} → ChosenAt w (lowered p) i v → t ≡ words_at w i → Shortable t v (take n after) p out
      chosen_shortable i v c f =
          rw f (record {
            usable = chosen_usable w (lowered p) i v c s.usable;
            seeding = c.seeding;
            bytes = front-lowered;
            fit = chosen_fits w (lowered p) i v c;
            space = omega (arith, s.short, s.space);
          })

-- ---- the entry point: w are the words of the state

pub go_sendable : (w : List ℕ) {p out : List ℕ} → SendGo (state_in w) p (length out) → Sendable (part w table_at table_words) p out
go_sendable w {p} {out} s =
    record {
      usable = table_usable (part w table_at table_words) (state_facts (state_in w) s.sound).templates;
      good = form_facts p s.form;
      hops = omega (arith, s.hops);
      short = s.short;
      space = s.roomy;
    }

pub writes-stop : {v : Result Unit Refusal} {m out : List ℕ} {why : Refusal} → v ≡ Err why → Writes v m out (Err why) out
writes-stop e = record { answer = rw e; output = rw e }

pub writes_go : {v : Result Unit Refusal} {m out after : List ℕ} {n : ℕ} → v ≡ Ok tt → Put m 0 out n after → Writes v m out (Ok n) after
writes_go e f = let k = put_front f in record { answer = rw e (ap Ok k.0); output = rw e k.1 }

pub sends_go : (w p : List ℕ) {v : Result Unit Refusal} {out after : List ℕ} {n : ℕ} → v ≡ Ok tt
    → Put (datagram (templates_of (part w table_at table_words)) (lowered p)) 0 out n after → Writes v (sent_bytes (state_in w) p) out (Ok n) after
unfolding sent_bytes
sends_go w p e f = writes_go e f
