-- What the code adds up for the right checksum of a packet, and its three ends. Assumes nothing.
use Prim.Native.Nat.{ℕ, zero, suc, ◌+◌, ◌-◌, ◌*◌, ◌%◌, ◌≤◌, ◌<◌}
use mathlib.Core.Path.{◌≡◌, sym, ap, ◌∙◌}
use mathlib.Core.List.{List, [], ◌∷◌}
use mathlib.Core.Bool.{false}
use native.Mathlib.Omega.{arith}
use native.Mathlib.Numerals.{add-one}
use lib.ListN.{length, get_or, take, drop, set, length-drop}
use lib.Seq.{get_or-drop}
use borrow.Author.Tests.{le-leb, lt-leb}
use Rattle.octets.proofs.Parts.{tail}
use Rattle.inet.specs.Sum.{words, fold}
use Rattle.inet.specs.SumLaws.{fold-fits, fold_pos}
use Rattle.inet.specs.Packet.{protocol_byte, put16, lowered}
use Rattle.inet.specs.Transport.{pseudo_sum, seed, set_field, sent, finish, completion, field_is}
use Rattle.inet.proofs.WordLaws.{fold_less}
use Rattle.inet.proofs.FieldLaws.{words-put, drop_put_from}
use Rattle.inet.proofs.LoweredLaws.{lowered_length}
use Rattle.inet.proofs.TransportLaws.{sent-udp, sent-other, sent_nonzero, set_field-protocol_byte, lowered-field_is, lowered-completion}
use Rattle.table.specs.Templates.{sum_at}
use Rattle.template.specs.Fits.{fits_sum}
use Rattle.template.specs.Usable.{SumPlace}

less_suc : (l : List ℕ) (i : ℕ) → i % 2 ≡ 0 → suc i < length l → words l ≡ words (set (set l i 0) (suc i) 0) + (get_or l i 0 * 256 + get_or l (suc i) 0)
unfolding words
less_suc [] i e h = omega arith
less_suc (a ∷ []) i e h = omega arith
less_suc (a ∷ b ∷ r) zero e h = omega arith
less_suc (a ∷ b ∷ r) (suc zero) e h = omega arith
less_suc (a ∷ b ∷ r) (suc (suc i)) e h = omega (arith, less_suc r i (omega arith) (omega arith))

-- the words of a list count the word at an even place
words_less : (l : List ℕ) (i : ℕ) → i % 2 ≡ 0 → i + 1 < length l → words l ≡ words (put16 l i 0) + (get_or l i 0 * 256 + get_or l (i + 1) 0)
unfolding put16
words_less l i e h = rw add-one (less_suc l i e (omega arith))

-- the seed of a packet that goes on behind start is above 0: its length less start counts
seed_pos : (start : ℕ) (p : List ℕ) → start < length p → 0 < seed start p
unfolding seed
seed_pos start p h = fold_pos (pseudo_sum start p) (omega arith)

-- a seed fits in 16 bits
pub seed-fits : (start : ℕ) (p : List ℕ) → seed start p ≤ 65535
unfolding seed
seed-fits start p = omega (arith, fold-fits (pseudo_sum start p))

-- what the code adds up folds as the words from start on, with the seed in place of what stands in the field
pub record Summed (p : List ℕ) (field start first own all : ℕ) : Type 0 where
  pub same : fold (words (drop start (set_field field (seed start p) p))) ≡ fold (all + (65535 - own) + first)

pub summed : (p : List ℕ) (field start : ℕ) → SumPlace field start → field + 2 ≤ length p → {first hi lo own all : ℕ} → first ≡ seed start p
    → hi ≡ get_or p field 0 → lo ≡ get_or p (field + 1) 0 → own ≡ hi * 256 + lo → own ≤ 65535 → fold all ≡ fold (words (take (length p - start) (drop start p)))
    → Summed p field start first own all
summed p field start place room {first} {hi} {lo} {own} {all} s a b o fits w =
    let t = drop start p in
    let i = field - start in
    let l : i + 1 < length t = omega (arith, length-drop start p) in
    let e : start + i ≡ field = omega arith in
    let e1 : start + (i + 1) ≡ field + 1 = omega arith in
    let ga : get_or t i 0 ≡ get_or p field 0 = get_or-drop start p i 0 ∙ ap (λ (n : ℕ). get_or p n 0) e in
    let gb : get_or t (i + 1) 0 ≡ get_or p (field + 1) 0 = get_or-drop start p (i + 1) 0 ∙ ap (λ (n : ℕ). get_or p n 0) e1 in
    let u = words_less t i place.even l in
    let v = words-put t i (seed start p) place.even l in
    let d : words (drop start (set_field field (seed start p) p)) ≡ words (put16 t i (seed start p)) = ap words (drop_put_from p start field (seed start p) place.order) in
    let z : words (put16 t i (seed start p)) ≡ words t - own + first = omega arith in
    let counted : own ≤ words t = omega arith in
    let pos : 0 < first = omega (arith, seed_pos start p (omega arith)) in
    record { same = ap fold (d ∙ z) ∙ sym (fold_less all (words t) own first fits counted pos (w ∙ ap (λ (x : List ℕ). fold (words x)) (tail start p))) }

module _ (p : List ℕ) (field start : ℕ) (place : SumPlace field start) {first own all f : ℕ} (s : Summed p field start first own all) (folded : f ≡ fold (all + (65535 - own) + first)) where
  completion_steps : completion field start p ≡ sent (protocol_byte p) (65535 - f)
  unfolding completion finish
  completion_steps = rw (s.same, ← folded, set_field-protocol_byte field (seed start p) p (omega arith))

  pub completion-udp : 65535 - f ≡ 0 → protocol_byte p ≡ 17 → completion field start p ≡ 65535
  completion-udp z e = completion_steps ∙ sent-udp (protocol_byte p) (65535 - f) z e

  pub completion-other : (protocol_byte p ≡ 17 → ⊥) → completion field start p ≡ 65535 - f
  completion-other n = completion_steps ∙ sent-other (protocol_byte p) (65535 - f) n

  pub completion_nonzero : (65535 - f ≡ 0 → ⊥) → completion field start p ≡ 65535 - f
  completion_nonzero n = completion_steps ∙ sent_nonzero (protocol_byte p) (65535 - f) n

-- whether the checksum fits: the field's place, and then its value
module _ (p : List ℕ) (field start : ℕ) where
  pub fits_sum-short : length p < field + 2 → fits_sum (sum_at field start) p ≡ false
  fits_sum-short h = rw (lt-leb (field + 2) (length p) h)

  pub fits_sum-long : (v : ℕ) → field + 2 ≤ length p → v ≡ completion field start p → fits_sum (sum_at field start) p ≡ field_is field v p
  fits_sum-long v h e = rw (le-leb (field + 2) (length p) h, e)

  -- lowering the packet changes nothing of it
  pub fits_sum-lowered : SumPlace field start → fits_sum (sum_at field start) (lowered p) ≡ fits_sum (sum_at field start) p
  fits_sum-lowered place =
      rw (lowered_length p, lowered-completion p field start (omega arith) place.order, lowered-field_is p field (completion field start p) (omega arith))
