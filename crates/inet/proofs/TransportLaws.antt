-- The checksum of what a packet carries: what the code adds up, and what lowering the packet keeps. Assumes nothing.
use mathlib.Core.Path.{◌≡◌, refl, sym, ap, ◌∙◌}
use mathlib.Core.Bool.{Bool, true, false, ◌&&◌}
use mathlib.Core.List.{List, ◌++◌}
use Prim.Native.Nat.{ℕ, ◌+◌, ◌-◌, ◌*◌, ◌%◌, ◌≤◌, ◌<◌}
use native.Mathlib.Omega.{arith}
use lib.ListN.{length, take, drop, length-drop, get_or-append}
use lib.Seq.{drop-append-le}
use lib.Dec.{eqb}
use borrow.Author.Tests.{eqb-true, eqb-false, eq-eqb, ne_eqb}
use Rattle.answer.specs.Choice.{pick}
use Rattle.octets.proofs.Parts.{tail}
use Rattle.inet.specs.Sum.{words, fold}
use Rattle.inet.specs.SumLaws.{fold-fits, fold_completes}
use Rattle.inet.specs.Packet.{version_of, protocol_byte, put16, lowered}
use Rattle.inet.specs.Transport.{address_words, pseudo_sum, seed, set_field, field_is, sent, finish, completion, damaged}
use Rattle.inet.specs.Fronts.{Summable, CountsBehind}
use Rattle.inet.proofs.WordLaws.{fold_add, fold_cong, fold_append_none, fold_append_even, fold_append_odd}
use Rattle.inet.proofs.HeaderLaws.{pick_4, pick_not_4}
use Rattle.inet.proofs.FieldLaws.{put_other, drop_put_from, words-put}
use Rattle.inet.proofs.LoweredLaws.{pick_same, lowered_length, lowered-version, lowered-at, lowered_drop, lowered_drop_6, lowered-protocol_byte}

-- both addresses, version by version
module _ (p : List ℕ) where
  pub address_words_4 : version_of p ≡ 4 → address_words p ≡ words (take 8 (drop 12 p))
  unfolding address_words
  address_words_4 e = pick_4 (version_of p) (words (take 8 (drop 12 p))) (words (take 32 (drop 8 p))) 0 e

  pub address_words_not_4 : (version_of p ≡ 4 → ⊥) → address_words p ≡ words (take 32 (drop 8 p))
  unfolding address_words
  address_words_not_4 n = pick_not_4 (version_of p) (words (take 8 (drop 12 p))) (words (take 32 (drop 8 p))) 0 n

-- the steps by which the code makes a seed
pub seed_steps : (start : ℕ) (p : List ℕ) (r b l : ℕ) → fold r ≡ fold (address_words p) → b ≡ protocol_byte p → l ≡ length p - start → fold (r + b + l) ≡ seed start p
unfolding seed
seed_steps start p r b l e f g =
    let x : r + b + l ≡ r + (protocol_byte p + (length p - start)) = omega arith in
    let y : address_words p + (protocol_byte p + (length p - start)) ≡ pseudo_sum start p = omega arith in
    ap fold x ∙ fold_cong r (address_words p) (protocol_byte p + (length p - start)) e ∙ ap fold y

-- a checksum as it is sent
module _ (protocol s : ℕ) where
  pub sent-udp : s ≡ 0 → protocol ≡ 17 → sent protocol s ≡ 65535
  unfolding sent
  sent-udp e f = simp (eq-eqb s 0 e, eq-eqb protocol 17 f)

  pub sent-other : (protocol ≡ 17 → ⊥) → sent protocol s ≡ s
  unfolding sent
  sent-other n = go (eqb s 0)
    where
      go : (b : Bool) → pick (b && eqb protocol 17) 65535 s ≡ s
      go true = rw (ne_eqb protocol 17 n)
      go false = refl

  pub sent_nonzero : (s ≡ 0 → ⊥) → sent protocol s ≡ s
  unfolding sent
  sent_nonzero n = simp (ne_eqb s 0 n)

-- ---- a packet in two parts

-- what a tail counts: nothing, or its words, or behind an odd number of bytes 256 times as much
module _ (n : ℕ) (tail : List ℕ) where
  pub counts_none : length tail ≡ 0 → CountsBehind n tail 0
  counts_none e = record { added = λ s l. fold_append_none s tail e }

  pub counts_even : {r : ℕ} → n % 2 ≡ 0 → r ≡ words tail → CountsBehind n tail r
  counts_even h e = record { added = λ s l. ap (λ (k : ℕ). fold (words s + k)) e ∙ fold_append_even s tail (ap (λ (k : ℕ). k % 2) l ∙ h) }

  pub counts_odd : {r : ℕ} → (n % 2 ≡ 0 → ⊥) → r ≡ words tail → CountsBehind n tail (r * 256)
  counts_odd h e =
      record { added = λ s l. ap (λ (k : ℕ). fold (words s + k * 256)) e ∙ fold_append_odd s tail (ap (λ (k : ℕ). k % 2) l ∙ omega arith) }

-- the protocol byte stands in the first part
joined-protocol_byte : (front tail : List ℕ) → 10 ≤ length front → protocol_byte (front ++ tail) ≡ protocol_byte front
unfolding protocol_byte
joined-protocol_byte front tail h =
    rw (get_or-append front tail 0 0 (omega arith), get_or-append front tail 0 9 (omega arith), get_or-append front tail 0 6 (omega arith))

-- the steps by which the code finishes a checksum, and its three ends
module _ (front rest : List ℕ) (start : ℕ) (ready : Summable start front rest) (near : ℕ) {far f : ℕ} (first : fold near ≡ fold (words (take (length front - start) (drop start front)))) (second : CountsBehind (length front - start) rest far) (folded : f ≡ fold (near + far)) where
  summed : f ≡ fold (words (drop start (front ++ rest)))
  summed =
      let s = drop start front in
      folded ∙ fold_cong near (words s) far (first ∙ ap (λ (x : List ℕ). fold (words x)) (tail start front)) ∙ second.added s (length-drop start front)
      ∙ ap (λ (x : List ℕ). fold (words x)) (sym (drop-append-le start front rest ready.inside))

  finish_steps : finish start (front ++ rest) ≡ sent (protocol_byte front) (65535 - f)
  unfolding finish
  finish_steps = rw (← summed, joined-protocol_byte front rest ready.headed)

  pub finish-udp : 65535 - f ≡ 0 → protocol_byte front ≡ 17 → finish start (front ++ rest) ≡ 65535
  finish-udp z e = finish_steps ∙ sent-udp (protocol_byte front) (65535 - f) z e

  pub finish-other : (protocol_byte front ≡ 17 → ⊥) → finish start (front ++ rest) ≡ 65535 - f
  finish-other n = finish_steps ∙ sent-other (protocol_byte front) (65535 - f) n

  pub finish_nonzero : (65535 - f ≡ 0 → ⊥) → finish start (front ++ rest) ≡ 65535 - f
  finish_nonzero n = finish_steps ∙ sent_nonzero (protocol_byte front) (65535 - f) n

-- what lowering a packet keeps
module _ (p : List ℕ) where
  pub lowered-address_words : address_words (lowered p) ≡ address_words p
  unfolding address_words
  lowered-address_words =
      ap (λ (v : ℕ). pick (eqb v 4) (words (take 8 (drop 12 (lowered p)))) (words (take 32 (drop 8 (lowered p))))) (lowered-version p)
      ∙ pick_same (eqb (version_of p) 4) (words (take 8 (drop 12 (lowered p)))) (words (take 32 (drop 8 (lowered p)))) (words (take 8 (drop 12 p))) (words (take 32 (drop 8 p)))
      (λ _. ap (λ (l : List ℕ). words (take 8 l)) (lowered_drop p 12 (omega arith)))
      (λ e. ap (λ (l : List ℕ). words (take 32 l)) (lowered_drop_6 p (eqb-false _ _ e) 8 (omega arith)))

  pub lowered-seed : (start : ℕ) → seed start (lowered p) ≡ seed start p
  unfolding seed
  lowered-seed start = rw (lowered-address_words, lowered-protocol_byte p, lowered_length p)

  pub lowered-field_is : (field v : ℕ) → 12 ≤ field → field_is field v (lowered p) ≡ field_is field v p
  unfolding field_is
  lowered-field_is field v h =
      rw (lowered-at p field (omega arith) (omega arith) (omega arith) (omega arith), lowered-at p (field + 1) (omega arith) (omega arith) (omega arith) (omega arith))

-- a word put past the header's bytes leaves the protocol byte
pub set_field-protocol_byte : (field v : ℕ) (p : List ℕ) → 10 ≤ field → protocol_byte (set_field field v p) ≡ protocol_byte p
unfolding protocol_byte
set_field-protocol_byte field v p h =
    rw (put_other p field v 0 (omega arith) (omega arith), put_other p field v 9 (omega arith) (omega arith), put_other p field v 6 (omega arith) (omega arith))

-- a checksum is of the bytes from start on and the protocol byte
pub finish-same : (start : ℕ) (q r : List ℕ) → drop start q ≡ drop start r → protocol_byte q ≡ protocol_byte r → finish start q ≡ finish start r
unfolding finish
finish-same start q r e f = rw (e, f)

module _ (p : List ℕ) (field start : ℕ) (low : 12 ≤ start) (in_order : start ≤ field) where
  lowered_set_drop : (v : ℕ) → drop start (set_field field v (lowered p)) ≡ drop start (set_field field v p)
  lowered_set_drop v =
      drop_put_from (lowered p) start field v in_order ∙ ap (λ (l : List ℕ). put16 l (field - start) v) (lowered_drop p start low)
      ∙ sym (drop_put_from p start field v in_order)

  lowered_set_byte : (v : ℕ) → protocol_byte (set_field field v (lowered p)) ≡ protocol_byte (set_field field v p)
  lowered_set_byte v =
      set_field-protocol_byte field v (lowered p) (omega arith) ∙ lowered-protocol_byte p ∙ sym (set_field-protocol_byte field v p (omega arith))

  pub lowered-completion : completion field start (lowered p) ≡ completion field start p
  unfolding completion
  lowered-completion =
      ap (λ (v : ℕ). finish start (set_field field v (lowered p))) (lowered-seed p start)
      ∙ finish-same start (set_field field (seed start p) (lowered p)) (set_field field (seed start p) p) (lowered_set_drop (seed start p)) (lowered_set_byte (seed start p))

  pub lowered-damaged : damaged field start (lowered p) ≡ damaged field start p
  unfolding damaged
  lowered-damaged = rw (lowered-completion, lowered_length p, lowered-field_is p field (completion field start p) (omega arith))

udp : (s : ℕ) → 0 < s → fold s ≡ 65535 → fold (s + 65535) ≡ 65535
unfolding fold
udp s h e = omega arith

-- a sum and the checksum that is sent for it add up
pub sent_completes : (protocol s : ℕ) → 0 < s → fold (s + sent protocol (65535 - fold s)) ≡ 65535
unfolding sent
sent_completes protocol s h = go (eqb (65535 - fold s) 0) refl (eqb protocol 17)
  where
    go : (a : Bool) → eqb (65535 - fold s) 0 ≡ a → (b : Bool) → fold (s + pick (a && b) 65535 (65535 - fold s)) ≡ 65535
    go true e true = udp s h (omega (arith, fold-fits s, eqb-true (65535 - fold s) 0 e))
    go true e false = fold_completes s h
    go false e b = fold_completes s h

-- what a receiver adds up: the pseudo-header and the words from start on of a packet with its checksum come to 65535
pub completed_sums : (field start : ℕ) (p : List ℕ) → start ≤ field → 10 ≤ field → (field - start) % 2 ≡ 0 → field + 1 < length p → fold (pseudo_sum start p + words (drop start (set_field field (completion field start p) p))) ≡ 65535
unfolding completion finish seed
completed_sums field start p g ten e h =
    let t = drop start p in
    let i = field - start in
    let k : i + 1 < length t = omega (arith, length-drop start p) in
    let s = pseudo_sum start p in
    let w = words (put16 t i 0) in
    let z : 0 < s + w = omega arith in
    let f : fold (words (drop start (set_field field (fold s) p))) ≡ fold (s + w) =
    ap (λ (l : List ℕ). fold (words l)) (drop_put_from p start field (fold s) g)
    ∙ ap fold (words-put t i (fold s) e k)
    ∙ ap fold (omega arith)
    ∙ fold_add s w
    in
    let c = sent (protocol_byte p) (65535 - fold (s + w)) in
    rw (f, set_field-protocol_byte field (fold s) p ten, drop_put_from p start field c g)
    (ap fold (omega (arith, words-put t i c e k)) ∙ sent_completes (protocol_byte p) (s + w) z)
