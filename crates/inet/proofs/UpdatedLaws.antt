-- The header checksum of a packet with one hop fewer, by the update of RFC 1624: `equation3_recomputes` of the header's words. Assumes nothing.
use mathlib.Core.Path.{◌≡◌, refl, sym, ap, ◌∙◌}
use mathlib.Core.Bool.{true}
use mathlib.Core.List.{List}
use Prim.Native.Nat.{ℕ, ◌+◌, ◌-◌, ◌*◌, ◌/◌, ◌%◌, ◌≤◌, ◌<◌}
use native.Mathlib.Omega.{arith}
use lib.ListN.{length, get_or, take, set, length-set, length-take}
use lib.Seq.{get_or-set_other, get_or-take}
use Rattle.octets.specs.Big.{Bytes}
use Rattle.inet.specs.Sum.{words, fold}
use Rattle.inet.specs.Update.{equation3, after_hop}
use Rattle.inet.specs.UpdateLaws.{equation3_recomputes, equation3_hop}
use Rattle.inet.specs.Packet.{version_of, header_length, form, Form, Headed4, hops_of, put16, hop4, header_check, lowered4, lowered}
use Rattle.inet.specs.Transport.{field_of}
use Rattle.inet.proofs.WordLaws.{words_pos}
use Rattle.inet.proofs.FormFacts.{form_facts, form-headed, is_headed4}
use Rattle.inet.proofs.HeaderLaws.{hops_of_4}
use Rattle.inet.proofs.LoweredLaws.{lowered_4, lowered_at_4, lowered-version, lowered-hops_of}
use Rattle.inet.proofs.FieldLaws.{put_length, put_other, put_take, put-high, field_put, words-put, words-field}

-- a header, and the same with v in the place of hop count and protocol and with no checksum
module _ (l : List ℕ) (long : 12 ≤ length l) (nine : get_or l 9 0 < 256) (eleven : get_or l 11 0 < 256) where
  words_changed : (v : ℕ) → words (put16 (put16 l 8 v) 10 0) + field_of 8 l + field_of 10 l ≡ words l + v
  words_changed v =
      let a : get_or (put16 l 8 v) 10 0 ≡ get_or l 10 0 = put_other l 8 v 10 (omega arith) (omega arith) in
      let b : get_or (put16 l 8 v) 11 0 ≡ get_or l 11 0 = put_other l 8 v 11 (omega arith) (omega arith) in
      let n : length (put16 l 8 v) ≡ length l = put_length l 8 v in
      let q = words-field (put16 l 8 v) 10 refl (omega arith) (omega arith) in
      let r = words-field l 8 refl (omega arith) nine in
      let s = words-put l 8 v refl (omega arith) in
      omega arith

-- the word of hop count and protocol, with one hop fewer
hop4-word : (p : List ℕ) → get_or p 9 0 < 256 → 1 ≤ get_or p 8 0 → hop4 p ≡ put16 p 8 (field_of 8 p - 256)
hop4-word p b h =
    let e : (field_of 8 p - 256) / 256 ≡ get_or p 8 0 - 1 = omega arith in
    sym (put-high p 8 (field_of 8 p - 256) (omega arith) ∙ ap (set p 8) e)

-- all of an IPv4 header is here, and its words sum to 65535: the checksum made again after a hop is the updated one
module _ (p : List ℕ) (f : Headed4 p) (bytes : Bytes p) (hop : 1 ≤ get_or p 8 0) where
  head_at : (i : ℕ) → i < 20 → get_or (take (header_length p) p) i 0 ≡ get_or p i 0
  head_at i h = get_or-take (header_length p) p i 0 (omega arith)

  head_hop : take (header_length (hop4 p)) (put16 (hop4 p) 10 0) ≡ put16 (put16 (take (header_length p) p) 8 (field_of 8 p - 256)) 10 0
  head_hop =
      let e : get_or (hop4 p) 0 0 ≡ get_or p 0 0 = get_or-set_other p 8 0 _ 0 (omega arith) in
      ap (λ (b : ℕ). take (b % 16 * 4) (put16 (hop4 p) 10 0)) e
      ∙ put_take (hop4 p) 10 0 (header_length p) (omega arith)
      ∙ ap (λ (l : List ℕ). put16 (take (header_length p) l) 10 0) (hop4-word p (bytes 9) hop)
      ∙ ap (λ (l : List ℕ). put16 l 10 0) (put_take p 8 (field_of 8 p - 256) (header_length p) (omega arith))

  pub check_updated : equation3 (field_of 10 p) (field_of 8 p) (field_of 8 p - 256) ≡ header_check (hop4 p)
  unfolding header_check
  check_updated =
      let l : List ℕ = take (header_length p) p in
      let v : ℕ = field_of 8 p - 256 in
      let others : ℕ = words (put16 (put16 l 8 0) 10 0) in
      let n : 12 ≤ length l = omega (arith, length-take (header_length p) p) in
      let h8 : get_or l 8 0 ≡ get_or p 8 0 = head_at 8 (omega arith) in
      let h9 : get_or l 9 0 ≡ get_or p 9 0 = head_at 9 (omega arith) in
      let h10 : get_or l 10 0 ≡ get_or p 10 0 = head_at 10 (omega arith) in
      let h11 : get_or l 11 0 ≡ get_or p 11 0 = head_at 11 (omega arith) in
      let changed = words_changed l n (omega (arith, bytes 9)) (omega (arith, bytes 11)) in
      let none : others + field_of 8 p + field_of 10 p ≡ words l = omega (arith, changed 0) in
      let less : others + v ≡ words (put16 (put16 l 8 v) 10 0) = omega (arith, changed v) in
      let first : get_or (put16 (put16 l 8 0) 10 0) 0 0 ≡ get_or p 0 0 =
      put_other (put16 l 8 0) 10 0 0 (omega arith) (omega arith) ∙ put_other l 8 0 0 (omega arith) (omega arith) ∙ head_at 0 (omega arith)
      in
      let some : 0 < others = words_pos (put16 (put16 l 8 0) 10 0) (omega arith) in
      equation3_recomputes (field_of 10 p) (field_of 8 p) v others (omega (arith, bytes 10, bytes 11)) (omega (arith, bytes 8, bytes 9)) (omega arith) (omega arith) (ap fold none ∙ f.sum)
      ∙ ap (λ (w : ℕ). 65535 - fold w) less
      ∙ ap (λ (l : List ℕ). 65535 - fold (words l)) (sym head_hop)

  -- the steps by which the code lowers an IPv4 packet
  pub lower4_steps : {hc v : ℕ} {r : List ℕ} → hc ≡ field_of 10 p → v ≡ after_hop hc → r ≡ put16 (hop4 p) 10 v → r ≡ lowered4 p
  unfolding lowered4
  lower4_steps e1 e2 e3 =
      let u : after_hop (field_of 10 p) ≡ header_check (hop4 p) = sym (equation3_hop (field_of 10 p) (field_of 8 p) (omega arith) (omega (arith, bytes 8, bytes 9))) ∙ check_updated in
      rw (e3, e2, e1) (ap (put16 (hop4 p) 10) u)

field-lowered : (p : List ℕ) → 12 ≤ length p → field_of 10 (lowered4 p) ≡ header_check (hop4 p)
unfolding lowered4
field-lowered p h = field_put (hop4 p) 10 (header_check (hop4 p)) (omega (arith, length-set p 8 (get_or p 8 0 - 1)))

-- what stands in the checksum's field of a packet with one hop fewer
pub lowered_updates : (p : List ℕ) → Bytes p → version_of p ≡ 4 → form p ≡ true → 1 ≤ hops_of p
    → field_of 10 (lowered p) ≡ equation3 (field_of 10 p) (field_of 8 p) (field_of 8 (lowered p))
lowered_updates p bytes four good hops =
    let f : Form p = form_facts p good in
    let hop : 1 ≤ get_or p 8 0 = omega (arith, hops_of_4 p four) in
    let eight : get_or (lowered p) 8 0 ≡ get_or p 8 0 - 1 =
    sym (hops_of_4 (lowered p) (lowered-version p ∙ four)) ∙ lowered-hops_of p f ∙ ap (λ (h : ℕ). h - 1) (hops_of_4 p four)
    in
    let nine : get_or (lowered p) 9 0 ≡ get_or p 9 0 = lowered_at_4 p four 9 (omega arith) (omega arith) (omega arith) in
    let word : field_of 8 p - 256 ≡ field_of 8 (lowered p) = omega arith in
    ap (field_of 10) (lowered_4 p four)
    ∙ field-lowered p (omega (arith, f.long))
    ∙ sym (check_updated p (is_headed4 p (form-headed p f) four) bytes hop)
    ∙ ap (equation3 (field_of 10 p) (field_of 8 p)) word
