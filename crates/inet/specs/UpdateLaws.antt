-- Why the update of RFC 1624 may stand in the place of a sum over the whole header, and why it is equation 3. Assumes nothing.
use Rattle.std.specs.Prelude.{◌≡◌, refl, true, List, [], ◌∷◌, ℕ, ◌+◌, ◌-◌, ◌*◌, ◌/◌, ◌%◌, ◌≤◌, ◌<◌}
use Rattle.std.proofs.Common.{sym, ap, ◌∙◌, arith}
use Rattle.inet.specs.Sum.{words, fold}
use Rattle.inet.specs.SumLaws.{fold_quot, fold-past, fold_pos}
use Rattle.inet.specs.Update.{complement, equation3, hop_fewer, after_hop, equation2}
use Rattle.inet.specs.Packet.{form4, form6, form, put16, header_check, lowered4, lowered}
use Rattle.inet.specs.Transport.{field_of}

-- A header whose words fold to 65535: its checksum hc, one of its words m, and the sum of the others. When m becomes n, equation 3 gives the checksum
-- that is made again from all the words, whatever hc was, 0000 and FFFF included; only FFFF may not become 0000.
pub equation3_recomputes : (hc m n others : ℕ) → hc ≤ 65535 → m ≤ 65535 → 0 < complement m + n → 0 < others + n → fold (others + m + hc) ≡ 65535
    → equation3 hc m n ≡ complement (fold (others + n))
equation3_recomputes hc m n others word-hc word-m some rest e =
    let k : ℕ = (others + m + hc - 1) / 65535 in
    let q : others + m + hc ≡ fold (others + m + hc) + 65535 * k = fold_quot (others + m + hc) in
    let s : complement hc + complement m + n + 65535 * (k + 1) ≡ others + n + 65535 * 2 = omega arith in
    let f : fold (complement hc + complement m + n) ≡ fold (others + n) =
    sym (fold-past (complement hc + complement m + n) (k + 1) (omega arith)) ∙ ap fold s ∙ fold-past (others + n) 2 rest
    in ap complement f

-- and neither is ever FFFF
pub equation3-below : (hc m n : ℕ) → 0 < complement m + n → equation3 hc m n < 65535
equation3-below hc m n some = omega (arith, fold_pos (complement hc + complement m + n) (omega arith))

pub recomputed_below : (s : ℕ) → 0 < s → complement (fold s) < 65535
recomputed_below s h = omega (arith, fold_pos s h)

-- what a hop fewer makes of a checksum is equation 3, whatever the hop count and the protocol are
pub equation3_hop : (hc m : ℕ) → 256 ≤ m → m ≤ 65535 → equation3 hc m (m - 256) ≡ after_hop hc
equation3_hop hc m h k =
    let e : complement hc + complement m + (m - 256) ≡ complement hc + hop_fewer = omega arith in
    ap (λ (s : ℕ). complement (fold s)) e

-- it is 256 more, modulo 65535
pub after_hop_more : (hc : ℕ) → hc ≤ 65535 → after_hop hc ≡ (hc + 256) % 65535
unfolding fold
after_hop_more hc h = omega arith

-- FFFF that becomes 0000, in a header with the checksum FFFF: the others fold to 65535, so that the sum made again is 0000
all_ones_gone : equation3 0xffff 0xffff 0x0000 ≡ 0xffff
unfolding fold
all_ones_gone = refl

-- RFC 1624, section 4: m goes from 5555 to 3285, and the others fold to CD7A
equation3_rfc1624 : equation3 0xdd2f 0x5555 0x3285 ≡ 0x0000
unfolding fold
equation3_rfc1624 = refl

recomputed_rfc1624 : complement (fold (0xcd7a + 0x3285)) ≡ 0x0000
unfolding fold
recomputed_rfc1624 = refl

equation2_rfc1624 : equation2 0xdd2f 0x5555 0x3285 ≡ 0xffff
unfolding equation2 fold
equation2_rfc1624 = refl

-- UDP from 192.0.2.3 to 198.51.100.2 with 64 hops: an IPv4 header whose checksum is FEFF
abbrev pub feff : List ℕ
feff =
    0x45 ∷ 0x00 ∷ 0x00 ∷ 0x14 ∷ 0x8f ∷ 0xa0 ∷ 0x00 ∷ 0x00 ∷ 0x40 ∷ 0x11 ∷ 0xfe ∷ 0xff
    ∷ 0xc0 ∷ 0x00 ∷ 0x02 ∷ 0x03 ∷ 0xc6 ∷ 0x33 ∷ 0x64 ∷ 0x02 ∷ []

-- of good form; with one hop fewer the sum made again is 0000, as equation 3 has it, and equation 2 gives FFFF
pub record SecondDiffers : Type 0 where
  pub good : form feff ≡ true
  pub made_again : field_of 10 (lowered feff) ≡ 0x0000
  pub third : equation3 (field_of 10 feff) (field_of 8 feff) (field_of 8 (lowered feff)) ≡ 0x0000
  pub second : equation2 (field_of 10 feff) (field_of 8 feff) (field_of 8 (lowered feff)) ≡ 0xffff

pub second_differs : SecondDiffers
unfolding form form4 form6 lowered lowered4 header_check put16 equation2 fold words
second_differs = record { good = refl; made_again = refl; third = refl; second = refl }
