-- What a search that found a template, or none, says of the datagram, and of what the code may do next. Assumes nothing.
use Prim.Native.Nat.{ℕ, ◌+◌, ◌≤◌, min}
use mathlib.Core.Path.{◌≡◌, ap, ◌∙◌}
use mathlib.Core.List.{List, ◌++◌}
use mathlib.Core.Bool.{true}
use native.Mathlib.Omega.{arith}
use lib.ListN.{length, take, drop, length-take, length-drop}
use Rattle.varint.specs.Numbers.{encode}
use Rattle.inet.specs.Packet.{lowered}
use Rattle.inet.proofs.LoweredLaws.{lowered_length}
use Rattle.table.specs.Limits.{static_limit}
use Rattle.table.specs.Sound.{SoundSum, UsableTemplate, Usable}
use Rattle.table.specs.Templates.{Piece, Sum, no_sum, sum_at}
use Rattle.table.specs.Words.{template_of, words_at, templates_of}
use Rattle.template.specs.Pieces.{strip}
use Rattle.template.specs.Fits.{full, fits, first_fit}
use Rattle.template.specs.Datagrams.{seeded, short_form, full_form, form_of, datagram, sum_end}
use Rattle.template.specs.Usable.{seed_of, ChosenAt, Fillable, Shortenable, pieces_of}
use Rattle.template.proofs.PieceLaws.{fits-end}
use Rattle.template.proofs.Sizes.{end-limit}
use Rattle.template.proofs.CompletionLaws.{seed-fits}
use Rattle.template.proofs.FrontLaws.{front_length}
use Rattle.template.proofs.RebuildLaws.{seeded_length, fits_sum-end, fits_both}
use Rattle.template.proofs.ChoiceLaws.{first_fit_in}

module _ (w p : List ℕ) where
  -- none was found: the datagram is the full form
  pub chosen_full : first_fit (templates_of w) p ≡ full → datagram (templates_of w) p ≡ encode 0 ++ p
  unfolding datagram full_form
  chosen_full c = ap (λ x. form_of x p) c

  module _ (i v : ℕ) (c : ChosenAt w p i v) where
    -- one was found: the datagram is its short form
    pub chosen_short : datagram (templates_of w) p ≡ encode (template_of (words_at w i)).id ++ strip 0 (pieces_of (words_at w i)) (seeded (template_of (words_at w i)).sum p)
    unfolding datagram short_form
    chosen_short = ap (λ x. form_of x p) c.choice

    pub chosen_fits : fits (template_of (words_at w i)) p ≡ true
    chosen_fits = (first_fit_in (template_of (words_at w i)) (templates_of w) p c.choice).1

    pub chosen_usable : Usable w → UsableTemplate (words_at w i)
    chosen_usable u = u.all i c.within

sum-limit : (k : Sum) (ps : List Piece) → SoundSum k ps → sum_end k ≤ static_limit
sum-limit no_sum ps s = omega arith
sum-limit (sum_at field start) ps s = s.high

seed_of-fits : (k : Sum) (p : List ℕ) → seed_of k p ≤ 65535
seed_of-fits no_sum p = omega arith
seed_of-fits (sum_at field start) p = seed-fits start p

-- a template that fits the packet p as it goes on
module _ (t p : List ℕ) (u : UsableTemplate t) (f : fits (template_of t) (lowered p) ≡ true) where
  pub fits_fillable : {front : List ℕ} {v : ℕ} → front ≡ take static_limit (lowered p) → v ≡ seed_of (template_of t).sum (lowered p) → Fillable t v front
  fits_fillable e s =
      let a = fits_sum-end (template_of t).sum (lowered p) (fits_both (template_of t) (lowered p) f).1 in
      let b = sum-limit (template_of t).sum (pieces_of t) u.sound.summed in
      record {
        usable = u;
        small = omega (arith, seed_of-fits (template_of t).sum (lowered p));
        inside = omega (arith, front_length p e, lowered_length p);
      }

  -- its segments end in the front of the packet with the seed
  pub fits_shortenable : {front q out : List ℕ} {at : ℕ} → front ≡ take static_limit (lowered p) → q ≡ take static_limit (seeded (template_of t).sum (lowered p)) → at + length p ≤ length out
      → Shortenable t q (drop (length front) p) out at
  fits_shortenable {front} {q} e g h =
      let m = front_length p e in
      let l : length q ≡ min static_limit (length p) = ap length g ∙ length-take static_limit (seeded (template_of t).sum (lowered p)) ∙ ap (min static_limit) (seeded_length (template_of t).sum (lowered p) ∙ lowered_length p) in
      let d = length-drop (length front) p in
      let a = end-limit (pieces_of t) 0 u.sound.ascends in
      let b = fits-end (pieces_of t) 0 (lowered p) (omega arith) (fits_both (template_of t) (lowered p) f).0 in
      record { usable = u; inside = omega (arith, lowered_length p); room = omega arith }
