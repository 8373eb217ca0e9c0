-- A packet that a template fits is rebuilt from its bytes outside the segments, with the seed in the field. Assumes nothing.
use Prim.Native.Nat.{ℕ, ◌+◌, ◌≤◌}
use mathlib.Core.Path.{◌≡◌, refl, ap, ◌∙◌}
use mathlib.Core.List.{List}
use mathlib.Core.Bool.{true}
use native.Mathlib.Omega.{arith}
use lib.ListN.{length}
use lib.Dec.{leb}
use borrow.Author.Tests.{leb-true, le-leb}
use Rattle.answer.proofs.Tests.{and_both}
use Rattle.inet.specs.Transport.{seed, finish, completion}
use Rattle.inet.proofs.FieldLaws.{set_field_length, field_is-back}
use Rattle.table.specs.Sound.{SoundSum, SoundTemplate}
use Rattle.table.specs.Templates.{Piece, Sum, no_sum, sum_at, Template, static_size}
use Rattle.template.specs.Pieces.{fits_pieces, strip, weave}
use Rattle.template.specs.Fits.{fits_sum, fits}
use Rattle.template.specs.Datagrams.{seeded, completed, rebuilt, sum_end, reaches}
use Rattle.template.proofs.PieceLaws.{strip-weave, length_strip, length_weave, fits-end, fits_set}

pub seeded_length : (k : Sum) (p : List ℕ) → length (seeded k p) ≡ length p
seeded_length no_sum p = refl
seeded_length (sum_at field start) p = set_field_length field (seed start p) p

-- the seed changes no segment
pub seeded-fits : (k : Sum) (ps : List Piece) (p : List ℕ) → SoundSum k ps → fits_pieces ps (seeded k p) ≡ fits_pieces ps p
seeded-fits no_sum ps p h = refl
seeded-fits (sum_at field start) ps p h = fits_set ps field (seed start p) p h.clear

-- completing the sum brings back what the seed took
pub completed-seeded : (k : Sum) (p : List ℕ) → fits_sum k p ≡ true → completed k (seeded k p) ≡ p
unfolding completion
completed-seeded no_sum p f = refl
completed-seeded (sum_at field start) p f =
    field_is-back field (completion field start p) (seed start p) p (and_both (leb (field + 2) (length p)) _ f).1

pub fits_sum-end : (k : Sum) (p : List ℕ) → fits_sum k p ≡ true → sum_end k ≤ length p
fits_sum-end no_sum p f = omega arith
fits_sum-end (sum_at field start) p f = leb-true (field + 2) (length p) (and_both (leb (field + 2) (length p)) _ f).0

pub fits_both : (t : Template) (p : List ℕ) → fits t p ≡ true → (fits_pieces t.pieces p ≡ true) × (fits_sum t.sum p ≡ true)
unfolding fits
fits_both t p f = and_both (fits_pieces t.pieces p) (fits_sum t.sum p) f

-- what goes behind the Context ID
abbrev pub body : Template → List ℕ → List ℕ
body t p = strip 0 t.pieces (seeded t.sum p)

pub completed_length : (k : Sum) (q : List ℕ) → length (completed k q) ≡ length q
completed_length no_sum q = refl
completed_length (sum_at field start) q = set_field_length field (finish start q) q

-- the length of the packet that some bytes stand for
pub length_rebuilt : (t : Template) (v : List ℕ) → length (rebuilt t v) ≡ static_size t.pieces + length v
unfolding rebuilt
length_rebuilt t v = completed_length t.sum (weave 0 t.pieces v) ∙ length_weave t.pieces 0 v

module _ (t : Template) (p : List ℕ) (sound : SoundTemplate t) (f : fits t p ≡ true) where
  fits-seeded : fits_pieces t.pieces (seeded t.sum p) ≡ true
  fits-seeded = seeded-fits t.sum t.pieces p sound.summed ∙ (fits_both t p f).0

  -- rebuilding gives the packet
  pub rebuilt-body : rebuilt t (body t p) ≡ p
  unfolding rebuilt
  rebuilt-body =
      ap (completed t.sum) (strip-weave t.pieces (seeded t.sum p) sound.ascends fits-seeded)
      ∙ completed-seeded t.sum p (fits_both t p f).1

  pub body_length : static_size t.pieces + length (body t p) ≡ length p
  body_length =
      let l = seeded_length t.sum p in
      let e = fits-end t.pieces 0 (seeded t.sum p) (omega arith) fits-seeded in
      let s = length_strip t.pieces (seeded t.sum p) sound.ascends e in
      omega arith

  pub body-reaches : reaches t (body t p) ≡ true
  unfolding reaches
  body-reaches =
      let l = fits-end t.pieces 0 p (omega arith) (fits_both t p f).0 in
      let s = fits_sum-end t.sum p (fits_both t p f).1 in
      rw (body_length, le-leb _ _ l, le-leb _ _ s)
