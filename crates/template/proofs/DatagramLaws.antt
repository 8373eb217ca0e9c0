-- Opening the datagram of a packet gives the packet. Assumes nothing.
use Prim.Native.Nat.{ℕ, ◌+◌, ◌≤◌, ◌<◌}
use mathlib.Core.Path.{◌≡◌, refl, ap, sym, ◌∙◌}
use mathlib.Core.List.{List, ◌++◌}
use mathlib.Core.Bool.{true}
use native.Mathlib.Omega.{arith}
use lib.Dec.{lit<}
use lib.ListN.{length, length-append}
use lib.Seq.{drop_at}
use borrow.Author.Tests.{le-leb, ne_eqb}
use Rattle.varint.specs.Numbers.{limit, room, encode, encoded_size}
use Rattle.varint.proofs.RoundTrip.{read-encode}
use Rattle.varint.proofs.Encoding.{length_encode, size-bounds}
use Rattle.table.specs.Sound.{SoundTemplate, SoundTemplates}
use Rattle.table.specs.Templates.{Template}
use Rattle.template.specs.Fits.{fits, Choice, full, short, first_fit, listed, with_id}
use Rattle.template.specs.Members.{In, Distinct}
use Rattle.template.specs.Datagrams.{max_packet, seeded, short_form, full_form, form_of, datagram, packet, within_limit, open_body, opened}
use Rattle.template.proofs.PieceLaws.{length_strip_most}
use Rattle.template.proofs.RebuildLaws.{seeded_length, body, rebuilt-body, body-reaches}
use Rattle.template.proofs.ChoiceLaws.{with_id_in, first_fit_in, sound_in, sound_distinct}

-- opening what stands behind a Context ID
open_encode : (ts : List Template) (id : ℕ) (v : List ℕ) → id < limit → opened ts (encode id ++ v) ≡ open_body ts id v
unfolding opened
open_encode ts id v h = rw (read-encode id v h, drop_at (encode id) v (encoded_size id) (length_encode id))

within : (q : List ℕ) → length q ≤ max_packet → within_limit q ≡ packet q
within q h = rw (le-leb (length q) max_packet h)

-- the full form stands for its packet, under any templates
pub open_full : (ts : List Template) (p : List ℕ) → length p ≤ max_packet → opened ts (full_form p) ≡ packet p
unfolding full_form
open_full ts p h = open_encode ts 0 p (lit< tt) ∙ within p h

-- the short form by a template that fits
pub open_short_lem : (ts : List Template) (t : Template) (p : List ℕ) → SoundTemplate t → with_id t.id ts ≡ listed t → fits t p ≡ true → length p ≤ max_packet → opened ts (short_form t p) ≡ packet p
unfolding short_form
open_short_lem ts t p sound w f h =
    open_encode ts t.id (body t p) sound.below
    ∙ rw (ne_eqb t.id 0 (λ e. omega (arith, sound.above)), w, body-reaches t p sound f, rebuilt-body t p sound f) (within p h)

-- the law, for templates in any order whose Context IDs are distinct
pub open_datagram_distinct : (ts : List Template) (p : List ℕ) → Distinct ts → ((t : Template) → In t ts → SoundTemplate t) → length p ≤ max_packet → opened ts (datagram ts p) ≡ packet p
unfolding datagram
open_datagram_distinct ts p d s h = go (first_fit ts p) refl
  where
    go : (c : Choice) → first_fit ts p ≡ c → opened ts (form_of c p) ≡ packet p
    go full e = open_full ts p h
    go (short t) e = let m = first_fit_in t ts p e in open_short_lem ts t p (s t m.0) (with_id_in t ts d m.0) m.1 h

-- the law: the datagram of a packet stands for the packet
pub open_datagram : (ts : List Template) (p : List ℕ) → SoundTemplates 0 ts → length p ≤ max_packet → opened ts (datagram ts p) ≡ packet p
open_datagram ts p s h = open_datagram_distinct ts p (sound_distinct ts 0 s) (λ t m. sound_in t ts 0 s m) h

-- so no two packets have the same datagram
pub datagram_injective : (ts : List Template) (p q : List ℕ) → SoundTemplates 0 ts → length p ≤ max_packet → length q ≤ max_packet → datagram ts p ≡ datagram ts q → p ≡ q
datagram_injective ts p q s h k e =
    let z : packet p ≡ packet q = sym (open_datagram ts p s h) ∙ ap (opened ts) e ∙ open_datagram ts q s k in
    cc

length_form : (c : Choice) (p : List ℕ) → length (form_of c p) ≤ length p + room
unfolding full_form short_form
length_form full p = rw (length-append (encode 0) p, length_encode 0) (omega (arith, (size-bounds 0).1))
length_form (short t) p =
    let l = length_strip_most t.pieces 0 (seeded t.sum p) in
    rw (length-append (encode t.id) (body t p), length_encode t.id) (omega (arith, (size-bounds t.id).1, seeded_length t.sum p))

-- a datagram is longer than its packet by a Context ID at most
pub length_datagram : (ts : List Template) (p : List ℕ) → length (datagram ts p) ≤ length p + room
unfolding datagram
length_datagram ts p = length_form (first_fit ts p) p
