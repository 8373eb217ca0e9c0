-- Reading what was written gives it back, step by step. Assumes nothing.
use Prim.Native.Nat.{ℕ, ◌≤◌, ◌<◌}
use mathlib.Core.Path.{◌≡◌, refl, sym, ap, ◌∙◌}
use mathlib.Core.Bool.{true}
use mathlib.Core.List.{List, [], ◌∷◌, ◌++◌, map, append_assoc, append-nil}
use native.Mathlib.Omega.{arith}
use borrow.Author.Tests.{le-leb, eq-eqb}
use lib.ListN.{length, drop, length-append}
use lib.Seq.{take-append_seam, drop-append_seam}
use Rattle.answer.proofs.Tests.{and_both}
use Rattle.varint.specs.Numbers.{limit, encode, encoded_size}
use Rattle.varint.proofs.Encoding.{length_encode}
use Rattle.varint.proofs.RoundTrip.{read-encode}
use Rattle.table.specs.declared.Segment.{Segment}
use Rattle.table.specs.Limits.{max_templates, max_segments}
use Rattle.table.specs.Templates.{Piece, piece_end, segment_of, Sum, no_sum, sum_at, Template}
use Rattle.table.specs.Rules.{segment_rule, sum_rule, all_clear, sound_templates}
use Rattle.table.specs.File.{found, mark, version, piece_bytes, pieces_bytes, sum_bytes, template_bytes, templates_bytes, plan_bytes, number_in, two_in, bytes_in, piece_in, pieces_in, sum_in, body_in, template_in, templates_in, plan_in}
use Rattle.table.proofs.RuleCases.{id_facts, segment_facts, sum_facts}
use Rattle.table.proofs.SoundCases.{PiecesOk, SumOk, TemplateOk, TemplatesOk, sound-ok}

pub number_encoded : (v : ℕ) (rest : List ℕ) → v < limit → number_in (encode v ++ rest) ≡ found v rest
unfolding number_in
number_encoded v rest h =
    let d : drop (encoded_size v) (encode v ++ rest) ≡ rest = rw (← length_encode v) (drop-append_seam (encode v) rest) in
    rw (read-encode v rest h, eq-eqb (encoded_size v) (encoded_size v) refl, d)

pub two_encoded : (a b : ℕ) (rest : List ℕ) → a < limit → b < limit → two_in (encode a ++ (encode b ++ rest)) ≡ found (a, b) rest
unfolding two_in
two_encoded a b rest h k = rw (number_encoded a (encode b ++ rest) h, number_encoded b rest k)

pub bytes_encoded : (bs rest : List ℕ) → bytes_in (length bs) (bs ++ rest) ≡ found bs rest
unfolding bytes_in
bytes_encoded bs rest =
    let l : length bs ≤ length (bs ++ rest) = rw length-append (omega arith) in
    rw (le-leb (length bs) (length (bs ++ rest)) l, take-append_seam bs rest, drop-append_seam bs rest)

module _ (ended : ℕ) (p : Piece) (rest : List ℕ) (r : segment_rule ended p.offset (length p.bytes) ≡ true) where
  pub piece_encoded : piece_in ended (piece_bytes p ++ rest) ≡ found p rest
  unfolding piece_in
  piece_encoded =
      let f = segment_facts ended p.offset (length p.bytes) r in
      let o : p.offset < limit = omega (arith, f.within) in
      let n : length p.bytes < limit = omega (arith, f.within) in
      let e : piece_bytes p ++ rest ≡ encode p.offset ++ (encode (length p.bytes) ++ (p.bytes ++ rest)) =
      append_assoc (encode p.offset) (encode (length p.bytes) ++ p.bytes) rest ∙ ap (λ (l : List ℕ). encode p.offset ++ l) (append_assoc (encode (length p.bytes)) p.bytes rest)
      in
      rw (e, two_encoded p.offset (length p.bytes) (p.bytes ++ rest) o n, r, bytes_encoded p.bytes rest)

pub pieces_encoded : (ended : ℕ) (ps : List Piece) (rest : List ℕ) → PiecesOk ended ps → pieces_in (length ps) ended (pieces_bytes ps ++ rest) ≡ found ps rest
unfolding pieces_in
pieces_encoded ended [] rest o = refl
pieces_encoded ended (p ∷ ps) rest o =
    rw (append_assoc (piece_bytes p) (pieces_bytes ps) rest, piece_encoded ended p (pieces_bytes ps ++ rest) o.0, pieces_encoded (piece_end p) ps rest o.1)

pub sum_encoded : (ss : List Segment) (k : Sum) (rest : List ℕ) → SumOk ss k → sum_in ss (sum_bytes k ++ rest) ≡ found k rest
unfolding sum_in
sum_encoded ss no_sum rest o = rw o
sum_encoded ss (sum_at field start) rest o =
    let f = sum_facts field start (and_both (sum_rule field start) (all_clear field ss) o).0 in
    let a : field < limit = omega (arith, f.within) in
    let b : start < limit = omega (arith, f.within, f.behind) in
    rw (append_assoc (encode field) (encode start) rest, two_encoded field start rest a b, o)

module _ (previous : ℕ) (t : Template) (rest : List ℕ) (o : TemplateOk previous t) where
  body_encoded : body_in t.id (length t.pieces ∷ (pieces_bytes t.pieces ++ (sum_bytes t.sum ++ rest))) ≡ found t rest
  unfolding body_in
  body_encoded =
      rw
      (le-leb (length t.pieces) max_segments o.few, pieces_encoded 0 t.pieces (sum_bytes t.sum ++ rest) o.pieces, sum_encoded (map segment_of t.pieces) t.sum rest o.sum)

  pub template_encoded : template_in previous (template_bytes t ++ rest) ≡ found t rest
  unfolding template_in
  template_encoded =
      let e : template_bytes t ++ rest ≡ encode t.id ++ (length t.pieces ∷ (pieces_bytes t.pieces ++ (sum_bytes t.sum ++ rest))) =
      append_assoc (encode t.id) (length t.pieces ∷ (pieces_bytes t.pieces ++ sum_bytes t.sum)) rest ∙ ap (λ (l : List ℕ). encode t.id ++ (length t.pieces ∷ l)) (append_assoc (pieces_bytes t.pieces) (sum_bytes t.sum) rest)
      in
      let b : t.id < limit = (id_facts previous t.id o.id).below in
      rw (e, number_encoded t.id (length t.pieces ∷ (pieces_bytes t.pieces ++ (sum_bytes t.sum ++ rest))) b, o.id) body_encoded

pub templates_encoded : (previous : ℕ) (ts : List Template) (rest : List ℕ) → TemplatesOk previous ts → templates_in (length ts) previous (templates_bytes ts ++ rest) ≡ found ts rest
unfolding templates_in
templates_encoded previous [] rest o = refl
templates_encoded previous (t ∷ ts) rest o =
    rw (append_assoc (template_bytes t) (templates_bytes ts) rest, template_encoded previous t (templates_bytes ts ++ rest) o.0, templates_encoded t.id ts rest o.1)

pub plan_encoded : (ts : List Template) → length ts ≤ max_templates → TemplatesOk 0 ts → plan_in (plan_bytes ts) ≡ found ts []
unfolding plan_in plan_bytes
plan_encoded ts h o =
    let e : templates_in (length ts) 0 (templates_bytes ts) ≡ found ts [] = rw append-nil at (templates_encoded 0 ts [] o) in
    rw (bytes_encoded mark (version ++ (length ts ∷ templates_bytes ts)), bytes_encoded version (length ts ∷ templates_bytes ts), le-leb (length ts) max_templates h, e)

-- the file of sound templates is read as those templates
pub read-written : (ts : List Template) → sound_templates ts ≡ true → plan_in (plan_bytes ts) ≡ found ts []
read-written ts s = let o = sound-ok ts s in plan_encoded ts o.few o.each

-- sound templates with the same file are the same
pub same-file : (ts us : List Template) → sound_templates ts ≡ true → sound_templates us ≡ true → plan_bytes ts ≡ plan_bytes us → ts ≡ us
same-file ts us s t e =
    let a = read-written ts s in
    let b = read-written us t in
    let d : found ts [] ≡ found us [] = sym a ∙ ap plan_in e ∙ b in
    cc
