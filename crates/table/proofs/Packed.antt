-- The words that are packed of templates mean those templates, and what was read from a file is sound. Assumes nothing.
use Prim.Native.Nat.{ℕ, zero, suc, ◌+◌, ◌%◌, ◌≤◌, ◌<◌}
use mathlib.Core.Path.{◌≡◌, refl, sym, ap, ◌∙◌}
use mathlib.Core.Bool.{true}
use mathlib.Core.List.{List, [], ◌∷◌, ◌++◌, map, append_assoc}
use native.Mathlib.Omega.{arith}
use lib.Dec.{lit<}
use lib.ListN.{length, take, drop, get_or, replicate, length-append, length-drop, length-replicate}
use lib.Seq.{length-take-le, drop-cons, take-append-le, take-take, take-add, drop_at, take_at, get_or-append-add}
use Rattle.octets.specs.Big.{Bytes}
use Rattle.octets.proofs.BigLaws.{bytes_take, bytes_drop, bytes-front, bytes-behind, bytes_append}
use Rattle.octets.specs.Scan.{from}
use Rattle.octets.proofs.Scans.{from-same}
use Rattle.varint.specs.Numbers.{encode}
use Rattle.table.specs.declared.Segment.{Segment}
use Rattle.table.specs.Limits.{max_segments, static_limit}
use Rattle.table.specs.Templates.{Piece, piece_end, segment_of, Sum, no_sum, sum_at, Template}
use Rattle.table.specs.Words.{head_words, image_at, template_words, byte_at, segment_at, checksum_under, head_of, piece_of, sum_of, template_of, count_in, words_at, templates_of}
use Rattle.table.specs.Words.{flag_word, field_word, start_word, segment_words, image_of, pack_template, pack_table}
use Rattle.table.specs.Rules.{sound_templates}
use Rattle.table.specs.File.{found, piece_bytes, pieces_bytes, sum_bytes, template_bytes, templates_bytes, plan_bytes, plan_in}
use Rattle.table.proofs.RuleCases.{segment_facts}
use Rattle.table.proofs.SoundCases.{PiecesOk, TemplateOk, TemplatesOk, AllOk, sound-ok, ok-sound}
use Rattle.table.proofs.Judging.{templates-by}
use Rattle.table.proofs.Storing.{length_segment_words, segments-stored}
use Rattle.table.proofs.Packing.{Sized, words_packed}
use Rattle.table.proofs.Written.{plan-written}

-- ---- bytes and their parts

pub bytes_zero : (n : ℕ) → Bytes (replicate n 0)
bytes_zero zero i = lit< tt
bytes_zero (suc n) zero = lit< tt
bytes_zero (suc n) (suc i) = bytes_zero n i

-- the pieces of a template hold bytes
abbrev pub AllBytes : List Piece → Type 0
AllBytes [] = Unit {0}
AllBytes (p ∷ ps) = Bytes p.bytes × AllBytes ps

abbrev pub EachBytes : List Template → Type 0
EachBytes [] = Unit {0}
EachBytes (t ∷ ts) = AllBytes t.pieces × EachBytes ts

all-bytes : (ps : List Piece) → Bytes (pieces_bytes ps) → AllBytes ps
all-bytes [] h = tt
all-bytes (p ∷ ps) h =
    let b = bytes-front (piece_bytes p) (pieces_bytes ps) h in
    (bytes-behind (encode (length p.bytes)) p.bytes (bytes-behind (encode p.offset) (encode (length p.bytes) ++ p.bytes) b), all-bytes ps (bytes-behind (piece_bytes p) (pieces_bytes ps) h))

each-bytes : (ts : List Template) → Bytes (templates_bytes ts) → EachBytes ts
each-bytes [] h = tt
each-bytes (t ∷ ts) h =
    let b = bytes-front (template_bytes t) (templates_bytes ts) h in
    let a = bytes-behind (encode t.id) (length t.pieces ∷ (pieces_bytes t.pieces ++ sum_bytes t.sum)) b in
    (all-bytes t.pieces (bytes-front (pieces_bytes t.pieces) (sum_bytes t.sum) (λ i. a (suc i))), each-bytes ts (bytes-behind (template_bytes t) (templates_bytes ts) h))

file-bytes : (ts : List Template) → Bytes (plan_bytes ts) → EachBytes ts
unfolding plan_bytes
file-bytes ts h = each-bytes ts (λ i. h (suc (suc (suc (suc (suc (suc i)))))))

image-bytes : (image : List ℕ) (ps : List Piece) → Bytes image → AllBytes ps → Bytes (image_of image ps)
image-bytes image [] h g = h
image-bytes image (p ∷ ps) h g =
    image-bytes (take p.offset image ++ (p.bytes ++ drop (piece_end p) image)) ps
    (bytes_append (take p.offset image) (p.bytes ++ drop (piece_end p) image) (bytes_take p.offset image h)
    (bytes_append p.bytes (drop (piece_end p) image) g.0 (bytes_drop (piece_end p) image h)))
    g.1

-- ---- images

window_take : (image : List ℕ) (k n : ℕ) → k + n ≤ length image → from (λ i. get_or image i 0) k n ≡ take n (drop k image)
window_take image k zero h = refl
window_take image k (suc n) h =
    let e : drop k image ≡ get_or image k 0 ∷ drop (suc k) image = drop-cons image k 0 (omega arith) in
    rw e (ap (λ (l : List ℕ). get_or image k 0 ∷ l) (window_take image (suc k) n (omega arith)))

drop_take : (k n : ℕ) (l : List ℕ) → k ≤ length l → drop k (take (k + n) l) ≡ take n (drop k l)
drop_take k n l h = rw (take-add k n l) (drop_at (take k l) (take n (drop k l)) k (length-take-le k l h))

-- a piece pasted into an image
abbrev pasted : List ℕ → Piece → List ℕ
pasted image p = take p.offset image ++ (p.bytes ++ drop (piece_end p) image)

module _ (image : List ℕ) (p : Piece) (h : piece_end p ≤ length image) where
  length_pasted : length (pasted image p) ≡ length image
  length_pasted =
      let a : length (take p.offset image) ≡ p.offset = length-take-le p.offset image (omega arith) in
      rw (length-append, length-append, a, length-drop) (omega arith)

  take_pasted : (n : ℕ) → n ≤ p.offset → take n (pasted image p) ≡ take n image
  take_pasted n k =
      let a : length (take p.offset image) ≡ p.offset = length-take-le p.offset image (omega arith) in
      let l : n ≤ length (take p.offset image) = omega arith in
      take-append-le n (take p.offset image) (p.bytes ++ drop (piece_end p) image) l ∙ take-take n p.offset image k

  front-pasted : take (piece_end p) (pasted image p) ≡ take p.offset image ++ p.bytes
  front-pasted =
      let a : length (take p.offset image) ≡ p.offset = length-take-le p.offset image (omega arith) in
      let l : length (take p.offset image ++ p.bytes) ≡ piece_end p = rw (length-append, a) in
      rw (← append_assoc (take p.offset image) p.bytes (drop (piece_end p) image))
      (take_at (take p.offset image ++ p.bytes) (drop (piece_end p) image) (piece_end p) l)

-- later pieces leave the front of the image
record Kept (image : List ℕ) (ended : ℕ) (ps : List Piece) : Type 0 where
  long : length (image_of image ps) ≡ length image
  front : take ended (image_of image ps) ≡ take ended image

kept : (image : List ℕ) (ended : ℕ) (ps : List Piece) → length image ≡ static_limit → PiecesOk ended ps → Kept image ended ps
kept image ended [] l o = record { long = refl; front = refl }
kept image ended (p ∷ ps) l o =
    let f = segment_facts ended p.offset (length p.bytes) o.0 in
    let w : piece_end p ≤ length image = omega (arith, f.within) in
    let b : ended ≤ p.offset = f.behind in
    let g : ended ≤ piece_end p = omega arith in
    let n : length (pasted image p) ≡ length image = length_pasted image p w in
    let k = kept (pasted image p) (piece_end p) ps (n ∙ l) o.1 in
    record {
      long = k.long ∙ n;
      front = sym (take-take ended (piece_end p) (image_of (pasted image p) ps) g) ∙ ap (take ended) k.front
          ∙ take-take ended (piece_end p) (pasted image p) g ∙ take_pasted image p w ended b;
    }

-- the piece of a segment, in an image
abbrev piece_in : List ℕ → Segment → Piece
piece_in image s = record { offset = s.offset; bytes = from (λ i. get_or image i 0) s.offset s.length }

-- the pieces are read back from the image that they were pasted into
pieces-back : (image : List ℕ) (ended : ℕ) (ps : List Piece) → length image ≡ static_limit → PiecesOk ended ps
    → map (piece_in (image_of image ps)) (map segment_of ps) ≡ ps
pieces-back image ended [] l o = refl
pieces-back image ended (p ∷ ps) l o =
    let f = segment_facts ended p.offset (length p.bytes) o.0 in
    let w : piece_end p ≤ length image = omega (arith, f.within) in
    let n : length (pasted image p) ≡ length image = length_pasted image p w in
    let j = image_of (pasted image p) ps in
    let k = kept (pasted image p) (piece_end p) ps (n ∙ l) o.1 in
    let lj : length j ≡ length image = k.long ∙ n in
    let inside : piece_end p ≤ length j = omega arith in
    let before : p.offset ≤ length j = omega arith in
    let lo : length (take p.offset image) ≡ p.offset = length-take-le p.offset image (omega arith) in
    let win : from (λ i. get_or j i 0) p.offset (length p.bytes) ≡ p.bytes =
    window_take j p.offset (length p.bytes) inside ∙ sym (drop_take p.offset (length p.bytes) j before) ∙ ap (drop p.offset) (k.front ∙ front-pasted image p w) ∙ drop_at (take p.offset image) p.bytes p.offset lo
    in
    let head : piece_in j (segment_of p) ≡ p = ap (λ (b : List ℕ). record { offset = p.offset; bytes = b }) win in
    let tail : map (piece_in j) (map segment_of ps) ≡ ps = pieces-back (pasted image p) (piece_end p) ps (n ∙ l) o.1 in
    ap (λ (q : Piece). q ∷ map (piece_in j) (map segment_of ps)) head ∙ ap (λ (l : List Piece). p ∷ l) tail

-- ---- a template

-- the words before the image
abbrev front : Template → List ℕ
front t = (t.id ∷ length t.pieces ∷ flag_word t.sum ∷ field_word t.sum ∷ start_word t.sum ∷ []) ++ segment_words max_segments t.pieces

abbrev image : Template → List ℕ
image t = image_of (replicate static_limit 0) t.pieces

packed : (t : Template) → pack_template t ≡ front t ++ image t
unfolding pack_template
packed t = refl

length_front : (t : Template) → length (front t) ≡ image_at
length_front t = let e = length_segment_words max_segments t.pieces in omega (arith, e)

byte_packed : (t : Template) → Bytes (image t) → (k : ℕ) → byte_at (pack_template t) k ≡ get_or (image t) k 0
unfolding byte_at
byte_packed t b k =
    let e : get_or (pack_template t) (image_at + k) 0 ≡ get_or (image t) k 0 =
    ap (λ (l : List ℕ). get_or l (image_at + k) 0) (packed t)
    ∙ ap (λ (i : ℕ). get_or (front t ++ image t) (i + k) 0) (sym (length_front t))
    ∙ get_or-append-add (front t) (image t) k 0
    in
    let h : get_or (image t) k 0 < 256 = b k in
    ap (λ (x : ℕ). x % 256) e ∙ omega arith

pieces-same : (t : Template) → Bytes (image t) → (ss : List Segment) → map (piece_of (pack_template t)) ss ≡ map (piece_in (image t)) ss
pieces-same t b [] = refl
pieces-same t b (s ∷ ss) =
    let e : from (byte_at (pack_template t)) s.offset s.length ≡ from (λ i. get_or (image t) i 0) s.offset s.length =
    from-same (byte_at (pack_template t)) (λ i. get_or (image t) i 0) (byte_packed t b) s.offset s.length
    in
    rw (e, pieces-same t b ss)

sum_back : (k : Sum) → sum_of (checksum_under (flag_word k) (field_word k) (start_word k)) ≡ k
sum_back no_sum = refl
sum_back (sum_at field start) = refl

template-same : (id : ℕ) {ps qs : List Piece} {k l : Sum} → ps ≡ qs → k ≡ l
    → ◌≡◌ {A = Template} (record { id = id; pieces = ps; sum = k }) (record { id = id; pieces = qs; sum = l })
template-same id e f = rw (e, f)

module _ (previous : ℕ) (t : Template) (o : TemplateOk previous t) where
  zeros : length {A = ℕ} (replicate static_limit 0) ≡ static_limit
  zeros = length-replicate {A = ℕ} static_limit 0

  pub length_packed : length (pack_template t) ≡ template_words
  length_packed =
      let k = (kept (replicate static_limit 0) 0 t.pieces zeros o.pieces).long in
      ap length (packed t) ∙ length-append (front t) (image t) ∙ omega (arith, length_front t, k, zeros)

  behind : drop head_words (pack_template t) ≡ segment_words max_segments t.pieces ++ image t
  unfolding pack_template
  behind = refl

  by-head : map (piece_of (pack_template t)) (from (segment_at (pack_template t)) 0 (length t.pieces)) ≡ t.pieces → template_of (pack_template t) ≡ t
  unfolding template_of head_of pack_template
  by-head e = template-same t.id e (sum_back t.sum)

  pub template-back : AllBytes t.pieces → template_of (pack_template t) ≡ t
  template-back b =
      let ss : from (segment_at (pack_template t)) 0 (length t.pieces) ≡ map segment_of t.pieces =
      segments-stored (pack_template t) t.pieces (image t) behind o.few
      in
      let ib = image-bytes (replicate static_limit 0) t.pieces (bytes_zero static_limit) b in
      by-head
      (ap (map (piece_of (pack_template t))) ss ∙ pieces-same t ib (map segment_of t.pieces) ∙ pieces-back (replicate static_limit 0) 0 t.pieces zeros o.pieces)

-- ---- a table

sized : (previous : ℕ) (ts : List Template) → TemplatesOk previous ts → Sized ts
sized previous [] o = tt
sized previous (t ∷ ts) o = (length_packed previous t o.0, sized t.id ts o.1)

templates-back : (previous : ℕ) (ts : List Template) → TemplatesOk previous ts → EachBytes ts → map template_of (map pack_template ts) ≡ ts
templates-back previous [] o b = refl
templates-back previous (t ∷ ts) o b =
    ap (λ (u : Template). u ∷ map template_of (map pack_template ts)) (template-back previous t o.0 b.0) ∙ ap (λ (l : List Template). t ∷ l) (templates-back t.id ts o.1 b.1)

count_packed : (ts : List Template) → count_in (pack_table ts) ≡ length ts
unfolding pack_table
count_packed ts = refl

pub packed_means : (ts : List Template) → AllOk ts → EachBytes ts → templates_of (pack_table ts) ≡ ts
unfolding templates_of
packed_means ts o b =
    ap (λ (n : ℕ). map template_of (from (words_at (pack_table ts)) 0 n)) (count_packed ts)
    ∙ ap (map template_of) (words_packed ts (sized 0 ts o.each) o.few)
    ∙ templates-back 0 ts o.each b

-- ---- what was read

module _ (s : List ℕ) {ts : List Template} {r : List ℕ} (h : Bytes s) (e : plan_in s ≡ found ts r) where
  all-ok : AllOk ts
  all-ok = let w = plan-written s h e in record { few = w.few; each = w.ok }

  -- the templates of a file are sound
  pub read-sound : sound_templates ts ≡ true
  read-sound = ok-sound ts all-ok

  -- and their words mean them
  pub read_means : templates_of (pack_table ts) ≡ ts
  read_means = packed_means ts all-ok (file-bytes ts (rw (plan-written s h e).file h))

-- ---- what was written

bytes-from : (f : ℕ → ℕ) → ((i : ℕ) → f i < 256) → (k n : ℕ) → Bytes (from f k n)
bytes-from f h k zero i = lit< tt
bytes-from f h k (suc n) zero = h k
bytes-from f h k (suc n) (suc i) = bytes-from f h (suc k) n i

byte_small : (t : List ℕ) (p : ℕ) → byte_at t p < 256
unfolding byte_at
byte_small t p = omega arith

pieces-bytes : (t : List ℕ) (ss : List Segment) → AllBytes (map (piece_of t) ss)
pieces-bytes t [] = tt
pieces-bytes t (s ∷ ss) = (bytes-from (byte_at t) (byte_small t) s.offset s.length, pieces-bytes t ss)

words-bytes : (ws : List (List ℕ)) → EachBytes (map template_of ws)
unfolding template_of
words-bytes [] = tt
words-bytes (t ∷ ws) = (pieces-bytes t (from (segment_at t) 0 (head_of t).count), words-bytes ws)

-- the words that are packed of what the words of a sound table mean, mean the same
pub packed_again : (w : List ℕ) → sound_templates (templates_of w) ≡ true → templates_of (pack_table (templates_of w)) ≡ templates_of w
packed_again w s = packed_means (templates_of w) (sound-ok (templates_of w) s) (rw (templates-by w) (words-bytes (from (words_at w) 0 (count_in w))))
