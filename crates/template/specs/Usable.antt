-- What the code asks of a table and what it hands back.
use Rattle.std.specs.Prelude.{ℕ, ◌+◌, ◌-◌, ◌%◌, ◌≤◌, ◌<◌, min, ◌≡◌, Bool, true, ◌&&◌, List, Option, Some, None, ◌++◌, leb, length, take, drop}
use Rattle.inet.specs.Packet.{Form, lowered}
use Rattle.inet.specs.Transport.{seed, set_field}
use Rattle.table.specs.Limits.{static_limit}
use Rattle.table.specs.Templates.{Piece, Sum, no_sum, sum_at, Template, static_size}
use Rattle.table.specs.Words.{window, template_of, count_in, words_at, templates_of}
use Rattle.table.specs.Sound.{UsableTemplate}
use Rattle.template.specs.declared.Fit.{Fit}
use Rattle.template.specs.Pieces.{begins, last_end}
use Rattle.template.specs.Fits.{full, short, first_fit, Lookup, missing, listed}
use Rattle.template.specs.Datagrams.{sum_end, reaches}

-- ---- the search

-- the bytes of p from k to e are the static bytes of these positions
abbrev pub holds_at : List ℕ → List ℕ → ℕ → ℕ → Bool
holds_at t p k e = begins (window t k (e - k)) (drop k p)

-- the seed of a packet under a checksum; 0 under none
abbrev pub seed_of : Sum → List ℕ → ℕ
seed_of no_sum p = 0
seed_of (sum_at field start) p = seed start p

-- the template at i is the first that fits, and v the seed under its checksum
pub record ChosenAt (w p : List ℕ) (i v : ℕ) : Type 0 where
  pub choice : first_fit (templates_of w) p ≡ short (template_of (words_at w i))
  pub within : i < count_in w
  pub seeding : v ≡ seed_of (template_of (words_at w i)).sum p

-- the search found what it should for the packet p
abbrev pub Chosen : List ℕ → List ℕ → Option Fit → Type 0
Chosen w p (Some f) = ChosenAt w p f.place f.seed
Chosen w p None = first_fit (templates_of w) p ≡ full

-- the template that the search for a Context ID found
abbrev pub lookup_at : List ℕ → Option ℕ → Lookup
lookup_at w (Some i) = listed (template_of (words_at w i))
lookup_at w None = missing

abbrev pub Below : ℕ → Option ℕ → Type 0
Below n (Some i) = i < n
Below n None = Unit

-- it found what it should, at a place in use
pub record Listed (w : List ℕ) (l : Lookup) (r : Option ℕ) : Type 0 where
  pub lookup : lookup_at w r ≡ l
  pub within : Below (count_in w) r

-- ---- the checksum

-- a field and a start as a sound template has them
pub record SumPlace (field start : ℕ) : Type 0 where
  pub low : 20 ≤ start
  pub order : start ≤ field
  pub high : field + 2 ≤ static_limit
  pub even : (field - start) % 2 ≡ 0

-- a packet that can be tested
pub record Testable (p : List ℕ) : Type 0 where
  pub good : Form p
  pub small : length p ≤ 65535

-- the front of a packet as it goes on: the bytes that templates look at
pub record Fronted (front p : List ℕ) : Type 0 where
  pub testable : Testable p
  pub bytes : front ≡ take static_limit (lowered p)

-- v in the field of a checksum
abbrev pub filled : Sum → ℕ → List ℕ → List ℕ
filled no_sum v p = p
filled (sum_at field start) v p = set_field field v p

-- the field lies in the front, and v fits it
pub record Fillable (t : List ℕ) (v : ℕ) (front : List ℕ) : Type 0 where
  pub usable : UsableTemplate t
  pub small : v ≤ 65535
  pub inside : sum_end (template_of t).sum ≤ length front

-- ---- the bytes outside the segments

abbrev pub pieces_of : List ℕ → List Piece
pieces_of t = (template_of t).pieces

-- the segments end in the front, and behind `at` is room for it and the tail
pub record Shortenable (t front tail out : List ℕ) (at : ℕ) : Type 0 where
  pub usable : UsableTemplate t
  pub inside : last_end 0 (pieces_of t) ≤ length front
  pub room : at + length front + length tail ≤ length out

-- a packet of n bytes reaches the last segment's end and the field's end
abbrev pub reaches_at : Template → ℕ → Bool
reaches_at t n = leb (last_end 0 t.pieces) n && leb (sum_end t.sum) n

-- the bytes reach; of them v goes into the front, which has all that templates look at, fits an image of n bytes, and goes on with far
pub record Rebuildable (t v far : List ℕ) (n : ℕ) : Type 0 where
  pub usable : UsableTemplate t
  pub reach : reaches (template_of t) (v ++ far) ≡ true
  pub front : min static_limit (static_size (pieces_of t) + length v + length far) ≤ static_size (pieces_of t) + length v
  pub small : static_size (pieces_of t) + length v ≤ n
  pub summable : static_size (pieces_of t) + length v + length far ≤ 65535

-- the bytes reach the last segment's end, and there is room for the packet
pub record Weavable (t v out : List ℕ) : Type 0 where
  pub usable : UsableTemplate t
  pub reach : last_end 0 (pieces_of t) ≤ static_size (pieces_of t) + length v
  pub room : static_size (pieces_of t) + length v ≤ length out

-- the field lies in the first n bytes of a packet that goes on with far, behind the start
pub record Completable (field start n : ℕ) (far image : List ℕ) : Type 0 where
  pub low : 10 ≤ start
  pub order : start ≤ field
  pub inside : field + 2 ≤ n
  pub room : n ≤ length image
  pub small : n + length far ≤ 65535

-- the packet q at the front of an image
pub record Begins (q image : List ℕ) (r : ℕ) : Type 0 where
  pub size : r ≡ length q
  pub front : take r image ≡ q

-- the packet q, r bytes of it at the front of an image, which goes on with far
pub record Continues (q far image : List ℕ) (r : ℕ) : Type 0 where
  pub size : r + length far ≡ length q
  pub whole : take r image ++ far ≡ q
