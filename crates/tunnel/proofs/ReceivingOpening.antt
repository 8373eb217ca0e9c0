-- What each step of opening a datagram gives. Assumes nothing.
use Rattle.std.proofs.Common.{Option, Some, None}
use Prim.Native.Nat.{ℕ, ◌+◌, ◌-◌, ◌≤◌, ◌<◌, min}
use mathlib.Core.Path.{◌≡◌, sym, ap, ◌∙◌}
use mathlib.Core.Logic.{◌≢◌}
use mathlib.Core.Bool.{Bool, true, false}
use mathlib.Core.List.{List, ◌++◌}
use native.Mathlib.Omega.{arith}
use borrow.Author.Tests.{le-leb, lt-leb, eq-eqb, ne_eqb}
use lib.ListN.{length, take, drop, length-take, length-drop, length-append, take-append-drop}
use lib.Seq.{length-take-le}
use Rattle.octets.proofs.Parts.{tail}
use Rattle.answer.specs.declared.Refusal.TheVariants.{UnknownContext, CutDatagram, PacketTooLong}
use Rattle.varint.specs.Numbers.{read_number, number}
use Rattle.table.specs.Limits.{static_limit}
use Rattle.table.specs.Templates.{Template, static_size}
use Rattle.table.specs.Words.{template_of, count_in, words_at}
use Rattle.table.specs.Sound.{UsableTemplate}
use Rattle.template.specs.Fits.{Lookup, listed, with_id}
use Rattle.template.specs.Datagrams.{max_packet, rebuilt, reaches, refused, packet, within_limit, open_short, opened}
use Rattle.template.specs.Usable.{pieces_of, lookup_at, Listed, Continues}
use Rattle.template.proofs.RebuildLaws.{length_rebuilt}
use Rattle.tunnel.specs.Opening.{opens, Receivable, Openable, Joinable}

-- ---- the full form

pub within-limit : (q : List ℕ) → length q ≤ max_packet → within_limit q ≡ packet q
within-limit q h = rw (le-leb (length q) max_packet h)

pub over-limit : (q : List ℕ) → max_packet < length q → within_limit q ≡ refused PacketTooLong
over-limit q h = rw (lt-leb (length q) max_packet h)

-- ---- the short form

module _ (t v : List ℕ) {s : Bool} (e : s ≡ reaches (template_of t) v) where
  pub short_cut : s ≡ false → open_short v (listed (template_of t)) ≡ refused CutDatagram
  short_cut f = rw (sym e ∙ f)

  module _ (f : s ≡ true) {n : ℕ} (l : n ≡ static_size (pieces_of t) + length v) where
    pub short-long : max_packet < n → open_short v (listed (template_of t)) ≡ refused PacketTooLong
    short-long h = rw (sym e ∙ f) (over-limit (rebuilt (template_of t) v) (omega (arith, length_rebuilt (template_of t) v)))

    pub short-within : n ≤ max_packet → open_short v (listed (template_of t)) ≡ packet (rebuilt (template_of t) v)
    short-within h = rw (sym e ∙ f) (within-limit (rebuilt (template_of t) v) (omega (arith, length_rebuilt (template_of t) v)))

-- the bytes of a packet that reaches and is within the limit, in two parts: those that go into its front, and those behind it
module _ (t v : List ℕ) (reach : reaches (template_of t) v ≡ true) {size n used : ℕ} (sized : size ≡ static_size (pieces_of t)) (low : size ≤ static_limit) (counted : n ≡ size + length v) (within : n ≤ max_packet) (cut : used ≡ min n static_limit - size) where
  pub used-within : used ≤ length v
  used-within = omega arith

  abbrev near : List ℕ
  near = take used v

  abbrev far : List ℕ
  far = take (length v - used) (drop used v)

  near_far : near ++ far ≡ v
  near_far = ap (λ (l : List ℕ). take used v ++ l) (tail used v) ∙ take-append-drop used v

  pub near_length : length near ≡ used
  near_length = length-take-le used v used-within

  far_length : length far ≡ length v - used
  far_length = ap length (tail used v) ∙ length-drop used v

  pub openable : UsableTemplate t → Openable t near far
  openable u =
      record {
        ready = record {
          usable = u;
          reach = rw near_far reach;
          front = omega (arith, near_length, far_length, used-within);
          small = omega (arith, near_length);
          summable = omega (arith, near_length, far_length, used-within);
        };
        short = rw near_far (omega (arith, length_rebuilt (template_of t) v));
      }

  pub opens-body : packet (rebuilt (template_of t) v) ≡ opens t near far
  opens-body = ap (λ (x : List ℕ). packet (rebuilt (template_of t) x)) (sym near_far)

-- the packet whose front was rebuilt in an image
module _ (t v far : List ℕ) {image : List ℕ} {n : ℕ} (k : Continues (rebuilt (template_of t) (v ++ far)) far image n) where
  pub front_length : length (take n image) ≡ n
  front_length = omega (arith, k.size, ap length k.whole, length-append (take n image) far)

  pub front-within : n ≤ length image
  front-within = omega (arith, front_length, length-take n image)

  front-size : n ≡ static_size (pieces_of t) + length v
  front-size = omega (arith, k.size, length_rebuilt (template_of t) (v ++ far), length-append v far)

  -- an output that has room for any packet has room for it
  pub joinable : Openable t v far → {w out : List ℕ} → Receivable w out → Joinable w (take n image) far out
  joinable o r =
      record {
        sound = r.sound;
        room = omega (arith, front_length, k.size, o.short, r.room);
        header = omega (arith, front_length, front-size, o.ready.front);
      }

-- the template with the Context ID, or none
module _ (w : List ℕ) (l : Lookup) {r : Option ℕ} (k : Listed w l r) where
  pub none-listed : (v : List ℕ) → r ≡ None → open_short v l ≡ refused UnknownContext
  none-listed v e = ap (open_short v) (sym k.lookup ∙ ap (lookup_at w) e)

  module _ (i : ℕ) (e : r ≡ Some i) where
    pub found_below : i < count_in w
    found_below = rw e at k.within

    pub found-listed : {t : List ℕ} → t ≡ words_at w i → l ≡ listed (template_of t)
    found-listed q = rw q (sym k.lookup ∙ ap (lookup_at w) e)

-- ---- the Context ID

module _ (ts : List Template) (d : List ℕ) (id n : ℕ) (e : read_number d ≡ Some (number id n)) where
  pub opened_zero : id ≡ 0 → opened ts d ≡ within_limit (take (length d - n) (drop n d))
  unfolding opened
  opened_zero f = rw (tail n d, e, eq-eqb id 0 f)

  pub opened-other : id ≢ 0 → opened ts d ≡ open_short (take (length d - n) (drop n d)) (with_id id ts)
  unfolding opened
  opened-other f = rw (tail n d, e, ne_eqb id 0 f)
