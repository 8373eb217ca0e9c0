-- `opened` by its cases, in the order of its tests. Assumes nothing.
use Rattle.std.proofs.Common.{Some, None}
use Prim.Native.Nat.{ℕ, ◌+◌, ◌≤◌, ◌<◌}
use mathlib.Core.Path.{◌≡◌}
use mathlib.Core.Logic.{◌≢◌}
use mathlib.Core.List.{List}
use mathlib.Core.Bool.{true, false}
use native.Mathlib.Omega.{arith}
use lib.ListN.{length, drop}
use borrow.Author.Tests.{le-leb, lt-leb, ne_eqb}
use Rattle.answer.specs.declared.Refusal.TheVariants.{UnknownContext, CutDatagram, PacketTooLong}
use Rattle.varint.specs.Numbers.{read_number, number}
use Rattle.table.specs.Templates.{Template, static_size}
use Rattle.template.specs.Fits.{missing, listed, with_id}
use Rattle.template.specs.Datagrams.{max_packet, rebuilt, reaches, packet, refused, opened}
use Rattle.template.proofs.RebuildLaws.{length_rebuilt}

module _ (ts : List Template) (d : List ℕ) where
  -- the Context ID is cut
  pub opened-cut : read_number d ≡ None → opened ts d ≡ refused CutDatagram
  unfolding opened
  opened-cut e = rw e

  -- Context ID 0: the packet follows
  pub opened-full : (n : ℕ) → read_number d ≡ Some (number 0 n) → length (drop n d) ≤ max_packet → opened ts d ≡ packet (drop n d)
  unfolding opened
  opened-full n e h = rw (e, le-leb (length (drop n d)) max_packet h)

  pub opened_full-long : (n : ℕ) → read_number d ≡ Some (number 0 n) → max_packet < length (drop n d) → opened ts d ≡ refused PacketTooLong
  unfolding opened
  opened_full-long n e h = rw (e, lt-leb (length (drop n d)) max_packet h)

  module _ (id n : ℕ) (e : read_number d ≡ Some (number id n)) (some : id ≢ 0) where
    pub opened-unknown : with_id id ts ≡ missing → opened ts d ≡ refused UnknownContext
    unfolding opened
    opened-unknown f = rw (e, ne_eqb id 0 some, f)

    -- the template with the Context ID
    module _ (t : Template) (f : with_id id ts ≡ listed t) where
      pub opened_short-cut : reaches t (drop n d) ≡ false → opened ts d ≡ refused CutDatagram
      unfolding opened
      opened_short-cut g = rw (e, ne_eqb id 0 some, f, g)

      pub opened-short-long : reaches t (drop n d) ≡ true → max_packet < static_size t.pieces + length (drop n d) → opened ts d ≡ refused PacketTooLong
      unfolding opened
      opened-short-long g h =
          let l : max_packet < length (rebuilt t (drop n d)) = omega (arith, length_rebuilt t (drop n d)) in
          rw (e, ne_eqb id 0 some, f, g, lt-leb (length (rebuilt t (drop n d))) max_packet l)

      pub opened-short : reaches t (drop n d) ≡ true → static_size t.pieces + length (drop n d) ≤ max_packet → opened ts d ≡ packet (rebuilt t (drop n d))
      unfolding opened
      opened-short g h =
          let l : length (rebuilt t (drop n d)) ≤ max_packet = omega (arith, length_rebuilt t (drop n d)) in
          rw (e, ne_eqb id 0 some, f, g, le-leb (length (rebuilt t (drop n d))) max_packet l)
