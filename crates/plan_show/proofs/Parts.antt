-- The lines of a plan part by part, as the code puts them. Assumes nothing.
use Prim.Native.Nat.{ℕ, ◌+◌, ◌-◌, ◌<◌, ◌≤◌}
use mathlib.Core.Path.{◌≡◌, ap}
use mathlib.Core.List.{List, ◌++◌}
use lib.ListN.{length}
use Rattle.std.proofs.Common.{Some, None}
use Rattle.output.specs.Places.{Put}
use Rattle.output.proofs.Placing.{put_then, put_as, Putting, putting_first}
use Rattle.table.specs.declared.Checksum.{Checksum}
use Rattle.table.specs.declared.Head.{Head}
use Rattle.table.specs.Templates.{static_size}
use Rattle.table.specs.Words.{head_of, template_of, count_in, words_at, templates_of}
use Rattle.table.proofs.InTurn.{templates_from, templates-step}
use Rattle.table.proofs.Judging.{length_pieces, id-of, sum-of, length_templates}
use Rattle.plan_show.specs.Text.{ascii, decimal}
use Rattle.plan_show.specs.Lines.{labelled, last_labelled, sum_text, template_line, template_lines, table_lines}
use Rattle.plan_show.proofs.Rooms.{room-first, room_next, room_as}

-- ---- a template

module _ (t : List ℕ) {h : Head} (q : h ≡ head_of t) where
  pub sum-none : h.checksum ≡ None → ascii " checksum none\n" ≡ sum_text (template_of t).sum
  sum-none e = rw (sum-of t, ← q, e)

  pub sum-some : {k : Checksum} → h.checksum ≡ Some k → labelled (ascii " checksum ") k.field ++ last_labelled (ascii " ") k.start ≡ sum_text (template_of t).sum
  sum-some e = rw (sum-of t, ← q, e)

  -- ---- its line

  module _ {size : ℕ} (e : size ≡ static_size (template_of t).pieces) where
    id : List ℕ
    id = decimal h.id.0

    segments : List ℕ
    segments = labelled (ascii " segments ") h.count

    bytes : List ℕ
    bytes = labelled (ascii " static ") size

    checksum : List ℕ
    checksum = sum_text (template_of t).sum

    parts : id ++ (segments ++ (bytes ++ checksum)) ≡ template_line (template_of t)
    unfolding template_line id segments bytes checksum
    parts = rw (e, id-of t, length_pieces t, ← q)

    pub put_line : {a b c d o : List ℕ} {at p q r s : ℕ} → Put (decimal h.id.0) at a p b → Put (labelled (ascii " segments ") h.count) p b q c
        → Put (labelled (ascii " static ") size) q c r d → Put (sum_text (template_of t).sum) r d s o → Put (template_line (template_of t)) at a s o
    unfolding id segments bytes checksum
    put_line x y z w = put_as parts (put_then x (put_then y (put_then z w)))

    -- there is room for each part
    module _ (at : ℕ) (a : List ℕ) (room : at + length (template_line (template_of t)) ≤ length a) where
      all_room : at + length (id ++ (segments ++ (bytes ++ checksum))) ≤ length a
      all_room = room_as at parts room

      pub id-room : at + length (decimal h.id.0) ≤ length a
      unfolding id
      id-room = room-first id (segments ++ (bytes ++ checksum)) at all_room

      module _ {p : ℕ} {b : List ℕ} (x : Put (decimal h.id.0) at a p b) where
        behind-id : p + length (segments ++ (bytes ++ checksum)) ≤ length b
        unfolding id
        behind-id = room_next id (segments ++ (bytes ++ checksum)) x all_room

        pub segments-room : p + length (labelled (ascii " segments ") h.count) ≤ length b
        unfolding segments
        segments-room = room-first segments (bytes ++ checksum) p behind-id

        module _ {r : ℕ} {d : List ℕ} (y : Put (labelled (ascii " segments ") h.count) p b r d) where
          behind-segments : r + length (bytes ++ checksum) ≤ length d
          unfolding segments
          behind-segments = room_next segments (bytes ++ checksum) y behind-id

          pub static-room : r + length (labelled (ascii " static ") size) ≤ length d
          unfolding bytes
          static-room = room-first bytes checksum r behind-segments

          pub sum_room_lem : {s : ℕ} {o : List ℕ} → Put (labelled (ascii " static ") size) r d s o → s + length (sum_text (template_of t).sum) ≤ length o
          unfolding bytes checksum
          sum_room_lem z = room_next bytes checksum z behind-segments

-- ---- the templates of a table

module _ (w : List ℕ) where
  pub templates-more : (i n : ℕ) {t : List ℕ} → i < n → t ≡ words_at w i
      → template_lines (templates_from w i (n - i)) ≡ template_line (template_of t) ++ template_lines (templates_from w (i + 1) (n - (i + 1)))
  templates-more i n h q = rw q (ap template_lines (templates-step w i n h))

  -- there is room for the next
  pub template-room : (i n : ℕ) {t all before out : List ℕ} {start next : ℕ} → i < n → t ≡ words_at w i
      → Putting (template_lines (templates_from w i (n - i))) all start before next out → start + length all ≤ length before
      → next + length (template_line (template_of t)) ≤ length out
  template-room i n {t} h q p r =
      putting_first p (template_line (template_of t)) (template_lines (templates_from w (i + 1) (n - (i + 1)))) (templates-more i n h q) r

  -- the first line says the count
  pub table_parts : last_labelled (ascii "plan 1 templates ") (count_in w) ++ template_lines (templates_of w) ≡ table_lines (templates_of w)
  table_parts = rw (length_templates w)
