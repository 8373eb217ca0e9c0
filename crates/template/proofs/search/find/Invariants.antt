-- What is left to compare gives the answer of each whole comparison: the bytes of a segment, the segments of a template, the templates of the table.
-- The table stays closed: a head, a segment and a byte are those of its template by the contracts of their accessors. The bytes of the front are
-- those of the lowered packet (`front-holds`), and so is the seed (`lowered-seed`); a checksum that fits the packet fits it lowered
-- (`fits_sum-lowered`). Assumes nothing.
use Prim.Native.Nat.{◌+◌, ◌-◌, ◌≤◌}
use mathlib.Core.Path.{◌≡◌}
use mathlib.Core.Bool.{◌&&◌}
use Rattle.inet.specs.Packet.{lowered}
use Rattle.table.specs.Words.{templates_of}
use Rattle.template.specs.Pieces.{fits_pieces}
use Rattle.template.specs.Fits.{first_fit}
use Rattle.template.specs.Usable.{pieces_of, holds_at}
use Rattle.table.proofs.InTurn.{templates_from}
use Rattle.template.proofs.Steps.{pieces_from}
use Rattle.template.proofs.search.find.Given as goal

abbrev pub invariant-fours : goal.invariant-fours
invariant-fours l =
    (l.k ≤ l.stop) × (fits_pieces (pieces_from l.t.words.now l.j (l.n - l.j)) (lowered l.packet) ≡ (holds_at l.t.words.now l.front l.k l.stop && fits_pieces (pieces_from l.t.words.now (l.j + 1) (l.n - (l.j + 1))) (lowered l.packet)))

abbrev pub decreases-fours : goal.decreases-fours
decreases-fours l = l.stop - l.k

abbrev pub invariant-bytes : goal.invariant-bytes
invariant-bytes l =
    fits_pieces (pieces_from l.t.words.now l.j (l.n - l.j)) (lowered l.packet) ≡ (holds_at l.t.words.now l.front l.b l.stop && fits_pieces (pieces_from l.t.words.now (l.j + 1) (l.n - (l.j + 1))) (lowered l.packet))

abbrev pub invariant-segments : goal.invariant-segments
invariant-segments l =
    fits_pieces (pieces_of l.t.words.now) (lowered l.packet) ≡ fits_pieces (pieces_from l.t.words.now l.j (l.n - l.j)) (lowered l.packet)

abbrev pub invariant-templates : goal.invariant-templates
invariant-templates l =
    first_fit (templates_of l.table) (lowered l.packet) ≡ first_fit (templates_from l.table l.i (l.count - l.i)) (lowered l.packet)
