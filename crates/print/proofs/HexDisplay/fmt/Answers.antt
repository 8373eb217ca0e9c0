use Rattle.std.proofs.Common.{rules, take, get_or, ◌++◌, [], ◌∙◌, ap, sym}
use Rattle.std.proofs.Output.{has_written_append, has_written_of_eq}
use Rattle.std.proofs.lemmas.List.{take_more, flat_map_more}
use Rattle.print.specs.Text.{hex_text, hex_pair}
use Rattle.print.proofs.HexDisplay.fmt.Goals as goal

pub loop-byte-preserved : goal.loop-byte-preserved
loop-byte-preserved g c p =
    let bytes = c.args.self.now.0.now in
    let i = c.loop-byte.byte-index in
    let before = take i bytes in
    let byte = get_or bytes i 0 in
    let written = c.loop-byte.invariant p in
    let digits = rw (c.laid_out.ensures, c.in_radix.ensures) at c.in_ok-write.ensures.writes in
    has_written_of_eq _ _ (hex_text before ++ hex_pair byte) _ _
    (flat_map_more hex_pair [] before byte ∙ ap hex_text (sym (take_more bytes i 0 c.loop-byte-test.true)))
    (has_written_append _ _ (hex_text before) _ (hex_pair byte) _ written (digits written.plain (search rules)))
