use Rattle.std.proofs.Common.{[], arith}
use Rattle.std.proofs.lemmas.Result.{err_from_is_err_and}
use Rattle.avr_io.specs.declared.line.Piece.{Piece}
use Rattle.avr_io.specs.declared.line.Piece.TheVariants.{Text}
use Rattle.std.proofs.lemmas.Grind.{common_steps}
use Rattle.avr_io.proofs.Lines.SentBytes.{sent_next}
use Rattle.avr_io.proofs.Lines.Pieces.{all_text_more, line_breaks, line_ends}
use Rattle.avr_io.proofs.line.print_line.Goals as goal

pub loop-piece-preserved : goal.loop-piece-preserved
loop-piece-preserved g c = grind (arith, common_steps, sent_next, all_text_more)

pub returns-in_err-write_all-2-clause-printed : goal.returns-in_err-write_all-2-clause-printed
returns-in_err-write_all-2-clause-printed g c =
    let d : Piece = Text (record { ref_ptr = (0, 0); now = [] }) in
    let p = err_from_is_err_and c.from_residual-in_err-write_all-2.result
    c.from_residual-in_err-write_all-2.ensures.1 in
    rw p.1 (line_breaks _ _ _ c.args.mark.now c.args.pieces.now c.loop-piece.piece-index d c.loop-piece-test.true
    c.loop-piece.invariant.sent (rw (← c.text.ensures) c.in_err-write_all-2.ensures.part))

pub returns-clause-printed : goal.returns-clause-printed
returns-clause-printed g c =
    line_ends _ _ _ c.args.mark.now c.args.pieces.now c.loop-piece.piece-index c.write_all-3.result
    c.loop-piece-test.false c.loop-piece.invariant.sent c.write_all-3.ensures.all c.write_all-3.ensures.part
