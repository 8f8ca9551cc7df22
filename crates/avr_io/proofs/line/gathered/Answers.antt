use Rattle.std.proofs.lemmas.Grind.{common_steps}
use Rattle.std.proofs.Common.{[], arith, rules}
use Rattle.std.proofs.lemmas.Result.{err_from_is_err_and}
use Rattle.avr_io.specs.declared.line.Piece.{Piece}
use Rattle.avr_io.specs.declared.line.Piece.TheVariants.{Text}
use Rattle.avr_io.proofs.Lines.Pieces.{all_text_more, line_longer}
use Rattle.avr_io.proofs.line.gathered.Goals as goal

pub loop-piece-preserved : goal.loop-piece-preserved
loop-piece-preserved c = grind (arith, common_steps, all_text_more)

pub returns-in_err-try_extend_from_slice-2-clause-long : goal.returns-in_err-try_extend_from_slice-2-clause-long
returns-in_err-try_extend_from_slice-2-clause-long c =
    let d : Piece = Text (record { ref_ptr = (0, 0); now = [] }) in
    let p = err_from_is_err_and c.from_residual-in_err-try_extend_from_slice-2.result
    c.from_residual-in_err-try_extend_from_slice-2.ensures.1 in
    rw p.1 (line_longer c.args.mark.now _ c.args.pieces.now c.loop-piece.piece-index d _ c.loop-piece-test.true
    c.loop-piece.invariant.so_far (search rules))
