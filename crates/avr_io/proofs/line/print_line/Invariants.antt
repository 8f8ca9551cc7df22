use Rattle.std.proofs.Common.{◌≡◌, ◌++◌, take}
use Rattle.avr_io.specs.Fault.{HasSameCounts}
use Rattle.avr_io.specs.Record.{after_err}
use Rattle.avr_io.proofs.Lines.Pieces.{all_text}
use Rattle.ghosts.specs.Preserves.{Preserves}
use Rattle.avr_io.proofs.line.print_line.Given as goal

abbrev pub invariant-loop-piece : goal.invariant-loop-piece
invariant-loop-piece g l = record {
  sent : (g.D.Desk.view l.desk).kept ≡ after_err (l.fn.mark ++ all_text (take l.piece-index l.pieces))
      (g.D.Desk.view l.fn.desk).kept;
  counted : HasSameCounts (g.D.Desk.view l.fn.desk) (g.D.Desk.view l.desk);
  stays : Preserves g.D.Desk.started_as l.fn.desk l.desk;
}
