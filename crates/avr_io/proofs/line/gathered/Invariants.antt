use Rattle.std.proofs.Common.{◌≡◌, ◌++◌, take}
use Rattle.avr_io.proofs.Lines.Pieces.{all_text}
use Rattle.avr_io.proofs.line.gathered.Given as goal

abbrev pub invariant-loop-piece : goal.invariant-loop-piece
invariant-loop-piece l = record { so_far : l.line.items ≡ l.fn.mark ++ all_text (take l.piece-index l.pieces) }
