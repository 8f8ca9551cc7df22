use Rattle.std.proofs.Common.{rules}
use Rattle.avr_io.proofs.FilePieces.{read_piece}
use Rattle.avr_io.proofs.files.read_file.Goals as goal

pub returns-then-is_err-clause-kept : goal.returns-then-is_err-clause-kept
returns-then-is_err-clause-kept g c = search (rules, read_piece)
