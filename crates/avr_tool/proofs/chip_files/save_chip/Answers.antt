-- The clauses of `save_chip`, at each exit where no search finds the proof.
use Rattle.std.proofs.Common.{◌≡◌, ℕ, Err, rules}
use Rattle.std.specs.Prelude.{⊤}
use Rattle.avr_io.specs.Fault.{CountsFailure}
use Rattle.avr_io.specs.Record.{DeskState, Replaces, released, Bytes}
use Rattle.avr_io.specs.declared.desk.DeskFault.{DeskFault}
use Rattle.avr_io.specs.declared.desk.DeskFault.TheVariants.{Failed}
use Rattle.avr_io.specs.declared.stream.Stream.TheVariants.{File}
use Rattle.avr_io.proofs.Lines.ReportedAs.{failure_reported}
use Rattle.avr_io.specs.Lines.{not_written_line}
use Rattle.avr_io.specs.OutputEvents.{ReportsLine}
use Rattle.avr_tool.specs.Saving.{SavesChip}
use Rattle.avr_tool.proofs.chip_files.save_chip.Goals as goal

-- the file was not replaced, or that was tried
not_replaced : (old mid new : DeskState) (file bytes : Bytes) (status : ℕ) (fault : DeskFault)
    → fault ≡ Failed → Replaces file bytes (Err fault) old mid → CountsFailure {T = ⊤} File old mid (Err fault)
    → status ≡ 1 → ReportsLine (released mid) new (not_written_line file) → SavesChip old new file bytes (Err status)
not_replaced old mid new file bytes status fault only kept counts one notice = search (rules, failure_reported)

pub returns-clause-saves : goal.returns-clause-saves
returns-clause-saves g c = search (rules, not_replaced)
