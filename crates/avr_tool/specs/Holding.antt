-- A chip file that one run locks before it loads the chip.
use Rattle.std.specs.Prelude.{◌≡◌, ◌⊎◌, ℕ, Result, Ok, Err, ⊤}
use Rattle.avr_io.specs.Fault.{HasSameCounts}
use Rattle.avr_io.specs.Record.{DeskState, Record, ChangesRecord, Bytes, after_err, released, with_denied, with_held}
use Rattle.avr_io.specs.Lines.{error, not_written_line}
use Rattle.avr_io.specs.StageRuns.{RunsStage}
use Rattle.avr_io.specs.OutputEvents.{ReportsLineAs, ReportsFailureAs}
use Rattle.avr_part.specs.Part.{Part}
use Rattle.avr_part.specs.State.{ChipState as Chip}
use Rattle.avr_tool.specs.Lines.{in_use_pieces}
use Rattle.avr_tool.specs.Loading.{AtOpened, chip_stage}

-- The desk's record changed like this, and a line was reported as this states. Nothing else was done.
pub record FailsWith (change : Record → Record) (Reports : Bytes → DeskState → DeskState → Type 0)
    (old new : DeskState) : Type 0 where
  pub notice : Bytes
  pub is_reported : Reports notice old new
  pub kept : ChangesRecord (λ r. after_err notice (change r)) old new

-- The file is locked and no call of the desk failed. Or it isn't locked, which was reported, and the status is 1:
-- another run has locked it, or the desk failed at it.
abbrev pub LocksFile : DeskState → DeskState → Bytes → Result ⊤ ℕ → Type 0
LocksFile old new file (Ok done) = ChangesRecord (with_held file) old new × HasSameCounts old new
LocksFile old new file (Err status) = (status ≡ 1)
    × (FailsWith (with_denied file) (ReportsLineAs (error (in_use_pieces file))) old new
    ⊎ FailsWith (λ r. r) (ReportsFailureAs (not_written_line file)) old new)

-- The file was locked, and its chip was loaded, or refused with this status.
pub record LoadsLocked (part : Part) (file : Bytes) (old new : DeskState) (chip : Result Chip ℕ) : Type 0 where
  pub held_desk : DeskState
  pub held : LocksFile old held_desk file (Ok tt)
  pub loaded : RunsStage AtOpened (chip_stage part file) held_desk new chip

-- The file was locked, its chip was loaded, and then this holds.
pub record WithChip (part : Part) (file : Bytes) (old : DeskState) (Then : Chip → DeskState → Type 0) : Type 0 where
  pub chip : Chip
  pub loaded_desk : DeskState
  pub loaded : LoadsLocked part file old loaded_desk (Ok chip)
  pub then_is : Then chip loaded_desk

-- The file is locked and its chip was loaded. Or it could not be locked; or its chip was refused, and it was unlocked.
abbrev pub LocksAndLoads : Part → Bytes → DeskState → DeskState → Result Chip ℕ → Type 0
LocksAndLoads part file old new (Ok chip) = LoadsLocked part file old new (Ok chip)
LocksAndLoads part file old new (Err status) = LocksFile old new file (Err status)
    ⊎ ((left : DeskState) × LoadsLocked part file old left (Err status) × (new ≡ released left))
