-- The chip loaded, as a function of what opening its file gives.
use Rattle.std.specs.Prelude.{◌≡◌, ◌==◌, nat_le, [], ◌∷◌, length, Result, Ok, Err, if◌then◌else◌}
use Rattle.avr_io.specs.Record.{Bytes}
use Rattle.avr_io.specs.declared.record.Opening.{Opening}
use Rattle.avr_io.specs.declared.record.Opening.TheVariants.{Absent, Found}
use Rattle.avr_io.specs.Lines.{error, too_long_line}
use Rattle.avr_part.specs.ChipFile.{chip_file_size, state_from_file}
use Rattle.avr_part.specs.Part.{Part}
use Rattle.avr_part.specs.State.{ChipState, fresh_state}
use Rattle.avr_io.specs.StageRuns.{AllocationPoints}
use Rattle.avr_io.specs.OutputEvents.{Opens}
use Rattle.avr_io.specs.Stage.{Stage, ◌>>=◌, result_stage, open_stage, content_stage}
use Rattle.avr_tool.specs.declared.chip_files.TheConstants.{LARGEST_CHIP_FILE}
use Rattle.avr_tool.specs.Lines.{length_pieces}

-- The chip with these bytes; any length but the part's is refused.
abbrev pub chip_or_line : Part → Bytes → Bytes → Result ChipState Bytes
chip_or_line part file bytes = if length bytes == chip_file_size part then Ok (state_from_file part bytes)
    else Err (error (length_pieces file (length bytes) (chip_file_size part)))

-- A file past the limit is refused, whatever the part.
abbrev pub checked_chip : Part → Bytes → Bytes → Result ChipState Bytes
checked_chip part file bytes = if nat_le (length bytes) LARGEST_CHIP_FILE then chip_or_line part file bytes
    else Err (too_long_line file LARGEST_CHIP_FILE)

-- If the file doesn't exist, the chip is fresh.
abbrev pub chip_given : Part → Bytes → Opening → Stage ChipState
chip_given part file (Absent name) = result_stage (Ok (fresh_state part))
chip_given part file (Found reading) = content_stage file LARGEST_CHIP_FILE (checked_chip part file) (Found reading)

-- Loads the chip of a file.
abbrev pub chip_stage : Part → Bytes → Stage ChipState
chip_stage part file = open_stage file >>= chip_given part file

-- Allocation can fail after the file was opened or found missing.
abbrev pub AtOpened : AllocationPoints
AtOpened passed emitted = (opening : Opening) × (passed ≡ opening ∷ []) × (emitted ≡ Opens opening ∷ [])
