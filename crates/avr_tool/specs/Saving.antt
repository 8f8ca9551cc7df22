-- Saving a chip file: it is replaced whole, or that failed.
use Rattle.std.specs.Prelude.{◌≡◌, ◌⊎◌, ℕ, Result, Ok, Err, ⊤}
use Rattle.avr_io.specs.Fault.{HasSameCounts}
use Rattle.avr_io.specs.Record.{DeskState, ChangesRecord, Bytes, with_none_held, with_replaced, with_tried}
use Rattle.avr_io.specs.Lines.{memory_line, not_written_line}
use Rattle.avr_io.specs.OutputEvents.{ReportsLineAs, ReportsFailureAs}
use Rattle.avr_tool.specs.Holding.{FailsWith}

-- The file was replaced by these bytes and no call of the desk failed. Or the file was unlocked, this was reported, and
-- the status is 1: allocation failed, or the desk failed at the file, before or while it was replaced.
abbrev pub SavesChip : DeskState → DeskState → Bytes → Bytes → Result ⊤ ℕ → Type 0
SavesChip old new file bytes (Ok done) = ChangesRecord (with_replaced file bytes) old new × HasSameCounts old new
SavesChip old new file bytes (Err status) = (status ≡ 1)
    × (FailsWith with_none_held (ReportsLineAs memory_line) old new
    ⊎ FailsWith with_none_held (ReportsFailureAs (not_written_line file)) old new
    ⊎ FailsWith (λ r. with_tried file bytes (with_none_held r)) (ReportsFailureAs (not_written_line file)) old new)

-- The chip was saved, and the status is `ran`; or it could not be saved, and the status is 1.
abbrev pub SavesAfterRun : ℕ → DeskState → DeskState → Bytes → Bytes → ℕ → Type 0
SavesAfterRun ran old new file bytes status = (SavesChip old new file bytes (Ok tt) × (status ≡ ran))
    ⊎ ((fault : ℕ) × SavesChip old new file bytes (Err fault) × (status ≡ 1))
