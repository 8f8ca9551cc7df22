use Rattle.std.proofs.Common.{◌≡◌, refl, arith, ℕ, List, ◌∷◌, ◌==◌, length, Bool, true, false, nat_le, inl, inr, Result, Ok, Err, rules}
use Rattle.std.proofs.lemmas.Bool.Decides.{nat_tests}
use Rattle.avr_io.specs.Fault.{HasSameCounts}
use Rattle.avr_io.specs.Files.{EndsOrExceedsLimit, with_read}
use Rattle.avr_io.specs.Record.{DeskState, ChangesRecord, Bytes}
use Rattle.avr_io.specs.declared.record.Opening.{Opening}
use Rattle.avr_io.specs.declared.record.Opening.TheVariants.{Found}
use Rattle.avr_io.specs.declared.record.Reading.{Reading}
use Rattle.avr_io.specs.Lines.{error, too_long_line}
use Rattle.avr_io.specs.OutputEvents.{OutputEvent, Opens, ReportsLine}
use Rattle.avr_part.specs.ChipFile.{chip_file_size, chip_from_file, state_from_file}
use Rattle.avr_part.specs.Part.{Part}
use Rattle.avr_part.specs.PartFile.{GivesPartUnlessOutOfMemory}
use Rattle.avr_part.specs.State.{ChipState, fresh_state}
use Rattle.avr_part.specs.declared.fault.PartFault.TheVariants.{BadChipFile}
use Rattle.avr_io.proofs.Stages.Openings.{runs_open, runs_content}
use Rattle.avr_io.proofs.Stages.Played.{completed_good_result, runs_bad_result}
use Rattle.avr_io.specs.StageRuns.{OnlyAtStart, RunsStage, StageCompleted}
use Rattle.avr_io.specs.Stage.{Produced, result_stage}
use Rattle.avr_tool.specs.declared.chip_files.TheConstants.{LARGEST_CHIP_FILE}
use Rattle.avr_tool.specs.Lines.{length_pieces}
use Rattle.avr_tool.specs.Loading.{AtOpened, chip_or_line, checked_chip, chip_given, chip_stage}

-- ---- a fresh chip

-- The stage of a fresh chip gives it.
pub fresh_chip_given : (part : Part) (chip : ChipState) (d : DeskState)
    → GivesPartUnlessOutOfMemory (Ok (fresh_state part)) (Ok chip)
    → StageCompleted (result_stage (Ok (fresh_state part))) d d (Produced chip)
fresh_chip_given part chip d (inl gives) =
    let same : fresh_state part ≡ chip = cc in search (rules, completed_good_result)
fresh_chip_given part chip d (inr memory) = cc

-- ---- the chip of some bytes

-- If a chip was made of the bytes, they had the length of a chip of the part.
right_length : (part : Part) (bytes : Bytes) (chip : ChipState) → GivesPartUnlessOutOfMemory (chip_from_file part bytes)
    (Ok chip) → ((length bytes == chip_file_size part) ≡ true) × (chip ≡ state_from_file part bytes)
right_length part bytes chip gives = search rules

-- The stage of these bytes gives their chip.
pub chip_given_by_bytes : (part : Part) (file bytes : Bytes) (chip : ChipState) (d : DeskState)
    → GivesPartUnlessOutOfMemory (chip_from_file part bytes) (Ok chip)
    → StageCompleted (result_stage (chip_or_line part file bytes)) d d (Produced chip)
chip_given_by_bytes part file bytes chip d gives =
    completed_good_result (chip_or_line part file bytes) chip d (search (rules, right_length))

-- Bytes of another length are refused.
pub wrong_length_refused : (part : Part) (file bytes : Bytes) (n : ℕ) (old new : DeskState) (status : ℕ)
    → GivesPartUnlessOutOfMemory (chip_from_file part bytes) (Err (BadChipFile n)) → status ≡ 1
    → ReportsLine old new (error (length_pieces file (length bytes) (chip_file_size part)))
    → RunsStage (OnlyAtStart true) (result_stage (chip_or_line part file bytes)) old new (Err status)
wrong_length_refused part file bytes n old new status gives one notice =
    runs_bad_result (OnlyAtStart true) (chip_or_line part file bytes) _ old new status (search rules) one notice

-- ---- the chip of a file that was read

-- Allocation fails right after the file was opened.
pub opened_at : (opening : Opening) (passed : List Opening) (emitted : List OutputEvent)
    → OnlyAtStart true passed emitted → AtOpened (opening ∷ passed) (Opens opening ∷ emitted)
opened_at opening passed emitted allocates = search rules

-- the check of the file's bytes
whole_file_checked : (part : Part) (file bytes : Bytes) (ended : Bool) (old mid new : DeskState)
    (result : Result ChipState ℕ) → ChangesRecord (with_read file bytes ended) old mid
    → EndsOrExceedsLimit LARGEST_CHIP_FILE (record { bytes = bytes; ended = ended }) → HasSameCounts old mid
    → RunsStage (OnlyAtStart true) (result_stage (checked_chip part file bytes)) mid new result
    → RunsStage AtOpened (chip_stage part file) old new result
whole_file_checked part file bytes ended old mid new result kept whole rose goes =
    let reading : Reading = record { name = file; bytes = bytes; ended = ended } in
    runs_open (OnlyAtStart true) AtOpened file (chip_given part file) (Found reading) old mid new result refl kept rose
    (opened_at (Found reading)) (search (rules, runs_content))

-- if the file was read to its end
pub ended_file_checked : (part : Part) (file bytes : Bytes) (ended : Bool) (old mid new : DeskState)
    (result : Result ChipState ℕ)
    → ChangesRecord (with_read file bytes ended) old mid
    → EndsOrExceedsLimit LARGEST_CHIP_FILE (record { bytes = bytes; ended = ended }) → ended ≡ true
    → HasSameCounts old mid → RunsStage (OnlyAtStart true) (result_stage (chip_or_line part file bytes)) mid new result
    → RunsStage AtOpened (chip_stage part file) old new result
ended_file_checked part file bytes false old mid new result kept whole is rose goes = cc
ended_file_checked part file bytes true old mid new result kept whole is rose goes =
    let fits : nat_le (length bytes) LARGEST_CHIP_FILE ≡ true = grind (arith, nat_tests, whole) in
    whole_file_checked part file bytes true old mid new result kept whole rose (rw fits goes)

-- if it was read past the limit
pub long_file_refused : (part : Part) (file bytes : Bytes) (ended : Bool) (old mid new : DeskState) (status : ℕ)
    → ChangesRecord (with_read file bytes ended) old mid
    → EndsOrExceedsLimit LARGEST_CHIP_FILE (record { bytes = bytes; ended = ended }) → ended ≡ false
    → HasSameCounts old mid → status ≡ 1 → ReportsLine mid new (too_long_line file LARGEST_CHIP_FILE)
    → RunsStage AtOpened (chip_stage part file) old new (Err status)
long_file_refused part file bytes true old mid new status kept whole is rose one notice = cc
long_file_refused part file bytes false old mid new status kept whole is rose one notice =
    let more = whole.0 in
    let long : nat_le (length bytes) LARGEST_CHIP_FILE ≡ false = grind (arith, nat_tests, more) in
    let given : checked_chip part file bytes ≡ Err (too_long_line file LARGEST_CHIP_FILE) = rw long refl in
    search (rules, whole_file_checked, runs_bad_result)
