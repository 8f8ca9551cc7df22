-- The image of an update.
use Rattle.std.proofs.Common.{◌≡◌, sym, ap, ℕ, false, List, Option, Ok, Err, rules}
use Rattle.avr_plan.specs.declared.settings.Switches.{Switches}
use Rattle.avr_plan.specs.declared.update.Format.{Format}
use Rattle.avr_io.specs.Fault.{CountsNeverFall, HasSameCounts}
use Rattle.avr_io.specs.Files.{FileBreaks}
use Rattle.avr_io.specs.Lines.{error, memory_line}
use Rattle.avr_io.specs.declared.files.FileFault.TheVariants as file_fault
use Rattle.avr_io.specs.Record.{DeskState, Bytes}
use Rattle.avr_io.specs.OutputEvents.{ReportsLine}
use Rattle.avr_records.specs.declared.kind.Ending.{Ending}
use Rattle.avr_io.proofs.Lines.ReportedAs.{follows_same}
use Rattle.avr_io.proofs.Stages.Files.{runs_read_file, completed_read_file, runs_file_fault, never_allocates}
use Rattle.avr_io.proofs.Stages.Played.{runs_then, runs_first_only, runs_bad_result, completed_then, completed_good_result}
use Rattle.avr_plan.specs.declared.image_file.TheConstants.{LARGEST_IMAGE_FILE}
use Rattle.avr_plan.specs.ImageReading.{CountsReadFault, MatchRead, ReadsImage}
use Rattle.avr_plan.specs.Lines.{bad_file_pieces, image_pieces}
use Rattle.avr_plan.specs.Planning.{file_image_stage, checked_image, or_line, warning_events}
use Rattle.avr_io.specs.StageRuns.{OnlyAtStart, RunsStage, StageCompleted}
use Rattle.avr_io.specs.Stage.{Stage, Produced, ◌>>=◌, result_stage, output_stage, file_stage}
use Rattle.avr_plan.specs.declared.intake.BadFile.{BadFile}
use Rattle.avr_plan.specs.declared.image_file.ReadFault.{ReadFault}
use Rattle.avr_plan.specs.declared.image_file.ReadFault.TheVariants as fault_of

-- An optional byte for each address.
abbrev Image : Type 0
Image = List (Option ℕ)

-- The stage after the file: the warning, and the image.
abbrev behind_file : Switches → Bytes → Image × Ending → Stage Image
behind_file switches file given = output_stage (warning_events switches file given.1) >>=
    λ ok. result_stage (Ok given.0)

-- If the file of an image was read, its stage completed with the image.
image_file_read : (file : Bytes) (format : Format) (size : ℕ) (old mid : DeskState) (image : Image) (ending : Ending)
    → ReadsImage LARGEST_IMAGE_FILE format size file old mid (Ok (image, ending)) → HasSameCounts old mid
    → StageCompleted (file_stage file LARGEST_IMAGE_FILE (checked_image file format size)) old mid
    (Produced (image, ending))
image_file_read file format size old mid image ending reads same =
    let judge = checked_image file format size in
    let given : judge reads.bytes ≡ Ok (image, ending) = ap (or_line (bad_file_pieces file)) (sym reads.gives) in
    completed_read_file (OnlyAtStart false) file LARGEST_IMAGE_FILE judge reads.bytes reads.ended old mid (image, ending)
    reads.kept reads.whole same (completed_good_result (judge reads.bytes) (image, ending) mid given)

module _ (switches : Switches) (file : Bytes) (format : Format) (size : ℕ) where
  -- If the file was an image and the warning was printed, the stage of the image completed.
  pub file_image_made : (old mid new : DeskState) (image : Image) (ending : Ending)
      → ReadsImage LARGEST_IMAGE_FILE format size file old mid (Ok (image, ending)) → HasSameCounts old mid
      → StageCompleted (output_stage (warning_events switches file ending)) mid new (Produced tt)
      → StageCompleted (file_image_stage switches file format size) old new (Produced image)
  file_image_made old mid new image ending reads same warns =
      completed_then (file_stage file LARGEST_IMAGE_FILE (checked_image file format size)) (behind_file switches file)
      old mid new (image, ending) (Produced image)
      (image_file_read file format size old mid image ending reads same)
      (search rules)

  -- If the warning could not be printed, the stage broke off.
  pub warning_fails : (old mid new : DeskState) (image : Image) (ending : Ending) (status : ℕ)
      → ReadsImage LARGEST_IMAGE_FILE format size file old mid (Ok (image, ending)) → HasSameCounts old mid
      → RunsStage (OnlyAtStart false) (output_stage (warning_events switches file ending)) mid new (Err status)
      → RunsStage (OnlyAtStart false) (file_image_stage switches file format size) old new (Err status)
  warning_fails old mid new image ending status reads same warns =
      runs_then (OnlyAtStart false) (OnlyAtStart false) (file_stage file LARGEST_IMAGE_FILE
      (checked_image file format size)) (behind_file switches file) old mid new
      (image, ending) (Err status) (image_file_read file format size old mid image ending reads same)
      (λ passed emitted never. absurd (never_allocates passed emitted never))
      (search (rules, runs_first_only))

  -- If the file was read and is no image, the stage refused it.
  bad_image_refused : (old mid new : DeskState) (bad : BadFile) (status : ℕ)
      → ReadsImage LARGEST_IMAGE_FILE format size file old mid (Err bad) → HasSameCounts old mid → status ≡ 1
      → ReportsLine mid new (error (bad_file_pieces file bad))
      → RunsStage (OnlyAtStart false) (file_image_stage switches file format size) old new (Err status)
  bad_image_refused old mid new bad status reads same one notice =
      let judge = checked_image file format size in
      let given : judge reads.bytes ≡ Err (error (bad_file_pieces file bad)) =
      ap (or_line (bad_file_pieces file)) (sym reads.gives) in
      search (rules, runs_first_only, runs_read_file, runs_bad_result)

  -- If the file was not read, the stage broke off.
  file_not_read : (old new : DeskState) (status : ℕ)
      → RunsStage (OnlyAtStart false) (file_stage file LARGEST_IMAGE_FILE (checked_image file format size)) old new
      (Err status) → RunsStage (OnlyAtStart false) (file_image_stage switches file format size) old new (Err status)
  file_not_read old new status goes = search (rules, runs_first_only)

  -- If the file was an image and there was no room for its task, the stage broke off.
  pub file_image_lacks_room : (old mid new : DeskState) (image : Image) (ending : Ending) (status : ℕ)
      → ReadsImage LARGEST_IMAGE_FILE format size file old mid (Ok (image, ending)) → HasSameCounts old mid
      → status ≡ 1 → ReportsLine mid new memory_line
      → RunsStage (OnlyAtStart false) (file_image_stage switches file format size) old new (Err status)
  file_image_lacks_room old mid new image ending status reads same one notice =
      file_not_read old new status
      (runs_file_fault (OnlyAtStart false) file LARGEST_IMAGE_FILE (checked_image file format size) file_fault.Memory
      old mid new status (reads.bytes, reads.ended, reads.kept) (follows_same old mid same) same one notice)

  -- If the file gave no image, the stage broke off or refused it.
  pub file_image_refused : (old mid new : DeskState) (fault : ReadFault) (status : ℕ)
      → MatchRead (ReadsImage LARGEST_IMAGE_FILE format size file old mid) (FileBreaks file old mid) (Err fault)
      → CountsNeverFall old mid → CountsReadFault old mid fault → status ≡ 1
      → ReportsLine mid new (error (image_pieces file fault))
      → RunsStage (OnlyAtStart false) (file_image_stage switches file format size) old new (Err status)
  file_image_refused old mid new (fault_of.File fault) status reads rose counted one notice =
      search (rules, file_not_read, runs_file_fault)
  file_image_refused old mid new (fault_of.Image bad) status reads rose counted one notice =
      search (rules, bad_image_refused)
