-- The image of values.
use Rattle.std.proofs.Common.{◌≡◌, sym, ap, ℕ, true, List, Option, Ok, Err, inl, inr, rules}
use Rattle.avr_plan.specs.declared.settings.Switches.{Switches}
use Rattle.avr_plan.specs.declared.update.Format.TheVariants.{Immediate}
use Rattle.avr_io.specs.Record.{DeskState, Bytes}
use Rattle.avr_image.specs.Fault.{OrOutOfMemory}
use Rattle.avr_image.specs.Values.{image_of_values}
use Rattle.avr_image.specs.declared.fault.ImageFault.{ImageFault}
use Rattle.avr_io.specs.Lines.{error, memory_line}
use Rattle.avr_io.specs.OutputEvents.{ReportsLine}
use Rattle.avr_part.specs.declared.part.Mem.{Mem}
use Rattle.avr_io.proofs.Stages.Played.{completed_good_result, runs_bad_result, runs_without_memory}
use Rattle.avr_plan.specs.Lines.{values_pieces}
use Rattle.avr_plan.specs.Planning.{image_stage, or_line}
use Rattle.avr_io.specs.StageRuns.{OnlyAtStart, RunsStage, StageCompleted}
use Rattle.avr_io.specs.Stage.{Produced}

-- An optional byte for each address.
abbrev Image : Type 0
Image = List (Option ℕ)

-- An image that was returned is that of the values.
pub given_values : (text : Bytes) (size : ℕ) (image : Image) → OrOutOfMemory (Ok image) (image_of_values text size)
    → Ok image ≡ image_of_values text size
given_values text size image gives = search rules

-- If the values are an image, its stage completed with this image.
pub values_made : (switches : Switches) (memory : Mem) (size : ℕ) (text : Bytes) (d : DeskState) (image : Image)
    → OrOutOfMemory (Ok image) (image_of_values text size)
    → StageCompleted (image_stage switches memory size text Immediate) d d (Produced image)
values_made switches memory size text d image gives =
    completed_good_result (or_line (values_pieces memory) (image_of_values text size)) image d
    (ap (or_line (values_pieces memory)) (sym (given_values text size image gives)))

-- If the values are no image, or allocation failed, the stage refused them or broke off.
pub bad_values_refused : (switches : Switches) (memory : Mem) (size : ℕ) (text : Bytes) (old new : DeskState)
    (status : ℕ) (fault : ImageFault) → OrOutOfMemory (Err fault) (image_of_values text size) → status ≡ 1
    → ReportsLine old new (error (values_pieces memory fault))
    → RunsStage (OnlyAtStart true) (image_stage switches memory size text Immediate) old new (Err status)
bad_values_refused switches memory size text old new status fault (inl is) one notice =
    runs_bad_result (OnlyAtStart true) (or_line (values_pieces memory) (image_of_values text size))
    (error (values_pieces memory fault)) old new status (ap (or_line (values_pieces memory)) (sym is)) one notice
bad_values_refused switches memory size text old new status fault (inr refused) one notice =
    search (rules, runs_without_memory)

-- If there was no room for the task of the values, the stage broke off.
pub values_lack_room : (switches : Switches) (memory : Mem) (size : ℕ) (text : Bytes) (old new : DeskState)
    (status : ℕ) → status ≡ 1 → ReportsLine old new memory_line
    → RunsStage (OnlyAtStart true) (image_stage switches memory size text Immediate) old new (Err status)
values_lack_room switches memory size text old new status one notice = search (rules, runs_without_memory)
