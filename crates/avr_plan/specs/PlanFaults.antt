-- The line that is printed for each fault of a plan.
use Rattle.std.specs.Prelude.{◌≡◌, ℕ, List, Option, Some, None, Result, slice_get}
use Rattle.std.specs.Result.{result_map_both}
use Rattle.avr_plan.specs.declared.settings.Settings.{Settings}
use Rattle.avr_plan.specs.declared.update.Update.{Update}
use Rattle.avr_io.specs.Fault.{CountsNeverFall, HasFailedToReport}
use Rattle.avr_io.specs.Lines.{error, file_fault_line, memory_line, too_long_line}
use Rattle.avr_io.specs.Record.{DeskState, Bytes}
use Rattle.avr_io.specs.OutputEvents.{ReportsLine}
use Rattle.avr_plan.specs.Lines.{image_pieces, no_part_pieces, part_file_pieces, read_only_pieces, values_pieces}
use Rattle.avr_plan.specs.declared.part_choice.TheConstants.{LARGEST_PART_FILE}
use Rattle.avr_plan.specs.declared.plan_fault.PartsFault.{PartsFault}
use Rattle.avr_plan.specs.declared.plan_fault.PartsFault.TheVariants as of_parts
use Rattle.avr_plan.specs.declared.plan_fault.PlanFault.{PlanFault}
use Rattle.avr_plan.specs.declared.plan_fault.PlanFault.TheVariants.{PartFile, NoPart, Update as OfUpdate}
use Rattle.avr_plan.specs.declared.plan_fault.TaskFault.{TaskFault}
use Rattle.avr_plan.specs.declared.plan_fault.TaskFault.TheVariants.{ReadOnly, Values, File, Memory, Unwarned}

-- The result, with status 1 in place of its fault.
abbrev pub with_status : {A E : Type 0} → Result A E → Result A ℕ
with_status result = result_map_both (λ a. a) (λ fault. 1) result

-- This line was reported last: whole, unless a write to the messages failed.
abbrev pub ReportsLast : Bytes → DeskState → DeskState → Type 0
ReportsLast line old new = (between : DeskState) × (CountsNeverFall old between × ReportsLine between new line)

-- Without a part file there is no such fault.
abbrev pub ReportsPartsFault : Option Bytes → DeskState → DeskState → PartsFault → Type 0
ReportsPartsFault (Some file) old new (of_parts.File fault) = ReportsLast (file_fault_line file fault) old new
ReportsPartsFault (Some file) old new of_parts.TooLong = ReportsLast (too_long_line file LARGEST_PART_FILE) old new
ReportsPartsFault (Some file) old new (of_parts.Parts fault) = ReportsLast (error (part_file_pieces file fault)) old new
ReportsPartsFault None old new fault = ⊥

-- For `Unwarned` no line follows: the warning could not be printed.
abbrev pub ReportsTaskFault : Update → DeskState → DeskState → TaskFault → Type 0
ReportsTaskFault u old new ReadOnly = ReportsLast (error (read_only_pieces u.memory)) old new
ReportsTaskFault u old new (Values fault) = ReportsLast (error (values_pieces u.memory fault)) old new
ReportsTaskFault u old new (File fault) = ReportsLast (error (image_pieces u.file fault)) old new
ReportsTaskFault u old new Memory = ReportsLast memory_line old new
ReportsTaskFault u old new Unwarned = HasFailedToReport old new

-- The fault of one update, by its index, was reported.
abbrev pub ReportsTasksFault : List Update → DeskState → DeskState → PlanFault → Type 0
ReportsTasksFault updates old new (OfUpdate index fault) =
    (u : Update) × ((slice_get updates index ≡ Some u) × ReportsTaskFault u old new fault)
ReportsTasksFault updates old new fault = ⊥

-- The line of each fault of a plan was reported.
abbrev pub ReportsPlanFault : Settings → DeskState → DeskState → PlanFault → Type 0
ReportsPlanFault s old new (PartFile fault) = ReportsPartsFault s.parts old new fault
ReportsPlanFault s old new NoPart = ReportsLast (error (no_part_pieces s.part)) old new
ReportsPlanFault s old new (OfUpdate index fault) = ReportsTasksFault s.updates old new (OfUpdate index fault)
