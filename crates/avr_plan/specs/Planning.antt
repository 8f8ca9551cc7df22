-- The stages of a plan in order: the part file, the part, and each update with its file.
use Rattle.std.specs.Prelude.{ℕ, Bool, false, nat_le, nat_lt, List, [], ◌∷◌, ◌++◌, length, Option, Some, None, Result, Ok, Err, IsErr, codes, if◌then◌else◌}
use Rattle.std.specs.Result.{result_map_both}
use Rattle.avr_io.specs.Record.{DeskState, Bytes}
use Rattle.avr_plan.specs.declared.settings.Settings.{Settings}
use Rattle.avr_plan.specs.declared.settings.Switches.{Switches}
use Rattle.avr_plan.specs.declared.update.Format.{Format}
use Rattle.avr_plan.specs.declared.update.Format.TheVariants.{Immediate}
use Rattle.avr_plan.specs.declared.update.Op.{Op}
use Rattle.avr_plan.specs.declared.update.Op.TheVariants as op
use Rattle.avr_plan.specs.declared.update.Update.{Update}
use Rattle.avr_image.specs.Values.{image_of_values}
use Rattle.avr_io.specs.Lines.{error, warning, too_long_line}
use Rattle.avr_io.specs.OutputEvents.{OutputEvent, PrintsLine, ReportsLine}
use Rattle.avr_part.specs.BuiltIn.{part_of_id}
use Rattle.avr_part.specs.Mem.{is_writable}
use Rattle.avr_part.specs.Part.{Part, size_of}
use Rattle.avr_part.specs.PartFile.{parts_of}
use Rattle.avr_part.specs.declared.part.Mem.{Mem}
use Rattle.avr_records.specs.declared.kind.Ending.{Ending}
use Rattle.avr_records.specs.declared.kind.Ending.TheVariants.{Ended, NoEnd}
use Rattle.avr_plan.specs.declared.image_file.TheConstants.{LARGEST_IMAGE_FILE}
use Rattle.avr_plan.specs.declared.part_choice.TheConstants.{LARGEST_PART_FILE}
use Rattle.avr_plan.specs.ImageFile.{image_within}
use Rattle.avr_plan.specs.Lines.{bad_file_pieces, no_part_pieces, part_file_pieces, read_only_pieces, values_pieces}
use Rattle.avr_plan.specs.Plan.{Plan}
use Rattle.avr_io.specs.Stage.{Stage, ◌>>=◌, result_stage, output_stage, file_stage}
use Rattle.avr_plan.specs.declared.planned.Task.{Task}
use Rattle.avr_plan.specs.declared.planned.Task.TheVariants.{Write, Verify, Read}

-- ---- the part

-- The result, with the line of an error in place of the fault, whose message has these pieces.
abbrev pub or_line : {A E : Type 0} → (E → List Bytes) → Result A E → Result A Bytes
or_line pieces result = result_map_both (λ good. good) (λ fault. error (pieces fault)) result

-- The parts of a part file with these bytes, or the line that refuses it.
abbrev pub checked_parts : Bytes → Bytes → Result (List Part) Bytes
checked_parts file bytes =
    if nat_le (length bytes) LARGEST_PART_FILE then or_line (λ bad. part_file_pieces file bad.fault) (parts_of bytes)
    else Err (too_long_line file LARGEST_PART_FILE)

-- The parts of the part file. Without one there are none.
abbrev pub parts_stage : Option Bytes → Stage (List Part)
parts_stage None = result_stage (Ok [])
parts_stage (Some file) = file_stage file LARGEST_PART_FILE (checked_parts file)

-- The part with this id. Parts of the file come before the built-in ones.
abbrev pub part_stage : Bytes → List Part → Stage Part
part_stage id parts = result_stage (or_line (λ fault. no_part_pieces id) (part_of_id id parts))

-- No part has this id, and this was reported.
abbrev pub LacksPart : Bytes → List Part → DeskState → DeskState → Type 0
LacksPart id parts old new = IsErr (part_of_id id parts) × ReportsLine old new (error (no_part_pieces id))

-- ---- the image of an update

-- A missing end record causes a warning, unless `-q` was given twice or more.
abbrev pub is_warned : Switches → Ending → Bool
is_warned switches Ended = false
is_warned switches NoEnd = nat_lt switches.quiet 2

-- The warning about a missing end record, if it is due.
abbrev pub warning_events : Switches → Bytes → Ending → List OutputEvent
warning_events switches file ending =
    if is_warned switches ending then PrintsLine (warning (file ∷ codes ": no end record" ∷ [])) ∷ [] else []

-- The image of a file with these bytes, or the line that refuses it.
abbrev pub checked_image : Bytes → Format → ℕ → Bytes → Result (List (Option ℕ) × Ending) Bytes
checked_image file format size bytes =
    or_line (bad_file_pieces file) (image_within LARGEST_IMAGE_FILE format bytes size)

-- Reads the image of a file, and warns of a missing end record.
abbrev pub file_image_stage : Switches → Bytes → Format → ℕ → Stage (List (Option ℕ))
file_image_stage switches file format size = do
  given ← file_stage file LARGEST_IMAGE_FILE (checked_image file format size)
  ok ← output_stage (warning_events switches file given.1)
  result_stage (Ok given.0)

-- Immediate values are on the command line. Any other image is in a file.
abbrev pub image_stage : Switches → Mem → ℕ → Bytes → Format → Stage (List (Option ℕ))
image_stage switches memory size file Immediate =
    result_stage (or_line (values_pieces memory) (image_of_values file size))
image_stage switches memory size file format = file_image_stage switches file format size

-- ---- the tasks

-- Reads the image of an update, of its memory's size.
abbrev pub update_image : Switches → Part → Update → Stage (List (Option ℕ))
update_image switches part u = image_stage switches u.memory (size_of u.memory part) u.file u.format

-- The task of an update that writes. A read-only memory is refused before its file is opened.
abbrev pub write_stage : Switches → Part → Update → Stage Task
write_stage switches part u =
    if is_writable u.memory then (update_image switches part u >>= λ image. result_stage (Ok (Write u.memory image)))
    else result_stage (Err (error (read_only_pieces u.memory)))

-- The task of an update with this operation.
abbrev pub op_stage : Switches → Part → Update → Op → Stage Task
op_stage switches part u op.Write = write_stage switches part u
op_stage switches part u op.Verify = update_image switches part u >>= λ image. result_stage (Ok (Verify u.memory image))
op_stage switches part u op.Read = result_stage (Ok (Read u.memory u.format u.file))

-- The task of an update.
abbrev pub task_stage : Switches → Part → Update → Stage Task
task_stage switches part u = op_stage switches part u u.op

-- `tasks`, then those of the updates
abbrev pub tasks_stage : Switches → Part → List Task → List Update → Stage (List Task)
tasks_stage switches part tasks [] = result_stage (Ok tasks)
tasks_stage switches part tasks (u ∷ updates) =
    task_stage switches part u >>= λ task. tasks_stage switches part (tasks ++ task ∷ []) updates

-- The plan of these settings.
abbrev pub planned : Settings → Stage Plan
planned s = do
  parts ← parts_stage s.parts
  part ← part_stage s.part parts
  tasks ← tasks_stage s.switches part [] s.updates
  result_stage (Ok (record { part = part; tasks = tasks; switches = s.switches }))
