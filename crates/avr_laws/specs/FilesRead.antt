-- The files that planning reads, and planning over them.
use Rattle.std.specs.Prelude.{true, List, [], ◌∷◌, ◌++◌, map, Option, Some, None, if◌then◌else◌}
use Rattle.avr_plan.specs.declared.settings.Settings.{Settings}
use Rattle.avr_plan.specs.declared.update.Format.{Format}
use Rattle.avr_plan.specs.declared.update.Format.TheVariants.{Immediate}
use Rattle.avr_plan.specs.declared.update.Op.{Op}
use Rattle.avr_plan.specs.declared.update.Op.TheVariants as op
use Rattle.avr_plan.specs.declared.update.Update.{Update}
use Rattle.avr_desk.specs.Memory.{Stock, content_of_name}
use Rattle.avr_io.specs.Record.{Bytes}
use Rattle.avr_io.specs.OutputEvents.{OutputEvent, Opens, PrintsLine}
use Rattle.avr_io.specs.Stage.{StageResult}
use Rattle.avr_desk.specs.Truth.{IsTrueOpening}
use Rattle.avr_io.specs.declared.record.Opening.{Opening}
use Rattle.avr_io.specs.declared.record.Opening.TheVariants.{Absent, Found}
use Rattle.avr_part.specs.Mem.{is_writable}
use Rattle.avr_plan.specs.Plan.{Plan}
use Rattle.avr_plan.specs.Planning.{planned}

-- The part file, if one is named.
abbrev pub part_file : Option Bytes → List Bytes
part_file None = []
part_file (Some file) = file ∷ []

-- The file of an image, unless its values are on the command line.
abbrev pub image_file : Bytes → Format → List Bytes
image_file file Immediate = []
image_file file format = file ∷ []

-- The file of an update that writes or compares. A write to a read-only memory reads none.
abbrev pub file_of_op : Update → Op → List Bytes
file_of_op u op.Write = if is_writable u.memory then image_file u.file u.format else []
file_of_op u op.Verify = image_file u.file u.format
file_of_op u op.Read = []

-- The files of updates, in order.
abbrev pub files_of : List Update → List Bytes
files_of [] = []
files_of (u ∷ updates) = file_of_op u u.op ++ files_of updates

-- The names of the files that planning reads, in order, unless it is refused before.
abbrev pub files_read : Settings → List Bytes
files_read s = part_file s.parts ++ files_of s.updates

-- The opening of this name, if it has these contents and is read whole.
abbrev pub read_whole : Bytes → Option Bytes → Opening
read_whole name None = Absent name
read_whole name (Some bytes) = Found (record { name = name; bytes = bytes; ended = true })

-- The openings of these names, each read whole.
abbrev pub openings_of_files : Stock → List Bytes → List Opening
openings_of_files stock names = map (λ name. read_whole name (content_of_name stock [] name)) names

-- Planning over these files, each read whole.
abbrev pub planned_from_files : Settings → Stock → StageResult Plan
planned_from_files s stock = planned s (openings_of_files stock (files_read s))

-- The lines printed among these events.
abbrev pub lines_in : List OutputEvent → List Bytes
lines_in [] = []
lines_in (PrintsLine bytes ∷ events) = bytes ∷ lines_in events
lines_in (event ∷ events) = lines_in events

-- Each opening among these output events was true of these files.
abbrev pub AreTrueOpenings : Stock → List OutputEvent → Type 0
AreTrueOpenings stock [] = Unit {0}
AreTrueOpenings stock (Opens opening ∷ events) = IsTrueOpening stock [] opening × AreTrueOpenings stock events
AreTrueOpenings stock (event ∷ events) = AreTrueOpenings stock events
