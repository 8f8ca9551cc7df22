-- The image that the bytes of a file are.
use Rattle.std.specs.Prelude.{ℕ, List, length, take, nat_le, Option, option_map, unwrap_or, Result, Err, if◌then◌else◌}
use Rattle.std.specs.Result.{result_map_both}
use Rattle.avr_plan.specs.declared.update.Format.{Format}
use Rattle.avr_plan.specs.declared.update.Format.TheVariants as letter
use Rattle.avr_image.specs.Raw as raw_file
use Rattle.avr_io.specs.Record.{Bytes}
use Rattle.avr_records.specs.Closed.{ended_lines_fault}
use Rattle.avr_records.specs.Detect.{format_of_file}
use Rattle.avr_records.specs.Reading.{image_in_text}
use Rattle.avr_records.specs.declared.kind.Ending.{Ending}
use Rattle.avr_records.specs.declared.kind.Ending.TheVariants.{Ended}
use Rattle.avr_records.specs.declared.kind.Found.{Found}
use Rattle.avr_records.specs.declared.kind.Found.TheVariants as file
use Rattle.avr_records.specs.declared.kind.Kind.TheVariants as records
use Rattle.avr_records.specs.declared.fault.RecordFault.{RecordFault}
use Rattle.avr_plan.specs.declared.intake.BadFile.{BadFile}
use Rattle.avr_plan.specs.declared.intake.BadFile.TheVariants.{Record, Raw, Elf, TooLong}

-- an image, and whether its file had an end record; or the fault of the file
abbrev pub ImageOrBadFile : Type 0
ImageOrBadFile = Result (List (Option ℕ) × Ending) BadFile

-- The image of a whole file of this kind, for a memory of `size` bytes. Raw bytes have no end record and need none.
abbrev pub image_of_file : Found → Bytes → ℕ → ImageOrBadFile
image_of_file file.Ihex bytes size = result_map_both (λ good. good) Record (image_in_text records.Ihex bytes size)
image_of_file file.Srec bytes size = result_map_both (λ good. good) Record (image_in_text records.Srec bytes size)
image_of_file file.Elf bytes size = Err Elf
image_of_file file.Raw bytes size = result_map_both (λ image. (image, Ended)) Raw (raw_file.raw bytes size)

-- This fault, if there is one, else `TooLong`.
abbrev pub or_too_long : Option RecordFault → BadFile
or_too_long fault = unwrap_or (option_map Record fault) TooLong

-- The fault of a longer file that begins with `prefix`: the first fault of a line that ends in it, or `TooLong`.
abbrev pub fault_of_long_file : Found → Bytes → ℕ → BadFile
fault_of_long_file file.Ihex prefix size = or_too_long (ended_lines_fault records.Ihex prefix size)
fault_of_long_file file.Srec prefix size = or_too_long (ended_lines_fault records.Srec prefix size)
fault_of_long_file found prefix size = TooLong

-- The image of a file that may be longer than `limit`. Then it has a fault.
abbrev pub image_of_file_within : ℕ → Found → Bytes → ℕ → ImageOrBadFile
image_of_file_within limit found bytes size = if nat_le (length bytes) limit then image_of_file found bytes size
    else Err (fault_of_long_file found (take limit bytes) size)

-- The kind of file that a format means, or else the one that the first bytes show.
abbrev pub kind_of : Format → Bytes → Found
kind_of letter.Ihex bytes = file.Ihex
kind_of letter.Srec bytes = file.Srec
kind_of letter.Raw bytes = file.Raw
kind_of format bytes = format_of_file bytes

-- The image of a file in this format, or its fault.
abbrev pub image_within : ℕ → Format → Bytes → ℕ → ImageOrBadFile
image_within limit format bytes size = image_of_file_within limit (kind_of format bytes) bytes size
