-- The messages of errors while a plan is made, in pieces.
use Rattle.std.specs.Prelude.{ℕ, List, [], ◌∷◌, codes, decimal}
use Rattle.byteorder.specs.Endian.{big_bytes}
use Rattle.avr_io.specs.Record.{Bytes}
use Rattle.avr_image.specs.declared.fault.ImageFault.{ImageFault}
use Rattle.avr_image.specs.declared.fault.ImageFault.TheVariants as image_fault
use Rattle.avr_io.specs.Lines.{digits, file_pieces, memory_pieces, too_long_pieces}
use Rattle.avr_part.specs.Fault.{field_name}
use Rattle.avr_part.specs.Mem.{name_of}
use Rattle.avr_part.specs.declared.fault.PartFault.{PartFault}
use Rattle.avr_part.specs.declared.fault.PartFault.TheVariants as part_fault
use Rattle.avr_part.specs.declared.part.Mem.{Mem}
use Rattle.avr_records.specs.declared.fault.RecordFault.{RecordFault}
use Rattle.avr_records.specs.declared.fault.RecordFault.TheVariants as record_fault
use Rattle.avr_plan.specs.declared.image_file.TheConstants.{LARGEST_IMAGE_FILE}
use Rattle.avr_plan.specs.declared.intake.BadFile.{BadFile}
use Rattle.avr_plan.specs.declared.intake.BadFile.TheVariants as bad_file
use Rattle.avr_plan.specs.declared.image_file.ReadFault.{ReadFault}
use Rattle.avr_plan.specs.declared.image_file.ReadFault.TheVariants as read_fault

-- ---- parts

-- Any other fault of a part file is a failed allocation.
abbrev pub part_file_pieces : Bytes → PartFault → List Bytes
part_file_pieces file part_fault.NotToml = file ∷ codes ": not TOML" ∷ []
part_file_pieces file (part_fault.Missing field) = file ∷ codes ": " ∷ field_name field ∷ codes " is missing" ∷ []
part_file_pieces file (part_fault.BadValue field) = file ∷ codes ": " ∷ field_name field ∷ codes " has a bad value" ∷ []
part_file_pieces file part_fault.BadSizes = file ∷ codes ": sizes do not fit" ∷ []
part_file_pieces file fault = memory_pieces

-- No part has this id.
abbrev pub no_part_pieces : Bytes → List Bytes
no_part_pieces id = codes "no part " ∷ id ∷ []

-- ---- images

-- What is wrong in this line of a file.
abbrev pub in_line_pieces : Bytes → ℕ → Bytes → List Bytes
in_line_pieces file line text = file ∷ codes ": line " ∷ decimal line ∷ text ∷ []

-- Any other fault of a record file read in pieces is a failed allocation.
abbrev pub record_pieces : Bytes → RecordFault → List Bytes
record_pieces file (record_fault.BadMark line) = in_line_pieces file line (codes ": no record mark")
record_pieces file (record_fault.BadDigit line) = in_line_pieces file line (codes ": bad digit")
record_pieces file (record_fault.BadLength line) = in_line_pieces file line (codes ": bad length")
record_pieces file (record_fault.BadSum line) = in_line_pieces file line (codes ": bad checksum")
record_pieces file (record_fault.BadType line) = in_line_pieces file line (codes ": bad record type")
record_pieces file (record_fault.OutOfRange line address) =
    file ∷ codes ": line " ∷ decimal line ∷ codes ": address " ∷ digits (big_bytes 4 address)
    ∷ codes " out of range" ∷ []
record_pieces file (record_fault.LineTooLong line) = in_line_pieces file line (codes ": line too long")
record_pieces file (record_fault.BadCount line) = in_line_pieces file line (codes ": bad record count")
record_pieces file fault = memory_pieces

-- An address is outside the memory that the file or the values are for.
abbrev pub range_pieces : Bytes → ℕ → List Bytes
range_pieces name address = name ∷ codes ": address " ∷ digits (big_bytes 4 address) ∷ codes " out of range" ∷ []

-- Raw bytes go past the memory. Any other fault of them is a failed allocation.
abbrev pub bad_file_pieces : Bytes → BadFile → List Bytes
bad_file_pieces file (bad_file.Record fault) = record_pieces file fault
bad_file_pieces file (bad_file.Raw (image_fault.OutOfRange address)) = range_pieces file address
bad_file_pieces file (bad_file.Raw fault) = memory_pieces
bad_file_pieces file bad_file.Elf = file ∷ codes ": ELF is not read" ∷ []
bad_file_pieces file bad_file.TooLong = too_long_pieces file LARGEST_IMAGE_FILE

-- Why a file gave no image.
abbrev pub image_pieces : Bytes → ReadFault → List Bytes
image_pieces file (read_fault.File fault) = file_pieces file fault
image_pieces file (read_fault.Image bad) = bad_file_pieces file bad

-- What is wrong with the value at this place.
abbrev pub value_pieces : Mem → ℕ → Bytes → List Bytes
value_pieces memory place text = name_of memory ∷ codes ": value " ∷ decimal place ∷ text ∷ []

-- Any other fault of values is a failed allocation.
abbrev pub values_pieces : Mem → ImageFault → List Bytes
values_pieces memory (image_fault.OutOfRange address) = range_pieces (name_of memory) address
values_pieces memory (image_fault.BadNumber place) = value_pieces memory place (codes ": not a number")
values_pieces memory (image_fault.TooLarge place) = value_pieces memory place (codes ": above 255")
values_pieces memory fault = memory_pieces

-- The memory cannot be written.
abbrev pub read_only_pieces : Mem → List Bytes
read_only_pieces memory = name_of memory ∷ codes " is read-only" ∷ []
