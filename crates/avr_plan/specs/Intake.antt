-- The state of an image reader, and the text that it was fed.
use Rattle.std.specs.Prelude.{◌≡◌, ℕ, length, ◌++◌, Err}
use Rattle.avr_image.specs.Raw as raw_file
use Rattle.avr_io.specs.Record.{Bytes}
use Rattle.avr_records.specs.Reader.{ReaderState, MayHaveRead, memory_size}
use Rattle.avr_records.specs.declared.kind.Found.{Found}
use Rattle.avr_records.specs.declared.kind.Found.TheVariants as file
use Rattle.avr_records.specs.declared.kind.Kind.{Kind}
use Rattle.avr_records.specs.declared.kind.Kind.TheVariants as records
use Rattle.avr_plan.specs.ImageFile.{image_of_file, fault_of_long_file}
use Rattle.avr_plan.specs.declared.intake.BadFile.{BadFile}
use Rattle.avr_plan.specs.declared.intake.BadFile.TheVariants.{Record, TooLong}
use Rattle.avr_plan.specs.declared.intake.Intake.{Intake}
use Rattle.avr_plan.specs.declared.intake.Intake.TheVariants as intake

-- A kind of record file among the kinds of files.
abbrev pub found_as : Kind → Found
found_as records.Ihex = file.Ihex
found_as records.Srec = file.Srec

-- the fault of a longer file with this fault in its first bytes
abbrev pub in_long_file : BadFile → BadFile
in_long_file (Record fault) = Record fault
in_long_file fault = TooLong

-- Every file that begins with this text has this fault, whatever follows.
pub record HasCertainFault (found : Found) (size : ℕ) (fault : BadFile) (text : Bytes) : Type 0 where
  pub whole : (more : Bytes) → image_of_file found (text ++ more) size ≡ Err fault
  pub long : (more : Bytes) → fault_of_long_file found (text ++ more) size ≡ in_long_file fault

-- This reader of records was fed this text of a file of this kind.
pub record RecordReaderWasFed (found : Found) (size : ℕ) (reader : ReaderState) (text : Bytes) : Type 0 where
  pub of_kind : found ≡ found_as reader.kind
  pub of_size : memory_size reader ≡ size
  pub stands : MayHaveRead reader text

-- This reader of raw bytes was fed this text.
pub record RawReaderWasFed (found : Found) (size : ℕ) (reader : raw_file.RawReaderState) (text : Bytes) : Type 0 where
  pub of_kind : found ≡ file.Raw
  pub of_size : length reader.image ≡ size
  pub stands : raw_file.HoldsText reader text

-- The reader was fed this text of a file of this kind, for a memory of `size` bytes.
abbrev pub WasFed : Found → ℕ → Intake → Bytes → Type 0
WasFed found size (intake.Records reader) text = RecordReaderWasFed found size reader text
WasFed found size (intake.Raw reader) text = RawReaderWasFed found size reader text
WasFed found size (intake.Faulty fault) text = HasCertainFault found size fault text

-- How many bytes a reader of records was fed.
abbrev pub record_bytes_fed : Intake → ℕ
record_bytes_fed (intake.Records reader) = reader.fed
record_bytes_fed other = 0
