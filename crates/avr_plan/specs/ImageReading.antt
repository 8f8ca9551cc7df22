-- What a desk records while an image file is read.
use Rattle.std.specs.Prelude.{◌≡◌, ◌≤◌, ℕ, List, [], ◌++◌, length, Option, Bool, false, Result, Ok, Err, MatchBool}
use Rattle.avr_plan.specs.declared.update.Format.{Format}
use Rattle.avr_io.specs.Fault.{HasSameCounts}
use Rattle.avr_io.specs.Files.{after_reading, with_read, CountsFileFault, EndsOrExceedsLimit}
use Rattle.avr_io.specs.Record.{DeskState, Record, ChangesRecord, Bytes}
use Rattle.avr_io.specs.declared.files.FileFault.{FileFault}
use Rattle.avr_io.specs.declared.files.FileFault.TheVariants.{NotRead}
use Rattle.avr_records.specs.declared.kind.Ending.{Ending}
use Rattle.avr_records.specs.declared.kind.Found.{Found}
use Rattle.avr_plan.specs.ImageFile.{ImageOrBadFile, image_of_file_within, image_within}
use Rattle.avr_plan.specs.declared.image_file.FirstBytes.{FirstBytes}
use Rattle.avr_plan.specs.declared.image_file.ReadFault.{ReadFault}
use Rattle.avr_plan.specs.declared.image_file.ReadFault.TheVariants.{File, Image}

-- An image and whether its file had an end record, or why there is none.
abbrev pub ImageOrFault : Type 0
ImageOrFault = Result (List (Option ℕ) × Ending) ReadFault

-- The file was read, and `Gives` holds of its image or fault. Or it was not read, and `Breaks` holds of the fault.
abbrev pub MatchRead : (ImageOrBadFile → Type 0) → (FileFault → Type 0) → ImageOrFault → Type 0
MatchRead Gives Breaks (Ok good) = Gives (Ok good)
MatchRead Gives Breaks (Err (Image bad)) = Gives (Err bad)
MatchRead Gives Breaks (Err (File fault)) = Breaks fault

-- Only a fault of the desk is counted, not one of the image.
abbrev pub CountsReadFault : DeskState → DeskState → ReadFault → Type 0
CountsReadFault old new (File fault) = CountsFileFault old new fault
CountsReadFault old new (Image bad) = HasSameCounts old new

-- Reading failed: some bytes of the open file were read, and its end wasn't seen.
abbrev pub BreaksReading : DeskState → DeskState → FileFault → Type 0
BreaksReading old new fault = (fault ≡ NotRead) × (bytes : Bytes) × ChangesRecord (after_reading bytes false) old new

-- The open file was read to its end, or its first 1,024 bytes were read; or reading failed.
abbrev pub FirstBytesAreRead : DeskState → DeskState → Result FirstBytes FileFault → Type 0
FirstBytesAreRead old new (Ok prefix) = ChangesRecord (after_reading prefix.bytes.items prefix.ended) old new
    × MatchBool prefix.ended (length prefix.bytes.items ≤ 1024) (length prefix.bytes.items ≡ 1024)
FirstBytesAreRead old new (Err fault) = BreaksReading old new fault

-- After the bytes `before`, a file was read to its end or past the limit, which the desk records as `after_bytes` says.
-- `given` is what `image_of` makes of all bytes.
pub record ReadsToEnd (limit : ℕ) (before : Bytes) (after_bytes : Bytes → Bool → Record → Record)
    (image_of : Bytes → ImageOrBadFile) (old new : DeskState) (given : ImageOrBadFile) : Type 0 where
  pub bytes : Bytes
  pub ended : Bool
  pub kept : ChangesRecord (after_bytes bytes ended) old new
  pub whole : EndsOrExceedsLimit limit (record { bytes = before ++ bytes; ended = ended })
  pub gives : given ≡ image_of (before ++ bytes)

-- The rest of the open file was read.
abbrev pub ReadsRest : ℕ → Found → ℕ → Bytes → DeskState → DeskState → ImageOrBadFile → Type 0
ReadsRest limit found size before =
    ReadsToEnd limit before after_reading (λ bytes. image_of_file_within limit found bytes size)

-- The file of this name was opened and read.
abbrev pub ReadsImage : ℕ → Format → ℕ → Bytes → DeskState → DeskState → ImageOrBadFile → Type 0
ReadsImage limit format size name =
    ReadsToEnd limit [] (with_read name) (λ bytes. image_within limit format bytes size)
