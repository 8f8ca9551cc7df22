-- What a desk records when a whole file is read, to its end or past a limit.
use Rattle.std.specs.Prelude.{◌≡◌, ◌≤◌, ◌<◌, ◌+◌, ℕ, length, Bool, Result, Ok, Err, false, MatchBool}
use Rattle.avr_io.specs.Record.{DeskState, Record, Bytes, ChangesRecord, noted, with_open, with_absent}
use Rattle.avr_io.specs.Fault.{CountsNeverFall, HasFailedAt, HasSameCounts}
use Rattle.avr_io.specs.declared.record.Open.TheVariants.{ToRead}
use Rattle.avr_io.specs.declared.files.Contents.{Contents}
use Rattle.avr_io.specs.declared.files.FileFault.{FileFault}
use Rattle.avr_io.specs.declared.files.FileFault.TheVariants.{Absent, NotOpened, NotRead, Memory}
use Rattle.avr_io.specs.declared.stream.Stream.TheVariants.{File}

-- the number of a fault, which never changes
abbrev pub file_fault_number : FileFault → ℕ
file_fault_number fault = elim fault [ Absent ↦ 1 | NotOpened ↦ 2 | NotRead ↦ 3 | Memory ↦ 4 ]

-- the open file gave these bytes, and its end was seen if `ended`
abbrev pub after_reading : Bytes → Bool → Record → Record
after_reading bytes ended r = record r { current = noted bytes ended r.current }

-- a file was opened and gave these bytes
abbrev pub with_read : Bytes → Bytes → Bool → Record → Record
with_read name bytes ended r = with_open (ToRead (record { name = name; bytes = bytes; ended = ended })) r

-- The file was opened and gave the returned bytes. The record notes that a file doesn't exist, and doesn't change if
-- the file couldn't be opened. If reading broke off, the file gave some bytes.
abbrev pub ReadsFile : Bytes → DeskState → DeskState → Result Contents FileFault → Type 0
ReadsFile name old new (Ok c) = ChangesRecord (with_read name c.bytes c.ended) old new
ReadsFile name old new (Err Absent) = ChangesRecord (with_absent name) old new
ReadsFile name old new (Err NotOpened) = new.kept ≡ old.kept
ReadsFile name old new (Err fault) = (bytes : Bytes) × ChangesRecord (with_read name bytes false) old new

-- The same for the faults alone. If allocation failed, the file may have given all its bytes.
abbrev pub FileBreaks : Bytes → DeskState → DeskState → FileFault → Type 0
FileBreaks name old new Absent = ChangesRecord (with_absent name) old new
FileBreaks name old new NotOpened = new.kept ≡ old.kept
FileBreaks name old new NotRead = (bytes : Bytes) × ChangesRecord (with_read name bytes false) old new
FileBreaks name old new Memory = (bytes : Bytes) × (ended : Bool) × ChangesRecord (with_read name bytes ended) old new

-- The desk failed only if the file could not be opened or read.
abbrev pub CountsFileFault : DeskState → DeskState → FileFault → Type 0
CountsFileFault old new NotOpened = HasFailedAt File old new
CountsFileFault old new NotRead = HasFailedAt File old new
CountsFileFault old new fault = HasSameCounts old new

-- The end was seen within the limit; or more bytes came, at most 4,096 of them past the limit.
abbrev pub EndsOrExceedsLimit : ℕ → Contents → Type 0
EndsOrExceedsLimit limit c =
    MatchBool c.ended (length c.bytes ≤ limit) ((limit < length c.bytes) × (length c.bytes ≤ limit + 4096))

-- The counts never fall, and show whether the desk failed. A failed allocation is no failure of the desk.
abbrev pub CountsReadResult : DeskState → DeskState → Result Contents FileFault → Type 0
CountsReadResult old new (Ok c) = CountsNeverFall old new × HasSameCounts old new
CountsReadResult old new (Err fault) = CountsNeverFall old new × CountsFileFault old new fault
