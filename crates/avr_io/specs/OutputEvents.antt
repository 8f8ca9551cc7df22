-- Output events: the files that a run opens, the lines that it prints, and the files and output that it writes.
use Rattle.std.specs.Prelude.{◌≡◌, ◌⊎◌, List, [], ◌∷◌, ◌++◌, Result, Ok, Err}
use Rattle.avr_io.specs.Record.{DeskState, Record, ChangesRecord, with_open, with_absent, after_write, after_out, after_err, Bytes}
use Rattle.avr_io.specs.Fault.{CountsNeverFall, HasFailedAt, HasFailedToReport, HasSameCounts}
use Rattle.avr_io.specs.Stream.{SendsPart}
use Rattle.avr_io.specs.declared.record.Opening.{Opening}
use Rattle.avr_io.specs.declared.record.Opening.TheVariants.{Absent, Found}
use Rattle.avr_io.specs.declared.record.Open.TheVariants.{ToRead, ToWrite}
use Rattle.avr_io.specs.declared.stream.Stream.TheVariants.{File, Messages}

-- A file is opened, with what it gives; a line is printed to the messages; or a file of this name is created. Or bytes
-- are written to that file, or to standard output.
pub data OutputEvent : Type 0 where
  Opens : Opening → OutputEvent
  PrintsLine : Bytes → OutputEvent
  CreatesFile : Bytes → OutputEvent
  WritesFile : Bytes → OutputEvent
  WritesOutput : Bytes → OutputEvent

-- the record after a file was opened or found absent
abbrev pub after_opening : Opening → Record → Record
after_opening (Absent name) r = with_absent name r
after_opening (Found reading) r = with_open (ToRead reading) r

-- the record after an event
abbrev pub after : OutputEvent → Record → Record
after (Opens opening) r = after_opening opening r
after (PrintsLine bytes) r = after_err bytes r
after (CreatesFile name) r = with_open (ToWrite (record { name = name; bytes = [] })) r
after (WritesFile bytes) r = after_write bytes r
after (WritesOutput bytes) r = after_out bytes r

-- the record after these events, in order
abbrev pub after_events : List OutputEvent → Record → Record
after_events [] r = r
after_events (event ∷ events) r = after_events events (after event r)

-- the second bytes begin with the first
abbrev pub IsBytePrefixOf : Bytes → Bytes → Type 0
IsBytePrefixOf prefix bytes = (back : Bytes) × (prefix ++ back ≡ bytes)

-- The first event is the second, done in part: a prefix of the bytes was printed or written. It bounds what an
-- interrupted run printed.
abbrev pub IsPartOfEvent : OutputEvent → OutputEvent → Type 0
IsPartOfEvent (PrintsLine part) (PrintsLine whole) = IsBytePrefixOf part whole
IsPartOfEvent (WritesFile part) (WritesFile whole) = IsBytePrefixOf part whole
IsPartOfEvent (WritesOutput part) (WritesOutput whole) = IsBytePrefixOf part whole
IsPartOfEvent _ _ = ⊥

-- The clause `printed` of calls that print: the line was printed, or a prefix of it if a write to the messages failed.
abbrev pub IsPrinted : {T Fault : Type 0} → DeskState → DeskState → Bytes → Result T Fault → Type 0
IsPrinted old new bytes (Ok done) = ChangesRecord (after_err bytes) old new
IsPrinted old new bytes (Err fault) = SendsPart Messages old new bytes

-- Of the line, `notice` was reported: all of it if no call failed, a prefix if a write to the messages failed.
abbrev pub ReportsLineAs : Bytes → Bytes → DeskState → DeskState → Type 0
ReportsLineAs line notice old new =
    ((notice ≡ line) × HasSameCounts old new) ⊎ (IsBytePrefixOf notice line × HasFailedToReport old new)

-- The line was reported as far as the desk took it, and nothing else happened. Contracts of refusals cite it.
pub record ReportsLine (old new : DeskState) (line : Bytes) : Type 0 where
  pub notice : Bytes
  pub is_reported : ReportsLineAs line notice old new
  pub kept : ChangesRecord (after_err notice) old new
  pub follows : CountsNeverFall old new

-- A call for a file or the output failed, in the state `between`. After that the line about it was reported as
-- `notice`.
pub record ReportsFailureAs (line notice : Bytes) (old new : DeskState) : Type 0 where
  pub between : DeskState
  pub failed : HasFailedAt File old between
  pub is_reported : ReportsLineAs line notice between new
  pub since : CountsNeverFall old between
  pub until : CountsNeverFall between new
