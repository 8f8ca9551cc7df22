-- How a report ends, whole or at a failure of the desk: for contracts inside this crate.
use Rattle.std.specs.Prelude.{List, map, ◌≡◌, ◌++◌, [], Result, Ok, Err, ⊤}
use Rattle.avr_io.specs.Fault as desk
use Rattle.avr_io.specs.Fault.{CountsNeverFall, HasSameCounts}
use Rattle.avr_io.specs.Record.{DeskState, ChangesRecord, after_err, Bytes}
use Rattle.avr_io.specs.OutputEvents.{OutputEvent, ReportsFailureAs, after_events}
use Rattle.stk_host.specs.Dialog.{Emitted}
use Rattle.avr_io.specs.declared.desk.Desk.{Ghosts}
use Rattle.avr_io.specs.declared.desk.DeskFault.{DeskFault}
use Rattle.ghosts.specs.Preserves.{Preserves}
use Rattle.avr_session.specs.Runs.{Cause, FileFailed, PrintingFailed, cause_line, StopsAt}

-- Only a failure of the desk stops output.
abbrev pub IsOfDesk : Cause → Type 0
IsOfDesk (FileFailed file trouble) = Unit {0}
IsOfDesk PrintingFailed = Unit {0}
IsOfDesk cause = ⊥

-- A prefix of the output events was done, and perhaps a part of the next one, at which this cause stops them.
pub record OutputsPrefix (cause : Cause) (old new : DeskState) (events : List OutputEvent) : Type 0 where
  pub whole : List OutputEvent
  pub begun : List OutputEvent
  pub later : List OutputEvent
  pub outputs_are : events ≡ whole ++ later
  pub place : StopsAt cause [] (map Emitted whole) (map Emitted begun) (map Emitted later)
  pub by_desk : IsOfDesk cause
  pub kept : ChangesRecord (after_events (whole ++ begun)) old new

-- A prefix of the output events was done, and then the cause was reported. `By` states which causes can stop output.
pub record OutputsPrefixAndReports (By : DeskState → DeskState → Cause → Bytes → Type 0) (old new : DeskState)
    (events : List OutputEvent) : Type 0 where
  pub between : DeskState
  pub cause : Cause
  pub prefix : OutputsPrefix cause old between events
  pub notice : Bytes
  pub stops : By old new cause notice
  pub kept : ChangesRecord (after_err notice) between new

-- All output events were done and no call failed, or a prefix of them was done.
abbrev pub OutputsOrStops : (DeskState → DeskState → Cause → Bytes → Type 0) → DeskState → DeskState → List OutputEvent
    → Result ⊤ DeskFault → Type 0
OutputsOrStops By old new events (Ok done) = ChangesRecord (after_events events) old new × HasSameCounts old new
OutputsOrStops By old new events (Err _) = OutputsPrefixAndReports By old new events

-- Output events were done, or a prefix of them; the counts never fall.
pub record Reports (By : DeskState → DeskState → Cause → Bytes → Type 0) (old new : DeskState)
    (events : List OutputEvent) (result : Result ⊤ DeskFault) : Type 0 where
  pub emits : OutputsOrStops By old new events result
  pub follows : CountsNeverFall old new

-- A write to the messages failed; nothing reports this.
abbrev pub PrintStops : DeskState → DeskState → Cause → Bytes → Type 0
PrintStops old new PrintingFailed notice = desk.HasFailedToReport old new × (notice ≡ [])
PrintStops old new cause notice = ⊥

-- These output events were done at a desk, or a cause that `By` allows stopped them.
pub record Outputs {D : Type 0} (desk : Ghosts D) (By : DeskState → DeskState → Cause → Bytes → Type 0)
    (events : List OutputEvent) (old new : D) (result : Result ⊤ DeskFault) : Type 0 where
  pub reports : Reports By (desk.view old) (desk.view new) events result
  pub stays : Preserves desk.started_as old new

-- Lines were printed, or a write to the messages failed.
abbrev pub Prints : {D : Type 0} → Ghosts D → List OutputEvent → D → D → Result ⊤ DeskFault → Type 0
Prints desk events old new result = Outputs desk PrintStops events old new result

-- The desk failed at a file, and this was reported; or it failed at the messages.
abbrev pub DeskStops : DeskState → DeskState → Cause → Bytes → Type 0
DeskStops old new (FileFailed file trouble) notice =
    ReportsFailureAs (cause_line (FileFailed file trouble)) notice old new
DeskStops old new cause notice = PrintStops old new cause notice

-- The desk can fail at a file only after a read without a fault, because nothing else is saved.
abbrev pub ReadStops : {A Fault : Type 0} → Result A Fault → DeskState → DeskState → Cause → Bytes → Type 0
ReadStops (Ok read) = DeskStops
ReadStops (Err fault) = PrintStops
