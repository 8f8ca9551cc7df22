-- Bytes written to a file or to standard output: for contracts inside this crate.
use Rattle.std.specs.Prelude.{◌≡◌, Result, Ok, Err, OnErr, OnOk, ⊤}
use Rattle.avr_io.specs.Fault.{CountsFailure, HasSameCounts, IsCall}
use Rattle.avr_io.specs.Record.{DeskState, ChangesRecord, after_err, Bytes}
use Rattle.avr_io.specs.Stream.{SendsPart, after_sent}
use Rattle.avr_io.specs.declared.stream.Stream.{Stream}
use Rattle.avr_session.specs.Runs.{Cause, FileFailed, NotWritten}
use Rattle.avr_session.specs.Reporting.{DeskStops}
use Rattle.avr_io.specs.declared.desk.Desk.{Ghosts}
use Rattle.avr_io.specs.declared.desk.DeskFault.{DeskFault}

-- All of the text was written to the stream; or a prefix of it was, and then a call failed.
pub record SendsText {D : Type 0} (desk : Ghosts D) (stream : Stream) (text : Bytes) (old new : D)
    (result : Result ⊤ DeskFault) : Type 0 where
  pub all : OnOk result (ChangesRecord (after_sent stream text) (desk.view old) (desk.view new))
  pub part : OnErr result (SendsPart stream (desk.view old) (desk.view new) text)
  pub call : IsCall desk.view desk.started_as (CountsFailure stream) old new result

-- The desk failed at creating or writing this file, and this was reported.
abbrev pub SaveStops : Bytes → DeskState → DeskState → Cause → Bytes → Type 0
SaveStops file old new (FileFailed named trouble) notice =
    (named ≡ file) × DeskStops old new (FileFailed named trouble) notice
SaveStops file old new cause notice = ⊥

-- A prefix of the bytes was written. Then the desk failed, and this was reported for this file.
pub record WritesSome (stream : Stream) (file : Bytes) (old new : DeskState) (bytes : Bytes) : Type 0 where
  pub between : DeskState
  pub part : SendsPart stream old between bytes
  pub notice : Bytes
  pub stops : DeskStops old new (FileFailed file NotWritten) notice
  pub kept : ChangesRecord (after_err notice) between new

-- All bytes were written and no call failed, or a prefix of them was written.
abbrev pub WritesAll : Stream → Bytes → DeskState → DeskState → Bytes → Result ⊤ DeskFault → Type 0
WritesAll stream file old new bytes (Ok done) = ChangesRecord (after_sent stream bytes) old new × HasSameCounts old new
WritesAll stream file old new bytes (Err _) = WritesSome stream file old new bytes
