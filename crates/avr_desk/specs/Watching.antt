-- What a watcher of a desk receives.
use Rattle.std.specs.Prelude.{ℕ, Bool, Result, ⊤}
use Rattle.avr_io.specs.Record.{Bytes}
use Rattle.avr_io.specs.declared.desk.DeskFault.{DeskFault}
use Rattle.avr_io.specs.declared.stream.Stream.{Stream}
use Rattle.avr_desk.specs.declared.watched.DeskCall.{DeskCall}
use Rattle.avr_desk.specs.declared.watched.DeskCall.TheVariants as call

-- a finished call with its arguments and result
pub data ReportedDeskCall : Type 0 where
  Opened : Bytes → Result ⊤ DeskFault → ReportedDeskCall
  Created : Bytes → Result ⊤ DeskFault → ReportedDeskCall
  Held : Bytes → Result Bool DeskFault → ReportedDeskCall
  Released : ReportedDeskCall
  Checked : Bytes → Result ⊤ DeskFault → ReportedDeskCall
  Replaced : Bytes → Bytes → Result ⊤ DeskFault → ReportedDeskCall
  Read : Bytes → Result ℕ DeskFault → ReportedDeskCall
  Wrote : Stream → Bytes → Result ℕ DeskFault → ReportedDeskCall

-- a call that the code reports, as a value for contracts
abbrev pub reported_desk_call : DeskCall → ReportedDeskCall
reported_desk_call (call.Opened name outcome) = Opened name.now outcome
reported_desk_call (call.Created name outcome) = Created name.now outcome
reported_desk_call (call.Held name outcome) = Held name.now outcome
reported_desk_call call.Released = Released
reported_desk_call (call.Checked name outcome) = Checked name.now outcome
reported_desk_call (call.Replaced name bytes outcome) = Replaced name.now bytes.now outcome
reported_desk_call (call.Read buffer outcome) = Read buffer.now outcome
reported_desk_call (call.Wrote stream bytes outcome) = Wrote stream bytes.now outcome
