-- Writes of bytes to a stream of a desk, whole or in part.
use Rattle.std.specs.Prelude.{◌≤◌, ℕ, take, length, Result, Ok, Err, IfOk}
use Rattle.avr_io.specs.declared.desk.DeskFault.{DeskFault}
use Rattle.avr_io.specs.Fault.{IsCall, WriteCounts}
use Rattle.avr_io.specs.Record.{DeskState, Record, Bytes, ChangesRecord, after_write, after_out, after_err}
use Rattle.avr_io.specs.declared.stream.Stream.{Stream}
use Rattle.avr_io.specs.declared.stream.Stream.TheVariants.{File, Output, Messages}

-- the record after these bytes were sent to this stream
abbrev pub after_sent : Stream → Bytes → Record → Record
after_sent File bytes r = after_write bytes r
after_sent Output bytes r = after_out bytes r
after_sent Messages bytes r = after_err bytes r

-- A prefix of these bytes was sent to the stream, and nothing else happened.
abbrev pub SendsPart : Stream → DeskState → DeskState → Bytes → Type 0
SendsPart stream old new bytes = (n : ℕ) × (n ≤ length bytes) × ChangesRecord (after_sent stream (take n bytes)) old new

-- The returned count of bytes was sent to the stream; after a fault perhaps a prefix.
abbrev pub SendsTaken : Stream → Bytes → DeskState → DeskState → Result ℕ DeskFault → Type 0
SendsTaken stream bytes old new (Ok n) = ChangesRecord (after_sent stream (take n bytes)) old new
SendsTaken stream bytes old new (Err fault) = SendsPart stream old new bytes

-- What every write of a desk promises: the count is at most the length, and that many bytes were sent.
pub record IsWrite {Desk Start : Type 0} (view : Desk → DeskState) (started_as : Start → Desk → Type 0)
    (stream : Stream) (bytes : Bytes) (old new : Desk) (r : Result ℕ DeskFault) : Type 0 where
  pub bound : IfOk r (λ n. n ≤ length bytes)
  pub kept : SendsTaken stream bytes (view old) (view new) r
  pub call : IsCall view started_as (WriteCounts stream bytes) old new r
