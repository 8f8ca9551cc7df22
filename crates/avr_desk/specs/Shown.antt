-- The state of a program's desk, and how its record agrees with writers and files.
use Rattle.std.specs.Prelude.{◌≡◌, ◌++◌, ℕ, Bool, false, ◌≤◌, length, List, Option, None, IsSome, Result, Ok, Err, take}
use Rattle.std.specs.Io.KnownBytes.{Appends}
use Rattle.std.specs.List.{list_any}
use Rattle.std.specs.declared.io.ErrorKind.{ErrorKind}
use Rattle.std.specs.declared.io.Read.{Ghosts as Reads}
use Rattle.std.specs.declared.io.Write.{Ghosts as Writes}
use Rattle.avr_desk.specs.Handles.{IsTrueRecord}
use Rattle.avr_desk.specs.Journal.{no_calls}
use Rattle.avr_io.specs.Named.{is_dash}
use Rattle.avr_io.specs.Record.{Bytes, Record, DeskState, all_files, nothing_kept, showing}
use Rattle.avr_desk.specs.OpenFile.{is_output}
use Rattle.avr_io.specs.Stream.{after_sent}
use Rattle.avr_desk.specs.declared.file_system.FileSystem.{Ghosts}
use Rattle.avr_io.specs.declared.record.Writing.{Writing}
use Rattle.avr_io.specs.declared.stream.Stream.{Stream}
use Rattle.avr_io.specs.declared.desk.DeskFault.{DeskFault}
use Rattle.avr_io.specs.declared.desk.DeskFault.TheVariants.{Failed}
use Rattle.avr_desk.specs.declared.system.OpenFile.{OpenFile}
use Rattle.avr_desk.specs.declared.system.OpenFile.TheVariants.{Nothing}

-- The state in contracts. `opened` and `hold` are the handles of the open and the held file; the record is ghost.
pub record Shown (S F H I O E : Type 0) : Type 0 where
  pub system : S
  pub output : O
  pub messages : E
  pub failures : ℕ
  pub message_failures : ℕ
  pub last_error : Option ErrorKind
  pub opened : OpenFile F I
  pub hold : Option H
  pub kept : Record

-- what contracts see of any desk
abbrev pub system_desk_view : {S F H I O E : Type 0} → Shown S F H I O E → DeskState
system_desk_view d = showing d.kept d.failures d.message_failures

-- `old` with the failures, the last error and the record of `new`; `with_open_of` also with its open file
abbrev pub with_log_of : {S F H I O E : Type 0} → Shown S F H I O E → Shown S F H I O E → Shown S F H I O E
with_log_of old new = record old { failures = new.failures; last_error = new.last_error; kept = new.kept }

abbrev pub with_open_of : {S F H I O E : Type 0} → Shown S F H I O E → Shown S F H I O E → Shown S F H I O E
with_open_of old new = record (with_log_of old new) { opened = new.opened }

-- whether the created file is the output
abbrev pub writes_to_output : {S F H I O E : Type 0} → Shown S F H I O E → Bool
writes_to_output d = is_output d.opened

-- A failure sets the last error. Any other result keeps it.
abbrev pub KeepsLastError : {A : Type 0} → Option ErrorKind → Option ErrorKind → Result A DeskFault → Type 0
KeepsLastError old new (Err Failed) = IsSome new
KeepsLastError old new result = new ≡ old

-- After the call the desk is `left`, and `goes` is whether its created file is the output. Only a failure sets the last
-- error.
abbrev pub Leaves : {S F H I O E A : Type 0} → Shown S F H I O E → Bool → Shown S F H I O E → Shown S F H I O E
    → Result A DeskFault → Type 0
Leaves left goes old new result =
    (new ≡ left) × (writes_to_output new ≡ goes) × KeepsLastError old.last_error new.last_error result

-- A writer with known bytes took n bytes, and the record has the same n.
abbrev pub RecordsTaken : Stream → Bytes → Option Bytes → Option Bytes → Record → Record → ℕ → Type 0
RecordsTaken stream bytes old new before now n =
    (now ≡ after_sent stream (take n bytes) before) × Appends old new (take n bytes)

-- The record has the bytes that the writer took. After a success this is the returned count, and the writer is flushed;
-- after a fault it is a prefix.
abbrev pub RecordsTruly : {F : Type 0} → Stream → Bytes → Option Bytes → Option Bytes → Type 0 → Record → Record
    → Result ℕ F → Type 0
RecordsTruly stream bytes old new flushed before now (Ok n) = RecordsTaken stream bytes old new before now n × flushed
RecordsTruly stream bytes old new flushed before now (Err fault) =
    (n : ℕ) × (n ≤ length bytes) × RecordsTaken stream bytes old new before now n

-- whether the created file is the output, after a file was opened to read; a failed call changes nothing
abbrev pub writes_to_output_after_open : Result (Unit {0}) DeskFault → Bool → Bool
writes_to_output_after_open (Err Failed) before = before
writes_to_output_after_open result before = false

-- one of these files is `-`
abbrev pub has_dash : List Writing → Bool
has_dash = list_any (λ file. is_dash file.name)

-- What the record gained since `old` is true. The known bytes of the writers grew by what was sent to them; for the
-- output, while no file is the output too. If the record of files was true in `old`, it is true now. A file that was
-- the output stays among the files.
pub record IsTrueSince {S F I H O E : Type 0} (system : Ghosts S F I H) (reads : Reads F) (writes : Writes F)
    (input : Reads I) (output_of : Writes O) (messages_of : Writes E) (old new : Shown S F H I O E) : Type 0 where
  pub message_bytes : Bytes
  pub messages : new.kept.messages ≡ old.kept.messages ++ message_bytes
  pub messages_taken : Appends (messages_of.contents old.messages) (messages_of.contents new.messages) message_bytes
  pub output_bytes : Bytes
  pub output : new.kept.output ≡ old.kept.output ++ output_bytes
  pub dashes : has_dash (all_files new.kept) ≡ false → has_dash (all_files old.kept) ≡ false
  pub out : has_dash (all_files new.kept) ≡ false → writes_to_output old ≡ false → (writes_to_output new ≡ false)
      × Appends (output_of.contents old.output) (output_of.contents new.output) output_bytes
  pub files : IsTrueRecord system reads writes input old.system old.opened old.hold old.kept
      → IsTrueRecord system reads writes input new.system new.opened new.hold new.kept

-- A desk with an empty record and nothing open or held, over a system that has done nothing.
pub record IsNewDesk {S F I H O E : Type 0} (system : Ghosts S F I H) (d : Shown S F H I O E) : Type 0 where
  pub fresh : system.has_done no_calls d.system
  pub unheld : (name : Bytes) (found : Option Bytes) → system.left d.system name found → ⊥
  pub opened : d.opened ≡ Nothing
  pub hold : d.hold ≡ None
  pub kept : d.kept ≡ nothing_kept

-- If the desk was new, its record is true and has all that the system did.
abbrev pub RecordsAll : {S F I H O E : Type 0} → Ghosts S F I H → Reads F → Writes F → Reads I → Shown S F H I O E
    → Shown S F H I O E → Type 0
RecordsAll system reads writes input old new =
    IsNewDesk system old → IsTrueRecord system reads writes input new.system new.opened new.hold new.kept
