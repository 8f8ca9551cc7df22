-- What a program's desk records of files and standard input is what the system's handles gave. The record is true by
-- parametricity: contracts know of a system's files only what the system's calls ensure.
use Rattle.std.specs.Prelude.{◌≡◌, ◌≤◌, ◌⊎◌, true, length, Option, List, Some, None, IfSome}
use Rattle.std.specs.Io.KnownBytes.{Appends, Consumes}
use Rattle.std.specs.List.{All, Contains}
use Rattle.std.specs.declared.io.Read.{Ghosts as Reads}
use Rattle.std.specs.declared.io.Write.{Ghosts as Writes}
use Rattle.avr_desk.specs.Journal.{calls_of_record}
use Rattle.avr_io.specs.Named.{is_dash}
use Rattle.avr_io.specs.Record.{Bytes, Record}
use Rattle.avr_desk.specs.declared.file_system.FileSystem.{Ghosts}
use Rattle.avr_io.specs.declared.record.FileUse.{FileUse}
use Rattle.avr_io.specs.declared.record.FileUse.TheVariants.{Opened, Created}
use Rattle.avr_io.specs.declared.record.Open.{Open}
use Rattle.avr_io.specs.declared.record.Open.TheVariants as is
use Rattle.avr_io.specs.declared.record.Opening.TheVariants.{Absent, Found}
use Rattle.avr_io.specs.declared.record.Reading.{Reading}
use Rattle.avr_io.specs.declared.record.Writing.{Writing}
use Rattle.avr_desk.specs.declared.system.OpenFile.{OpenFile}
use Rattle.avr_desk.specs.declared.system.OpenFile.TheVariants.{Nothing, Input, ToRead, ToWrite, Output}

-- Between `first` and `now` the handle gave these bytes. None are left if its end was seen.
pub record HandleGave {H : Type 0} (reads : Reads H) (first now : H) (reading : Reading) : Type 0 where
  pub gave : Consumes (reads.remaining first) (reads.remaining now) reading.bytes
  pub ends : reading.ended ≡ true → IfSome (reads.remaining first) (λ bytes. length bytes ≤ length reading.bytes)

-- `now` is a handle that was opened so, and has given this since
abbrev pub Gave : {H : Type 0} → (H → Type 0) → Reads H → H → Reading → Type 0
Gave {H = H} IsOpened reads now reading = (first : H) × IsOpened first × HandleGave reads first now reading

-- the file was created by this name, and has taken these bytes since
abbrev pub TookFile : {S F I H : Type 0} → Ghosts S F I H → Writes F → F → Writing → Type 0
TookFile {F = F} system writes now writing =
    (first : F) × system.is_of first writing.name
    × Appends (writes.contents first) (writes.contents now) writing.bytes

-- The open handle gave or took what the record says. `-` is standard input as the system gave it, or the output. Any
-- other name is a file that was opened or created by this name.
abbrev pub IsTrueOpen : {S F I H : Type 0} → Ghosts S F I H → Reads F → Writes F → Reads I → OpenFile F I
    → Open → Type 0
IsTrueOpen system reads writes input Nothing current = current ≡ is.Closed
IsTrueOpen system reads writes input (Input now) current =
    (reading : Reading) × (current ≡ is.ToRead reading) × (is_dash reading.name ≡ true)
    × Gave system.is_input input now reading
IsTrueOpen system reads writes input (ToRead now) current =
    (reading : Reading) × (current ≡ is.ToRead reading)
    × Gave (λ first. system.is_of first reading.name) reads now reading
IsTrueOpen system reads writes input (ToWrite now) current =
    (writing : Writing) × (current ≡ is.ToWrite writing) × TookFile system writes now writing
IsTrueOpen system reads writes input Output current =
    (writing : Writing) × (current ≡ is.ToWrite writing) × (is_dash writing.name ≡ true)

-- The same for a finished use: the name was absent, or the file gave these bytes. A written file took these bytes and
-- was closed, or was replaced by them; `-` is the output.
abbrev pub IsTrueUse : {S F I H : Type 0} → Ghosts S F I H → Reads F → Writes F → Reads I → FileUse → Type 0
IsTrueUse system reads writes input (Opened (Absent name)) = system.lacks name
IsTrueUse {F = F} {I = I} system reads writes input (Opened (Found reading)) =
    ((now : I) × (is_dash reading.name ≡ true) × Gave system.is_input input now reading)
    ⊎ ((now : F) × Gave (λ first. system.is_of first reading.name) reads now reading)
IsTrueUse {F = F} system reads writes input (Created writing) =
    (is_dash writing.name ≡ true) ⊎ ((now : F) × system.closed now × TookFile system writes now writing)
    ⊎ system.replaced writing.name writing.bytes

-- the handle holds the file of this name, or there is neither
abbrev pub IsHeldBy : {S F I H : Type 0} → Ghosts S F I H → Option H → Option Bytes → Type 0
IsHeldBy system None None = Unit {0}
IsHeldBy system (Some hold) (Some name) = system.holds hold name
IsHeldBy system hold name = ⊥

-- A crash leaves of a held file what was there when it was locked, or bytes that were to replace it.
abbrev pub CrashLeaves : {S F I H : Type 0} → Ghosts S F I H → S → List Writing → Type 0
CrashLeaves system now tried = (name : Bytes) (found : Option Bytes) → system.left now name found
    → system.began name found
    ⊎ ((bytes : Bytes) × (found ≡ Some bytes) × Contains tried (record { name = name; bytes = bytes }))

-- The record of files and standard input is what the system returned for the names asked. The system did nothing else:
-- its calls are those of the uses in order, and it holds what the record has. A crash leaves only bytes of a held
-- file that the record has.
pub record IsTrueRecord {S F I H : Type 0} (system : Ghosts S F I H) (reads : Reads F) (writes : Writes F)
    (input : Reads I) (now : S) (opened : OpenFile F I) (hold : Option H) (kept : Record) : Type 0 where
  pub uses : All (IsTrueUse system reads writes input) kept.uses
  pub current : IsTrueOpen system reads writes input opened kept.current
  pub denied : All system.denies kept.denied
  pub held : IsHeldBy system hold kept.held
  pub has_done : system.has_done (calls_of_record kept) now
  pub crash : CrashLeaves system now kept.tried
