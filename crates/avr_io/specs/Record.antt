-- The record of a desk: what it was asked, and what it gave.
use Rattle.std.specs.Prelude.{◌≡◌, ◌⊎◌, ◌==◌, ◌&&◌, ◌||◌, ◌+◌, ℕ, Bool, true, false, not, List, [], ◌∷◌, ◌++◌, take, length, Option, Some, None, Result, Ok, Err, OnOk, ⊤, filter_map}
use Rattle.avr_io.specs.declared.desk.DeskFault.{DeskFault}
use Rattle.avr_io.specs.declared.desk.DeskFault.TheVariants.{NotFound, Failed}
use Rattle.avr_io.specs.declared.record.Writing.{Writing}
use Rattle.avr_io.specs.declared.record.Opening.{Opening}
use Rattle.avr_io.specs.declared.record.Opening.TheVariants.{Absent, Found}
use Rattle.avr_io.specs.declared.record.FileUse.{FileUse}
use Rattle.avr_io.specs.declared.record.FileUse.TheVariants.{Opened, Created}
use Rattle.avr_io.specs.declared.record.Open.{Open}
use Rattle.avr_io.specs.declared.record.Open.TheVariants.{Closed, ToRead, ToWrite}

-- bytes of a file, of a name or of a text
abbrev pub Bytes : Type 0
Bytes = List ℕ

-- What a desk was asked to do, and what it gave.
pub record Record : Type 0 where
  -- the finished uses of files, in order
  pub uses : List FileUse
  -- the open file
  pub current : Open
  -- the held file
  pub held : Option Bytes
  -- the files that couldn't be held, because they were held already
  pub denied : List Bytes
  -- all replacements, also failed ones
  pub tried : List Writing
  -- how many releases were asked for
  pub releases : ℕ
  pub output : Bytes
  pub messages : Bytes

-- What contracts see of any desk: its record, the count of failed calls, and of failed writes to the messages.
pub record DeskState : Type 0 where
  pub kept : Record
  pub failures : ℕ
  pub message_failures : ℕ

-- a state of a desk
abbrev pub showing : Record → ℕ → ℕ → DeskState
showing kept failures message_failures =
    record { kept = kept; failures = failures; message_failures = message_failures }

-- The record of the desk changed like this. Most contracts over a desk cite it.
abbrev pub ChangesRecord : (Record → Record) → DeskState → DeskState → Type 0
ChangesRecord change old new = new.kept ≡ change old.kept

-- the open file as a use, if one is open
abbrev pub use_of : Open → List FileUse
use_of Closed = []
use_of (ToRead x) = Opened (Found x) ∷ []
use_of (ToWrite x) = Created x ∷ []

-- the openings among these uses; below, the files created or replaced
abbrev pub openings_among : List FileUse → List Opening
openings_among = filter_map (λ used. elim used [ Opened opening ↦ Some opening | Created file ↦ None ])

abbrev pub files_among : List FileUse → List Writing
files_among = filter_map (λ used. elim used [ Opened opening ↦ None | Created file ↦ Some file ])

-- all uses, the open file last
abbrev pub all_uses : Record → List FileUse
all_uses r = r.uses ++ use_of r.current

-- all openings, the file that is open to read last
abbrev pub all_openings : Record → List Opening
all_openings r = openings_among r.uses ++ openings_among (use_of r.current)

-- all files created or replaced, the one that is open to write last
abbrev pub all_files : Record → List Writing
all_files r = files_among r.uses ++ files_among (use_of r.current)

-- The open file is now this one. The one before is among the uses.
abbrev pub with_open : Open → Record → Record
with_open o r = record r { uses = all_uses r; current = o }

-- the open file is closed, and no file has this name
abbrev pub with_absent : Bytes → Record → Record
with_absent name r = record r { uses = all_uses r ++ Opened (Absent name) ∷ []; current = Closed }

-- the record after a call that opens a file to read
abbrev pub after_open : Bytes → Result ⊤ DeskFault → Record → Record
after_open name (Ok done) r = with_open (ToRead (record { name = name; bytes = []; ended = false })) r
after_open name (Err NotFound) r = with_absent name r
after_open name (Err Failed) r = r

-- the record after a call that creates a file
abbrev pub after_create : Bytes → Result ⊤ DeskFault → Record → Record
after_create name (Ok done) r = with_open (ToWrite (record { name = name; bytes = [] })) r
after_create name (Err fault) r = r

-- the file of this name is held
abbrev pub with_held : Bytes → Record → Record
with_held name r = record r { held = Some name }

-- the file of this name was held already
abbrev pub with_denied : Bytes → Record → Record
with_denied name r = record r { denied = r.denied ++ name ∷ [] }

-- the record after a call that holds a file; `false` means that it was held already
abbrev pub after_hold : Bytes → Result Bool DeskFault → Record → Record
after_hold name (Ok true) r = with_held name r
after_hold name (Ok false) r = with_denied name r
after_hold name (Err fault) r = r

-- nothing is held after a release, and the release is counted
abbrev pub with_none_held : Record → Record
with_none_held r = record r { held = None; releases = r.releases + 1 }

-- the state after a release
abbrev pub released : DeskState → DeskState
released view = record view { kept = with_none_held view.kept }

-- a replacement was tried, whatever its result
abbrev pub with_tried : Bytes → Bytes → Record → Record
with_tried name bytes r = record r { tried = r.tried ++ record { name = name; bytes = bytes } ∷ [] }

-- the file was replaced; the open file is closed and nothing is held
abbrev pub with_replaced : Bytes → Bytes → Record → Record
with_replaced name bytes r =
    let file : Writing = record { name = name; bytes = bytes } in
    record r { uses = all_uses r ++ Created file ∷ []; current = Closed; held = None; tried = r.tried ++ file ∷ [] }

-- The file was replaced. A failed call may be in the record as tried.
abbrev pub Replaces : Bytes → Bytes → Result ⊤ DeskFault → DeskState → DeskState → Type 0
Replaces name bytes (Ok done) old new = ChangesRecord (with_replaced name bytes) old new
Replaces name bytes (Err fault) old new = (new.kept ≡ old.kept) ⊎ ChangesRecord (with_tried name bytes) old new

-- these bytes were read; `ends` if the end was seen
abbrev pub noted : Bytes → Bool → Open → Open
noted bytes ends (ToRead x) = ToRead (record x { bytes = x.bytes ++ bytes; ended = x.ended || ends })
noted bytes ends o = o

-- the end was seen if nothing was read into a buffer that isn't empty
abbrev pub after_read : Bytes → Result ℕ DeskFault → Record → Record
after_read buf (Ok n) r = record r { current = noted (take n buf) (n == 0 && not (length buf == 0)) r.current }
after_read buf (Err fault) r = r

-- these bytes were written to the file, if it is open to write
abbrev pub written_on : Bytes → Open → Open
written_on bytes (ToWrite x) = ToWrite (record x { bytes = x.bytes ++ bytes })
written_on bytes o = o

-- the bytes that a write took
abbrev pub bytes_taken : Bytes → Result ℕ DeskFault → Bytes
bytes_taken bytes (Ok n) = take n bytes
bytes_taken bytes (Err fault) = []

-- these bytes were written to the open file; below, to the output and to the messages
abbrev pub after_write : Bytes → Record → Record
after_write bytes r = record r { current = written_on bytes r.current }

abbrev pub after_out : Bytes → Record → Record
after_out bytes r = record r { output = r.output ++ bytes }

abbrev pub after_err : Bytes → Record → Record
after_err bytes r = record r { messages = r.messages ++ bytes }

-- the file is open to read; below, to write
abbrev pub is_to_read : Open → Bool
is_to_read (ToRead x) = true
is_to_read o = false

abbrev pub is_to_write : Open → Bool
is_to_write (ToWrite x) = true
is_to_write o = false

-- a call succeeds only if the open file passes the test
abbrev pub HasOpen : {T : Type 0} → (Open → Bool) → DeskState → Result T DeskFault → Type 0
HasOpen test old r = OnOk r (test old.kept.current ≡ true)

-- the record of a new desk
abbrev pub nothing_kept : Record
nothing_kept = record
    { uses = []; current = Closed; held = None; denied = []; tried = []; releases = 0; output = []; messages = [] }
