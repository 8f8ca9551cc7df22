-- A desk of six calls in place of one that locks files and replaces them whole.
use Rattle.std.specs.Prelude.{◌≡◌, ◌⊎◌, ◌≤◌, ◌+◌, ℕ, Bool, true, false, List, [], ◌∷◌, take, length, Result, Ok, Err, ⊤, if◌then◌else◌}
use Rattle.ghosts.specs.Failures.{counted}
use Rattle.avr_io.specs.Record.{DeskState, Record, Bytes, ChangesRecord, showing, all_uses, after_create, after_write}
use Rattle.avr_io.specs.declared.desk.DeskFault.{DeskFault}
use Rattle.avr_io.specs.declared.desk.DeskFault.TheVariants.{NotFound, Failed}
use Rattle.avr_io.specs.declared.record.FileUse.{FileUse}
use Rattle.avr_io.specs.declared.record.FileUse.TheVariants.{Opened, Created}
use Rattle.avr_io.specs.declared.record.Open.{Open}
use Rattle.avr_io.specs.declared.record.Open.TheVariants.{Closed, ToRead, ToWrite}
use Rattle.avr_io.specs.declared.record.Opening.TheVariants.{Found}
use Rattle.avr_tool.specs.Noted.{Noted}

-- `is_open`: the last use of a file is the open file; otherwise none is open. `is_broken`: a replacement failed, and the
-- inner desk's open file is what it left. `refused` counts the calls that failed without reaching the inner desk.
pub record UnlockedState (D : Type 0) : Type 0 where
  pub inner : D
  pub is_open : Bool
  pub is_broken : Bool
  pub noted : Noted
  pub refused : ℕ

-- the finished uses and the open file, if the last use left its file open
abbrev pub reopened : List FileUse → List FileUse × Open
reopened (used ∷ next ∷ uses) = (used ∷ (reopened (next ∷ uses)).0, (reopened (next ∷ uses)).1)
reopened (Opened (Found reading) ∷ []) = ([], ToRead reading)
reopened (Created writing ∷ []) = ([], ToWrite writing)
reopened uses = (uses, Closed)

-- the uses of files that count: all of the inner desk, without the file that a failed replacement left
abbrev pub uses_shown : Bool → Record → List FileUse
uses_shown is_broken r = if is_broken then r.uses else all_uses r

-- the record of these uses, the last one still open or not, and of what the inner desk can't record
abbrev pub record_shown : Bool → List FileUse → Noted → Record → Record
record_shown is_open uses noted r = record r {
  uses = if is_open then (reopened uses).0 else uses;
  current = if is_open then (reopened uses).1 else Closed;
  held = noted.held;
  tried = noted.tried;
  releases = noted.releases;
}

-- the state: the inner desk's record as above, and the sum of its count of failures and the refused calls
abbrev pub unlocked : {D : Type 0} → (D → DeskState) → UnlockedState D → DeskState
unlocked view u = let v = view u.inner in
    showing (record_shown u.is_open (uses_shown u.is_broken v.kept) u.noted v.kept)
    (counted (v.failures + u.refused)) v.message_failures

-- whether a file is open after this result of opening one
abbrev pub open_after : Bool → Result ⊤ DeskFault → Bool
open_after is_open (Ok done) = true
open_after is_open (Err NotFound) = false
open_after is_open (Err Failed) = is_open

-- the file was created, and these bytes were written to it
abbrev pub with_written : Bytes → Bytes → Record → Record
with_written name bytes r = after_write bytes (after_create name (Ok tt) r)

-- The inner desk created the file and wrote all bytes. After a failure it wrote a prefix of them, or it couldn't create
-- the file.
abbrev pub WritesInPlace : Bytes → Bytes → DeskState → DeskState → Result ⊤ DeskFault → Type 0
WritesInPlace name bytes old new (Ok done) = ChangesRecord (with_written name bytes) old new
WritesInPlace name bytes old new (Err fault) = (new.kept ≡ old.kept)
    ⊎ ((n : ℕ) × (n ≤ length bytes) × ChangesRecord (with_written name (take n bytes)) old new)
