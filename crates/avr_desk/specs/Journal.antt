-- The calls of a system for files, and those that a desk's record shows.
use Rattle.std.specs.Prelude.{◌≡◌, ◌⊎◌, ℕ, ◌+◌, List, [], ◌∷◌, ◌++◌, Option, Some, None, Result, Ok, Err, flat_map, if◌then◌else◌}
use Rattle.std.specs.Option.{option_len}
use Rattle.avr_io.specs.Named.{is_dash}
use Rattle.avr_io.specs.Record.{Bytes, Record, all_uses}
use Rattle.avr_io.specs.declared.record.FileUse.{FileUse}
use Rattle.avr_io.specs.declared.record.FileUse.TheVariants.{Opened, Created}
use Rattle.avr_io.specs.declared.record.Opening.TheVariants.{Absent, Found}
use Rattle.ghosts.specs.Preserves.{Preserves}

-- Standard input was given; a file was opened to read; or a file was created or replaced.
pub data FileCall : Type 0 where
  Gives : FileCall
  Opens : Bytes → FileCall
  Makes : Bytes → FileCall

-- the calls in order, and how many files the system holds
pub record SystemCalls : Type 0 where
  pub calls : List FileCall
  pub holds : ℕ

-- what a new system has done
abbrev pub no_calls : SystemCalls
no_calls = record { calls = []; holds = 0 }

-- `-` makes no file: the record has the output under this name
abbrev pub made : Bytes → List FileCall
made name = if is_dash name then [] else Makes name ∷ []

-- these calls were made after the others
abbrev pub with_calls : List FileCall → SystemCalls → SystemCalls
with_calls calls done = record done { calls = done.calls ++ calls }

-- one more file is held
abbrev pub with_one_more_held : SystemCalls → SystemCalls
with_one_more_held done = record done { holds = done.holds + 1 }

-- Whatever the system had done, it has now done `change` of it.
abbrev pub ChangesCalls : {S : Type 0} → (SystemCalls → S → Type 0) → (SystemCalls → SystemCalls) → S → S → Type 0
ChangesCalls has_done change old new = (done : SystemCalls) → has_done done old → has_done (change done) new

-- After a success the system has done these calls too. After an error it has done nothing more.
abbrev pub AddsCalls : {S A E : Type 0} → (SystemCalls → S → Type 0) → List FileCall → S → S → Result A E → Type 0
AddsCalls has_done calls old new (Ok value) = ChangesCalls has_done (with_calls calls) old new
AddsCalls has_done calls old new (Err error) = Preserves has_done old new

-- A call that is to hold a file ensures this. If it returns a lock, `IsLock` is true of the lock, and the system holds
-- one more file. If it returns none, `denied` is true. If it fails, `Fails` is true of the error. Without a lock the
-- system has done nothing more.
abbrev pub TakesHold : {S L E : Type 0} → (SystemCalls → S → Type 0) → (L → Type 0) → Type 0 → (E → Type 0) → S → S
    → Result (Option L) E → Type 0
TakesHold has_done IsLock denied Fails old new (Ok (Some lock)) =
    IsLock lock × ChangesCalls has_done with_one_more_held old new
TakesHold has_done IsLock denied Fails old new (Ok None) = denied × Preserves has_done old new
TakesHold has_done IsLock denied Fails old new (Err error) = Fails error × Preserves has_done old new

-- the held file was released, if there was one
abbrev pub ReleasesHeld : {S H : Type 0} → (SystemCalls → S → Type 0) → Option H → S → S → Type 0
ReleasesHeld has_done None old new = Preserves has_done old new
ReleasesHeld has_done (Some hold) old new = (done : SystemCalls) → has_done (with_one_more_held done) old
    → has_done done new

-- A crash may leave nothing that it could not leave before.
abbrev pub CrashLeavesNoMore : {S : Type 0} → (S → Bytes → Option Bytes → Type 0) → S → S → Type 0
CrashLeavesNoMore left old new = (name : Bytes) (found : Option Bytes) → left new name found → left old name found

-- the same, but under this name a crash may also leave what `More` allows
abbrev pub CrashMayAlsoLeave : {S : Type 0} → (S → Bytes → Option Bytes → Type 0) → Bytes → (Option Bytes → Type 0) → S
    → S → Type 0
CrashMayAlsoLeave left name More old new = (other : Bytes) (found : Option Bytes) → left new other found
    → left old other found ⊎ ((other ≡ name) × More found)

-- A call that isn't among the calls of a system: what the system has done is the same, and a crash may leave nothing
-- more.
pub record IsUncounted {S : Type 0} (has_done : SystemCalls → S → Type 0) (left : S → Bytes → Option Bytes → Type 0)
    (old new : S) : Type 0 where
  pub done : Preserves has_done old new
  pub kept : CrashLeavesNoMore left old new

-- The system holds this many files, after some calls.
abbrev pub Counts : {S : Type 0} → (SystemCalls → S → Type 0) → ℕ → S → Type 0
Counts has_done holds now = (done : SystemCalls) × has_done done now × (done.holds ≡ holds)

-- ---- the calls that a record shows

-- The call of a use. Opening an absent file isn't counted.
abbrev pub calls_of : FileUse → List FileCall
calls_of (Opened (Absent name)) = []
calls_of (Opened (Found reading)) = (if is_dash reading.name then Gives else Opens reading.name) ∷ []
calls_of (Created writing) = made writing.name

-- the calls of all uses in a record, and the number of held files
abbrev pub calls_of_record : Record → SystemCalls
calls_of_record r = record { calls = flat_map calls_of (all_uses r); holds = option_len r.held }
