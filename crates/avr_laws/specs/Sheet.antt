-- What the data sheet of a chip vouches for, and the plans that ask for no more.
use Rattle.std.specs.Prelude.{◌≡◌, ◌⊎◌, ℕ, false, List, [], ◌∷◌, Option, Some, None}
use Rattle.std.specs.Int.{bit_at}
use Rattle.avr_image.specs.Image.{byte_at}
use Rattle.avr_part.specs.Part.{Part}
use Rattle.avr_part.specs.declared.part.Mem.{Mem}
use Rattle.avr_part.specs.declared.part.Mem.TheVariants.{Flash, Eeprom, Lock, Calibration}
use Rattle.avr_plan.specs.Plan.{Plan}
use Rattle.avr_plan.specs.declared.planned.Task.{Task}
use Rattle.avr_plan.specs.declared.planned.Task.TheVariants as task
use Rattle.avr_plan.specs.declared.settings.Switches.{Switches}
use Rattle.stk_emu.specs.Effect.{Memories, Write, effect}
use Rattle.avr_laws.specs.Kept.{after_task, before_tasks}
use Rattle.avr_laws.specs.Table.{Row, IsRow, WritesFuse, WritesLock, ReadsFlash, ReadsEeprom, ReadsCalibration, fuse_memory}

-- With this lock byte flash and EEPROM can be read.
abbrev pub IsShown : ℕ → Type 0
IsShown lock = bit_at lock 1 ≡ 1

-- THE SHEET says what a fuse or the lock `becomes` if a byte is written, because some bits stay as they are. It vouches
-- for a fuse or lock byte that is kept whole, and for reading flash and EEPROM if the lock allows it. A lock that hides
-- them takes no other byte. The sheet doesn't vouch for the calibration, which is another byte in each chip.
abbrev pub IsVouched : (Mem → ℕ → ℕ) → (part : Part) → (row : Row) → IsRow part row → Memories → Type 0
IsVouched becomes part row (WritesFuse fuse byte is) x = becomes (fuse_memory fuse) byte ≡ byte
IsVouched becomes part row (WritesLock byte is) x =
    (IsShown x.lock ⊎ (effect part (Write Lock (Some byte ∷ [])) x ≡ x)) × (becomes Lock byte ≡ byte)
IsVouched becomes part row (ReadsFlash start count some few inside even evens is) x = IsShown x.lock
IsVouched becomes part row (ReadsEeprom start count some few inside is) x = IsShown x.lock
IsVouched becomes part row (ReadsCalibration is) x = ⊥
IsVouched becomes part row other x = Unit {0}

-- A task that reads this memory asks for no more; below, one that writes it and reads it back, by its first byte.
abbrev pub SuitsReading : Mem → Memories → Type 0
SuitsReading Flash x = IsShown x.lock
SuitsReading Eeprom x = IsShown x.lock
SuitsReading Calibration x = ⊥
SuitsReading mem x = Unit {0}

-- What a sheet asks of a write: of its memory, its byte, and the memories before it.
abbrev pub SuitsWriting : (Mem → ℕ → ℕ) → Mem → Option ℕ → Memories → Type 0
SuitsWriting becomes Flash byte x = IsShown x.lock
SuitsWriting becomes Eeprom byte x = IsShown x.lock
SuitsWriting becomes Calibration byte x = ⊥
SuitsWriting becomes mem None x = Unit {0}
SuitsWriting becomes Lock (Some byte) x = IsShown x.lock × (becomes Lock byte ≡ byte)
SuitsWriting becomes mem (Some byte) x = becomes mem byte ≡ byte

-- Each task asks for no more, given the memories that those before it leave.
abbrev pub SuitTasks : (Mem → ℕ → ℕ) → Part → Switches → List Task → Memories → Type 0
SuitTasks becomes part s [] x = Unit {0}
SuitTasks becomes part s (task.Write mem image ∷ tasks) x =
    (s.dry ≡ false → SuitsWriting becomes mem (byte_at image 0) x)
    × SuitTasks becomes part s tasks (after_task part s (task.Write mem image) x)
SuitTasks becomes part s (task.Verify mem image ∷ tasks) x = SuitsReading mem x × SuitTasks becomes part s tasks x
SuitTasks becomes part s (task.Read mem format file ∷ tasks) x =
    SuitsReading mem x × SuitTasks becomes part s tasks x

-- The plan asks for no more. An erase that is due comes before the tasks, and unlocks the chip.
abbrev pub SuitsPlan : (Mem → ℕ → ℕ) → Plan → Memories → Type 0
SuitsPlan becomes plan x = SuitTasks becomes plan.part plan.switches plan.tasks (before_tasks plan x)
