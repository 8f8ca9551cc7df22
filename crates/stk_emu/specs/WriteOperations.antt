-- The write operation of each step: an erase, or a write of a page, of a run of EEPROM, of a fuse or of the lock.
use Rattle.std.specs.Prelude.{ℕ, ◌+◌, ◌*◌, ◌%◌, ◌^◌, ◌<◌, ◌≤◌, ◌≡◌, List, [], ◌∷◌, ◌++◌, length, map, replicate, Some, None}
use Rattle.avr_part.specs.declared.part.Mem.{Mem}
use Rattle.avr_part.specs.declared.part.Mem.TheVariants.{Flash, Eeprom, Lfuse, Hfuse, Efuse, Lock}
use Rattle.avr_part.specs.declared.instruction.Fuse as instruction_fuse
use Rattle.avr_part.specs.declared.instruction.Fuse.TheVariants as fuse
use Rattle.avr_part.specs.declared.instruction.Instruction.{Instruction}
use Rattle.avr_part.specs.declared.instruction.Instruction.TheVariants as instruction
use Rattle.avr_part.specs.Instruction.{instruction_of}
use Rattle.avr_part.specs.Part.{Part, size_of}
use Rattle.stk_frame.specs.declared.command.Command.{Command}
use Rattle.stk_frame.specs.declared.command.Command.TheVariants.{LoadAddress, ChipErase, ProgramFlash, ProgramEeprom, ProgramFuse, ProgramLock}
use Rattle.stk_frame.specs.declared.command.Fuse.{Fuse}
use Rattle.stk_frame.specs.HostCommands.{erase, program_page, program_eeprom_block, program_fuse, program_lock, read_flash_block, read_eeprom_block, read_fuse, read_lock, read_signature, read_calibration}
use Rattle.stk_host.specs.Places.{load_flash, load_eeprom}
use Rattle.stk_host.specs.WriteSteps.{write_steps}
use Rattle.stk_emu.specs.Effect.{Image, Item, Erase, Write, Memories, effects}

-- An image of these bytes from this address on.
abbrev pub image_at : ℕ → List ℕ → Image
image_at start bytes = replicate start None ++ map Some bytes

-- The memory that a fuse is.
abbrev pub memory_of_fuse : instruction_fuse.Fuse → Mem
memory_of_fuse fuse.Low = Lfuse
memory_of_fuse fuse.High = Hfuse
memory_of_fuse fuse.Extended = Efuse

-- The write operation of an instruction without an address.
abbrev pub written_by : Instruction → List Item
written_by instruction.Erase = Erase ∷ []
written_by (instruction.WriteFuse f byte) = Write (memory_of_fuse f) (Some byte ∷ []) ∷ []
written_by (instruction.WriteLock byte) = Write Lock (Some byte ∷ []) ∷ []
written_by i = []

-- The write operation of a step, one part of an item; a step that reads has none. The address of flash counts words,
-- and its bit 31 asks for the extended address.
abbrev pub write_operation_of : List Command → List Item
write_operation_of (LoadAddress address ∷ ProgramFlash f ∷ []) =
    Write Flash (image_at (address % 2 ^ 31 * 2) f.bytes) ∷ []
write_operation_of (LoadAddress address ∷ ProgramEeprom f ∷ []) = Write Eeprom (image_at address f.bytes) ∷ []
write_operation_of (ChipErase erase_delay poll_method bytes ∷ []) = written_by (instruction_of bytes)
write_operation_of (ProgramFuse bytes ∷ []) = written_by (instruction_of bytes)
write_operation_of (ProgramLock bytes ∷ []) = written_by (instruction_of bytes)
write_operation_of commands = []

abbrev pub write_operations_of : List (List Command) → List Item
write_operations_of [] = []
write_operations_of (commands ∷ steps) = write_operation_of commands ++ write_operations_of steps

-- The memories after a step.
abbrev pub memories_after_step : Part → List Command → Memories → Memories
memories_after_step part commands m = effects part (write_operation_of commands) m

-- The steps by which a host makes a change; below, changes in order.
abbrev pub steps_of_item : Part → Item → List (List Command)
steps_of_item part Erase = (erase ∷ []) ∷ []
steps_of_item part (Write mem image) = write_steps part mem image

abbrev pub steps_of_items : Part → List Item → List (List Command)
steps_of_items part [] = []
steps_of_items part (item ∷ items) = steps_of_item part item ++ steps_of_items part items

-- What steps may carry.

-- The bytes of the flash page with this number.
pub record IsPage (part : Part) (number : ℕ) (bytes : List ℕ) : Type 0 where
  pub whole : length bytes ≡ part.flash_page
  pub inside : number * part.flash_page + part.flash_page ≤ part.flash_size

-- At least one byte of EEPROM, all within one page.
pub record FitsEepromPage (part : Part) (address : ℕ) (bytes : List ℕ) : Type 0 where
  pub some : 0 < length bytes
  pub within : address % part.eeprom_page + length bytes ≤ part.eeprom_page
  pub inside : address + length bytes ≤ part.eeprom_size

-- The bytes that one step reads: at most 256, inside the memory.
pub record IsBlock (part : Part) (mem : Mem) (start count : ℕ) : Type 0 where
  pub some : 0 < count
  pub few : count ≤ 256
  pub inside : start + count ≤ size_of mem part

-- Flash is read in whole words.
pub record AreWords (start count : ℕ) : Type 0 where
  pub start_even : start % 2 ≡ 0
  pub count_even : count % 2 ≡ 0

-- The steps that a host takes in programming mode: each does one write operation, or reads.
pub data IsStep (part : Part) (commands : List Command) : Type 0 where
  Erases : commands ≡ erase ∷ [] → IsStep part commands
  ProgramsPage : (number : ℕ) (bytes : List ℕ) → IsPage part number bytes
      → commands ≡ load_flash part (number * part.flash_page) ∷ program_page bytes ∷ [] → IsStep part commands
  ProgramsEepromRun : (address : ℕ) (bytes : List ℕ) → FitsEepromPage part address bytes
      → commands ≡ load_eeprom address ∷ program_eeprom_block bytes ∷ [] → IsStep part commands
  ProgramsFuse : (f : Fuse) (byte : ℕ) → commands ≡ program_fuse f byte ∷ [] → IsStep part commands
  ProgramsLock : (byte : ℕ) → commands ≡ program_lock byte ∷ [] → IsStep part commands
  ReadsFlash : (start count : ℕ) → IsBlock part Flash start count → AreWords start count
      → commands ≡ load_flash part start ∷ read_flash_block count ∷ [] → IsStep part commands
  ReadsEeprom : (start count : ℕ) → IsBlock part Eeprom start count
      → commands ≡ load_eeprom start ∷ read_eeprom_block count ∷ [] → IsStep part commands
  ReadsFuse : (f : Fuse) → commands ≡ read_fuse f ∷ [] → IsStep part commands
  ReadsLock : commands ≡ read_lock ∷ [] → IsStep part commands
  ReadsSignature : (place : ℕ) → place < 3 → commands ≡ read_signature place ∷ [] → IsStep part commands
  ReadsCalibration : commands ≡ read_calibration ∷ [] → IsStep part commands

abbrev pub AreSteps : Part → List (List Command) → Type 0
AreSteps part [] = Unit {0}
AreSteps part (commands ∷ steps) = IsStep part commands × AreSteps part steps
