-- The steps of `Host::read` and `Host::verify`.
use Rattle.std.specs.Prelude.{ℕ, ◌-◌, ◌*◌, min, List, [], ◌∷◌, Option, Some, None}
use Rattle.std.specs.Int.{div_ceil}
use Rattle.avr_part.specs.declared.part.Mem.{Mem}
use Rattle.avr_part.specs.declared.part.Mem.TheVariants.{Flash, Eeprom, Lfuse, Hfuse, Efuse, Lock, Signature, Calibration}
use Rattle.avr_part.specs.Part.{Part, size_of}
use Rattle.stk_frame.specs.declared.command.Command.{Command}
use Rattle.stk_frame.specs.declared.command.Fuse.TheVariants.{Low, High, Extended}
use Rattle.stk_frame.specs.HostCommands.{read_flash_block, read_eeprom_block, read_fuse, read_lock, read_signature, read_calibration}
use Rattle.stk_host.specs.Steps.{commands_by}
use Rattle.stk_host.specs.Places.{each_from, load_flash, load_eeprom}

-- How many bytes a step reads. The last block of flash or EEPROM may be shorter.
abbrev pub read_unit : Mem → ℕ
read_unit Flash = 256
read_unit Eeprom = 256
read_unit mem = 1

-- How many steps read a memory.
abbrev pub read_count : Part → Mem → ℕ
read_count part mem = div_ceil (size_of mem part) (read_unit mem)

-- How many bytes the block from this address on has.
abbrev pub block_size : ℕ → ℕ → ℕ
block_size size start = min 256 (size - start)

-- The first command of a step that reads flash or EEPROM. Other memories need no address.
abbrev pub load_command_at : Part → Mem → ℕ → Option Command
load_command_at part Flash number = Some (load_flash part (number * 256))
load_command_at part Eeprom number = Some (load_eeprom (number * 256))
load_command_at part mem number = None

-- The command that reads the block or byte of this number.
abbrev pub read_command_at : Part → Mem → ℕ → Command
read_command_at part Flash number = read_flash_block (block_size part.flash_size (number * 256))
read_command_at part Eeprom number = read_eeprom_block (block_size part.eeprom_size (number * 256))
read_command_at part Lfuse number = read_fuse Low
read_command_at part Hfuse number = read_fuse High
read_command_at part Efuse number = read_fuse Extended
read_command_at part Lock number = read_lock
read_command_at part Signature number = read_signature number
read_command_at part Calibration number = read_calibration

-- The step of this number.
abbrev pub read_step : Part → Mem → ℕ → List (List Command)
read_step part mem number = commands_by (load_command_at part mem number) (read_command_at part mem number) ∷ []

-- The steps that read a whole memory.
abbrev pub read_steps : Part → Mem → List (List Command)
read_steps part mem = each_from (read_step part mem) 0 (read_count part mem)

-- Each step reads one byte of the signature.
abbrev pub signature_steps : List (List Command)
signature_steps = (read_signature 0 ∷ []) ∷ (read_signature 1 ∷ []) ∷ (read_signature 2 ∷ []) ∷ []
